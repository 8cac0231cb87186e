-- What is read when one part of it is another: the exclusion, or the rule.
-- Assumes nothing.
use Prim.Native.Nat.{ℕ, zero, suc, ◌<◌}
use native.Mathlib.Omega.{arith}
use mathlib.Core.Path.{◌≡◌}
use mathlib.Core.List.{List, [], ◌∷◌, ◌++◌}
use lib.ListN.{get_or}
use Rattle.format.specs.Rule.{Privilege}
use Rattle.fields.specs.Code.{exclusion_code}
use Rattle.fields.specs.declared.kind.ExclusionKind.{ExclusionKind}
use Rattle.fields.specs.declared.kind.ExclusionKind.TheVariants.{Roles, Privileges}
use Rattle.xml.specs.Read.{blank_privilege, no_step, Members, Draft, Reading, new_members, with_member, in_rule, in_exclusion}
use Rattle.tags.specs.Code.{value_at, InText}
use Rattle.tags.specs.declared.span.Span.{Span}
use Rattle.drafts.specs.Draft.{exclusion_block, draft_block, PrivilegeFits, StepFits, MembersFit}
use Rattle.text_read.specs.Stands.{Stands}
use Rattle.text_read.specs.declared.sheet.Sheet.{Sheet}

-- the number of a kind fits a byte
pub code-fits : (k : ExclusionKind) → exclusion_code k < 256
code-fits Roles = omega arith
code-fits Privileges = omega arith

-- an exclusion with no member fits its bytes
pub none-fit : (k m : ℕ) → k < 256 → MembersFit (new_members k m)
none-fit k m h = (h, λ i. (omega arith, omega arith))

-- with one member more it does
pub more-fit : (m : Members) (p : Privilege) → MembersFit m → PrivilegeFits p → MembersFit (with_member m p)
more-fit m p fits fit = (fits.0, all m.members fits.1)
  where
    all : (ps : List Privilege) → ((i : ℕ) → PrivilegeFits (get_or ps i blank_privilege)) → (i : ℕ) → PrivilegeFits (get_or (ps ++ (p ∷ [])) i blank_privilege)
    all [] h zero = fit
    all [] h (suc i) = (omega arith, omega arith)
    all (q ∷ ps) h zero = h 0
    all (q ∷ ps) h (suc i) = all ps (λ j. h (suc j)) i

-- a step that is not set fits its bytes
pub no-step-fits : StepFits no_step
no-step-fits = (omega arith, (omega arith, omega arith))

module _ {t : List ℕ} {s : Reading} {sheet : Sheet} (stands : Stands t s sheet) where
  -- another exclusion
  pub exclusion-now : {x : List ℕ} (m : Members) → x ≡ exclusion_block m → MembersFit m
      → Stands t (in_exclusion s m) (record { exclusion = x; rule = sheet.rule; context = sheet.context; rules = sheet.rules; kept = sheet.kept })
  exclusion-now m e fits =
      record {
        exclusion = e;
        members = fits;
        draft = stands.draft;
        first = stands.first;
        last = stands.last;
        context = stands.context;
        in_text = stands.in_text;
        rules = stands.rules;
        kept = stands.kept;
        sized = stands.sized;
      }

  -- another rule, with its context elsewhere
  pub rule-now : {d : List ℕ} (dr : Draft) (c : Span) → d ≡ draft_block [] dr → StepFits dr.first → StepFits dr.last → value_at t c ≡ dr.context → InText t c
      → Stands t (in_rule s dr) (record { exclusion = sheet.exclusion; rule = d; context = c; rules = sheet.rules; kept = sheet.kept })
  rule-now dr c e first last context within =
      record {
        exclusion = stands.exclusion;
        members = stands.members;
        draft = e;
        first = first;
        last = last;
        context = context;
        in_text = within;
        rules = stands.rules;
        kept = stands.kept;
        sized = stands.sized;
      }
