-- The tags of a text, taken one after the other.
-- Assumes nothing.
use Prim.Native.Nat.{ℕ, suc, ◌+◌, ◌-◌, ◌≤◌, ◌<◌}
use native.Mathlib.Omega.{arith}
use native.Mathlib.Numerals.{add-one}
use mathlib.Core.Path.{◌≡◌, sym, ap, subst, ◌∙◌}
use mathlib.Core.List.{List, [], ◌∷◌, map}
use lib.ListN.{length, take}
use Rattle.words.specs.Lists.{keep}
use Rattle.format.specs.Block.{blocks}
use Rattle.format.specs.Policy.{rule_count}
use Rattle.format.specs.declared.answer.TextRefusal.{TextRefusal}
use Rattle.std.specs.Prelude.{Ok, Err}
use Rattle.xml.specs.Tags.{Tag, squeezed, parted, ended, tags_in, tag_of}
use Rattle.xml.specs.Read.{Reading, nothing_read}
use Rattle.tags.specs.Cut.{span, until}
use Rattle.tags.specs.Code.{InText}
use Rattle.tags.proofs.Spans.{span_none}
use Rattle.tags.proofs.Tags.{tags-more, tags-none}
use Rattle.text_read.specs.Stands.{Stands, Turned, ReadIs}
use Rattle.text_read.specs.declared.sheet.Sheet.{Sheet}
use Rattle.text_read.proofs.TurnsPermissions.{blanks, blank-permissions}
use Rattle.text_read.proofs.TurnsRun.{SoFar, run-start, run_ends, run_more, run-stops}

-- what the tags of a text say
abbrev pub said_in : List ℕ → List Tag
said_in t = map tag_of (tags_in t)

-- the tags before byte `at` are taken without a fault; an image has p permission blocks
pub record Run (l t : List ℕ) (end p room at : ℕ) (sheet : Sheet) : Type 0 where
  pub within : at ≤ end
  pub so_far : (second : List ℕ) → p ≡ blocks second - rule_count second → SoFar t l second room (said_in (take end t)) (said_in (span t at end)) sheet

-- a text from its first byte on is the text
from_first : (t : List ℕ) (end : ℕ) → span t 0 end ≡ take end t
from_first t end = let e : end - 0 ≡ end = omega arith in rw e

module _ {l t : List ℕ} {end p room : ℕ} where
  pub text-start : {sheet : Sheet} → Stands t nothing_read sheet → Run l t end p room 0 sheet
  text-start stands = record { within = omega arith; so_far = λ second e. rw (from_first t end) (run-start stands) }

  module _ {at : ℕ} {sheet : Sheet} (run : Run l t end p room at sheet) where
    -- the context lies in the text
    pub context-in : InText t sheet.context
    context-in = (run.so_far (blanks p) (blank-permissions p)).stands.in_text

    -- the text is at its end
    pub text-ends : end ≤ at → (second : List ℕ) → p ≡ blocks second - rule_count second → ReadIs l second room (said_in (take end t)) sheet (Ok tt)
    unfolding tags_in squeezed keep ended
    text-ends h second e =
        let same : at ≡ end = omega (arith, run.within) in
        let empty : said_in (span t at end) ≡ [] = rw (same, span_none t end) in
        run_ends (subst (λ (ts : List Tag). SoFar t l second room (said_in (take end t)) ts sheet) empty (run.so_far second e))

    module _ (long : end ≤ length t) (e : ℕ) (is : e ≡ at + until 62 (span t at end)) where
      -- or it has no tag more
      pub text-stops : end ≤ e → (second : List ℕ) → p ≡ blocks second - rule_count second → ReadIs l second room (said_in (take end t)) sheet (Ok tt)
      text-stops h second q =
          run_ends (subst (λ (ts : List Tag). SoFar t l second room (said_in (take end t)) ts sheet) (tags-none t at end long e is h) (run.so_far second q))

      -- one tag more is taken
      module _ (h : e < end) {tag : Tag} (says : tag ≡ tag_of (parted 34 (squeezed (span t at e)))) where
        now : (second : List ℕ) → p ≡ blocks second - rule_count second
            → SoFar t l second room (said_in (take end t)) (tag ∷ said_in (span t (suc e) end)) sheet
        now second q =
            subst (λ (ts : List Tag). SoFar t l second room (said_in (take end t)) ts sheet)
            (tags-more t at end long e is h ∙ ap (λ (g : Tag). g ∷ said_in (span t (suc e) end)) (sym says)) (run.so_far second q)

        -- with a fault
        pub text-refused :
            {sheet' : Sheet} (f : TextRefusal)
            → ((second : List ℕ) (s : Reading) → p ≡ blocks second - rule_count second → Stands t s sheet → Turned t l second room s tag sheet' (Err f))
            → (second : List ℕ) → p ≡ blocks second - rule_count second → ReadIs l second room (said_in (take end t)) sheet' (Err f)
        text-refused f turned second q = let r = now second q in run-stops r f (turned second r.reading q r.stands).fault

        -- or without
        pub text-more :
            {sheet' : Sheet}
            → ((second : List ℕ) (s : Reading) → p ≡ blocks second - rule_count second → Stands t s sheet → Turned t l second room s tag sheet' (Ok tt))
            → Run l t end p room (e + 1) sheet'
        text-more turned =
            record {
              within = omega arith;
              so_far =
                  λ second q.
                  let r = now second q in
                  let turn = turned second r.reading q r.stands in
                  rw (add-one e) (run_more r turn.fault turn.now);
            }
