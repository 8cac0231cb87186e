-- What writing asks of a rule, and what that says of its parts.
-- Assumes nothing.
use Prim.Native.Nat.{ℕ, ◌≤◌, ◌<◌}
use native.Mathlib.Omega.{arith}
use mathlib.Core.Path.{◌≡◌}
use mathlib.Core.Bool.{true, false, not, ◌||◌}
use mathlib.Core.List.{List}
use mathlib.Core.Option.{Option, none}
use borrow.Author.Tests.{not-true}
use lib.Dec.{eqb}
use Rattle.words.specs.Lists.{any_below}
use Rattle.words.specs.First.{first}
use Rattle.word_laws.proofs.First.{none_first, none-second, none-at, passes-unless}
use Rattle.word_laws.proofs.Tests.{any_below-at}
use Rattle.format.specs.Answer.{Refusal, refusal}
use Rattle.format.specs.Rule.{is_range, Exclusion, Rule}
use Rattle.xml.specs.Write.{step_text_fault, member_fault, level_names_fault, rule_text_fault}

-- what writing asks of a rule: its names are listed, and of each exclusion m is one digit and the kind one of the two
pub record Writable (l : List ℕ) (r : Rule) : Type 0 where
  pub faultless : rule_text_fault l r ≡ none
  pub digit : (e : ℕ) → e < r.exclusions → (r.exclusion e).m ≤ 9
  pub kind : (e : ℕ) → e < r.exclusions → eqb (r.exclusion e).kind 1 || eqb (r.exclusion e).kind 2 ≡ true

-- its names are listed, part by part, and no level is a range
pub record Listed (l : List ℕ) (r : Rule) : Type 0 where
  pub first_step : step_text_fault l r.first_step ≡ none
  pub last_step : step_text_fault l r.last_step ≡ none
  pub member : (e : ℕ) → e < r.exclusions → (i : ℕ) → i < (r.exclusion e).n → member_fault l (r.exclusion e).kind ((r.exclusion e).member i) ≡ none
  pub level : (i : ℕ) → i < r.depth → level_names_fault l (r.level i) ≡ none
  pub no-range : (i : ℕ) → i < r.depth → is_range (r.level i) ≡ false

pub parts-listed : (l : List ℕ) (r : Rule) → rule_text_fault l r ≡ none → Listed l r
unfolding rule_text_fault
parts-listed l r h =
    let members : ℕ → Option Refusal = λ e. first (λ i. member_fault l (r.exclusion e).kind ((r.exclusion e).member i)) 0 (r.exclusion e).n in
    let h₁ = none-second (step_text_fault l r.first_step) _ h in
    let h₂ = none-second (step_text_fault l r.last_step) _ h₁ in
    let h₃ = none-second (first members 0 r.exclusions) _ h₂ in
    let h₄ = none-second (first (λ i. level_names_fault l (r.level i)) 0 r.depth) _ h₃ in
    let ranges = any_below r.depth (λ i. is_range (r.level i)) in
    record {
      first_step = none_first _ _ h;
      last_step = none_first _ _ h₁;
      member =
          λ e b i c.
          none-at _ 0 (r.exclusion e).n i (none-at members 0 r.exclusions e (none_first _ _ h₂) (omega arith) (omega arith))
          (omega arith) (omega arith);
      level = λ i b. none-at _ 0 r.depth i (none_first _ _ h₃) (omega arith) (omega arith);
      no-range = λ i b. any_below-at r.depth i (λ j. is_range (r.level j)) (not-true ranges (passes-unless (not ranges) (refusal 43 0 0) h₄)) b;
    }

-- what holds of an exclusion with a number in its kind's place holds of it, if that is its kind
pub of-kind : (P : Exclusion → Type 0) (c : ℕ) (x : Exclusion) → x.kind ≡ c
    → P (record { kind = c; m = x.m; n = x.n; pad = x.pad; member = x.member }) → P x
of-kind P c x e p = rw e p
