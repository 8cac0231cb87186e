-- "lie in at least one run of any rule and place": an entry that lies in a run of a rule at any place lies in the one at its own place. So the definition
-- of `lies`, which looks there alone, misses nothing.
-- Assumes nothing.
use Prim.Native.Nat.{ℕ}
use mathlib.Core.Path.{◌≡◌, sym, ◌∙◌}
use mathlib.Core.Bool.{true}
use mathlib.Core.List.{List}
use Rattle.words.specs.Lists.{keep}
use Rattle.word_laws.proofs.Every.{Every, every-weaken, every-forall}
use Rattle.word_laws.proofs.Tests.{both_first}
use Rattle.format.specs.Policy.{Policy}
use Rattle.register.specs.Run.{Event, entries_of}
use Rattle.register.specs.Register.{run_of, is_in, lies}
use Rattle.demand3.proofs.Found.{found-kept}
use Rattle.demand3.proofs.Lies.{stands, run_lies}

pub own-place : (p : Policy) (l : List Event) (i : ℕ) → Every (λ x. (key : List ℕ) → is_in x (run_of p l i key) ≡ true → lies p l i x ≡ true) (entries_of l)
unfolding stands
own-place p l i = every-forall (λ key x. is_in x (run_of p l i key) ≡ true → lies p l i x ≡ true) (entries_of l) each
  where
    each : (key : List ℕ) → Every (λ x. is_in x (run_of p l i key) ≡ true → lies p l i x ≡ true) (entries_of l)
    each key =
        every-weaken {P = λ x. is_in x (keep (stands p i l key) (entries_of l)) ≡ stands p i l key x} {Q = λ x. is_in x (run_of p l i key) ≡ true → lies p l i x ≡ true}
        (λ x f h. both_first _ _ (sym f ∙ rw (run_lies p i key l) h)) (found-kept (stands p i l key) l)
