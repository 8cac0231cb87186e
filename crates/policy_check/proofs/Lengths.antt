-- What the check of a policy says of its length.
-- Assumes nothing.
use Prim.Native.Nat.{ℕ, ◌*◌, ◌≤◌}
use mathlib.Core.Path.{◌≡◌}
use mathlib.Core.Bool.{Bool, true, ◌&&◌}
use mathlib.Core.List.{List}
use mathlib.Core.Option.{none}
use borrow.Author.Tests.{eqb-true, leb-true}
use lib.ListN.{length}
use lib.Dec.{eqb, leb}
use Rattle.word_laws.proofs.First.{none_first, passes-unless}
use Rattle.word_laws.proofs.Tests.{both_first, both-second}
use Rattle.format.specs.Block.{blocks, good_length}
use Rattle.format.specs.Policy.{policy_fault}

-- the length of an accepted image
abbrev pub Blocked : ℕ → List ℕ → Type 0
Blocked most s = (512 * blocks s ≡ length s) × (1 ≤ blocks s) × (blocks s ≤ most)

pub good-blocked : (most : ℕ) (s : List ℕ) → good_length most s ≡ true → Blocked most s
unfolding good_length
good-blocked most s e =
    (eqb-true (512 * blocks s) (length s) (both_first a b (both_first (a && b) c e)), leb-true 1 (blocks s) (both-second a b (both_first (a && b) c e)), leb-true (blocks s) most (both-second (a && b) c e))
  where
    a : Bool
    a = eqb (512 * blocks s) (length s)

    b : Bool
    b = leb 1 (blocks s)

    c : Bool
    c = leb (blocks s) most

pub policy-blocked : (s : List ℕ) → policy_fault s ≡ none → Blocked 64 s
unfolding policy_fault
policy-blocked s e = good-blocked 64 s (passes-unless _ _ (none_first _ _ e))
