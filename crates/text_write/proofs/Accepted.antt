-- The rules of an accepted policy can be written.
-- Assumes nothing.
use Prim.Native.Nat.{ℕ, ◌<◌}
use native.Mathlib.Omega.{arith}
use mathlib.Core.Path.{◌≡◌}
use mathlib.Core.Bool.{Bool, true, ◌&&◌, ◌||◌}
use mathlib.Core.List.{List}
use mathlib.Core.Option.{none}
use lib.Dec.{eqb, leb, ltb}
use borrow.Author.Tests.{leb-true}
use Rattle.words.specs.Lists.{all_below}
use Rattle.word_laws.proofs.Tests.{both_first, both-second}
use Rattle.format.specs.Block.{block}
use Rattle.format.specs.Rule.{Exclusion, rule_at, good_roles, good_privileges, good_exclusion, blank_privilege}
use Rattle.format.specs.Policy.{policy_fault, rule_count}
use Rattle.format_laws.proofs.AcceptedPolicy.{depth-few, exclusions-few, exclusion-good}
use Rattle.text_write.specs.Pieces.{Countable, Writable}

-- a good exclusion has at most eight members, and m of one digit
countable : (x : Exclusion) → good_exclusion x ≡ true → Countable x
unfolding good_exclusion
countable x good =
    let small = leb-true x.n 8 (few (eqb x.pad 0) (leb 2 x.m) (leb x.m x.n) (leb x.n 8) members rest good) in
    let least = leb-true x.m x.n (low (eqb x.pad 0) (leb 2 x.m) (leb x.m x.n) (leb x.n 8) members rest good) in
    record { digit = omega arith; members = small }
  where
    members : Bool
    members = (eqb x.kind 1 && good_roles x) || (eqb x.kind 2 && good_privileges x)

    rest : Bool
    rest = all_below 8 (λ j. ltb j x.n || blank_privilege (x.member j))

    few : (a b c d e f : Bool) → a && b && c && d && e && f ≡ true → d ≡ true
    few a b c d e f t = both-second (a && b && c) d (both_first (a && b && c && d) e (both_first (a && b && c && d && e) f t))

    low : (a b c d e f : Bool) → a && b && c && d && e && f ≡ true → c ≡ true
    low a b c d e f t =
        both-second (a && b) c (both_first (a && b && c) d (both_first (a && b && c && d) e (both_first (a && b && c && d && e) f t)))

-- block k of an accepted policy, if it is a rule's
pub writable : (s : List ℕ) → policy_fault s ≡ none → (k : ℕ) → k < rule_count s → Writable (block s k)
unfolding rule_at
writable s accepted k h =
    record {
      depth = depth-few s accepted k h;
      exclusions = exclusions-few s accepted k h;
      each = λ e g. countable ((rule_at (block s k)).exclusion e) (exclusion-good s accepted k h e g);
    }
