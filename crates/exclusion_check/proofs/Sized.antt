-- What a good size says: an exclusion has at most eight members. And an exclusion by its size: one of a bad size is bad, and of
-- one of a good size the members decide.
-- Assumes nothing.
use Prim.Native.Nat.{◌≤◌}
use mathlib.Core.Path.{◌≡◌}
use mathlib.Core.Bool.{true, false, ◌&&◌, ◌||◌}
use lib.Dec.{eqb, leb, ltb}
use borrow.Author.Tests.{leb-true}
use Rattle.words.specs.Lists.{all_below}
use Rattle.word_laws.proofs.Tests.{both-second}
use Rattle.format.specs.Rule.{Exclusion, good_exclusion, blank_privilege}
use Rattle.exclusion_check.specs.Parts.{good_size, good_members}

module _ (x : Exclusion) where
  pub few-members : good_size x ≡ true → x.n ≤ 8
  few-members h = leb-true x.n 8 (both-second (eqb x.pad 0 && leb 2 x.m && leb x.m x.n) (leb x.n 8) h)

  pub by_members : good_size x ≡ true → good_exclusion x ≡ good_members x && all_below 8 (λ i. ltb i x.n || blank_privilege (x.member i))
  unfolding good_exclusion
  by_members h = rw h

  pub bad-size : good_size x ≡ false → good_exclusion x ≡ false
  unfolding good_exclusion
  bad-size h = rw h
