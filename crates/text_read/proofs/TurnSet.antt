-- The set's end: what the count of rules says of it.
-- Assumes nothing.
use Prim.Native.Nat.{ℕ, suc, ◌+◌, ◌-◌, ◌*◌, ◌≤◌, ◌<◌, min}
use native.Mathlib.Omega.{arith}
use mathlib.Core.Path.{◌≡◌}
use mathlib.Core.Bool.{false, ◌&&◌}
use mathlib.Core.List.{List}
use borrow.Author.Tests.{le-leb, lt-leb}
use lib.ListN.{length}
use lib.Dec.{leb}
use Rattle.format.specs.Layout.{block_bytes, most_rules, policy_blocks}
use Rattle.format.specs.Block.{blocks}
use Rattle.format.specs.Policy.{rule_count}
use Rattle.xml.specs.Read.{Reading, good_set}

module _ (second : List ℕ) (room : ℕ) (s : Reading) (n : ℕ) (count : n ≡ min (suc most_rules) (length s.rules)) where
  -- with rules in number, it is good by its blocks
  pub set-tests : (p : ℕ) → p ≡ blocks second - rule_count second → n ≤ most_rules
      → good_set second room s ≡ (leb 1 (n + p) && leb (n + p) policy_blocks && leb (block_bytes * (n + p)) room)
  unfolding good_set
  set-tests p is h =
      let same : n ≡ length s.rules = omega arith in
      rw (same, is, le-leb (length s.rules) 32 (omega arith))

  -- with more it is not
  pub set-too-long : most_rules < n → good_set second room s ≡ false
  unfolding good_set
  set-too-long h = rw (lt-leb (length s.rules) 32 (omega arith))
