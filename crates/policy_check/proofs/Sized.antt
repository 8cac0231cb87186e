-- What good bytes of a permission block say: it has at most 61 entries.
-- Assumes nothing.
use Prim.Native.Nat.{ℕ, ◌+◌, ◌-◌, ◌*◌, ◌≤◌}
use mathlib.Core.Path.{◌≡◌}
use mathlib.Core.Bool.{true, ◌&&◌}
use mathlib.Core.List.{List}
use lib.Dec.{leb}
use borrow.Author.Tests.{leb-true}
use Rattle.words.specs.Bytes.{zero_from}
use Rattle.word_laws.proofs.Tests.{both_first}
use Rattle.format.specs.Policy.{entries, good_permission_bytes}

pub few-entries : (b : List ℕ) → good_permission_bytes b ≡ true → entries b ≤ 61
unfolding good_permission_bytes
few-entries b h =
    leb-true (entries b) 61
    (both_first (leb (entries b) 61) (zero_from b 10 6)
    (both_first (leb (entries b) 61 && zero_from b 10 6) (zero_from b (16 + 8 * entries b) (488 - 8 * entries b)) h))
