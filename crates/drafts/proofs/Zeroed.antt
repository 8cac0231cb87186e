-- A block that was zeroed from its first byte to its last.
-- Assumes nothing.
use Prim.Native.Nat.{ℕ}
use mathlib.Core.Path.{◌≡◌, ◌∙◌}
use mathlib.Core.List.{List}
use lib.ListN.{length}
use Rattle.words.specs.Bytes.{zeros}
use Rattle.table_write.specs.Writing.{over}
use Rattle.table_write.proofs.Over.{over-end}

-- all its bytes are zero
pub zeroed : (s : List ℕ) {s' : List ℕ} → s' ≡ over s 0 512 (zeros 512) → length s ≡ 512 → s' ≡ zeros 512
zeroed s put long = put ∙ over-end s 0 512 (zeros 512) long
