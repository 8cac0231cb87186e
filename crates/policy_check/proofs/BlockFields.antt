-- The kind of a block, read where it stands in the image; and how many blocks an image of a good length has.
-- Assumes nothing.
use Prim.Native.Nat.{ℕ, ◌+◌, ◌*◌, ◌≤◌}
use mathlib.Core.Path.{◌≡◌}
use mathlib.Core.Bool.{true, ◌&&◌}
use mathlib.Core.List.{List}
use native.Mathlib.Omega.{arith}
use lib.ListN.{length}
use lib.Dec.{eqb, leb}
use borrow.Author.Tests.{leb-true}
use Rattle.words.specs.Bytes.{u32_at}
use Rattle.word_laws.proofs.Parts.{u32_at-part}
use Rattle.word_laws.proofs.Tests.{both-second}
use Rattle.format.specs.Layout.{block_bytes}
use Rattle.format.specs.Block.{block, blocks, kind, good_length}

pub kind-of-block : (s : List ℕ) (k : ℕ) → kind (block s k) ≡ u32_at s (block_bytes * k + 0)
kind-of-block s k = u32_at-part s (block_bytes * k) block_bytes 0 (omega arith)

pub few-blocks : (most : ℕ) (s : List ℕ) → good_length most s ≡ true → blocks s ≤ most
unfolding good_length
few-blocks most s h =
    leb-true (blocks s) most (both-second (eqb (512 * blocks s) (length s) && leb 1 (blocks s)) (leb (blocks s) most) h)
