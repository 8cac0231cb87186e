-- "Blocks of 512 bytes": a block of an image, its check, and the sums that it stores.
-- Assumes nothing.
use Rattle.std.specs.Prelude.{ℕ, ◌*◌, ◌/◌, Bool, ◌&&◌, List, ◌++◌, length, take, eqb, leb}
use Rattle.words.specs.Bytes.{u16_at, u32_at, bytes4, part}
use Rattle.words.specs.Sums.{Sums, sums, words}
use Rattle.format.specs.Layout.{block_bytes, check_at, check_b_at}

-- how many whole blocks an image has
abbrev pub blocks : List ℕ → ℕ
blocks s = length s / block_bytes

-- the length is "512 times 1 to" a limit
unfoldable pub good_length : ℕ → List ℕ → Bool
good_length most s = eqb (block_bytes * blocks s) (length s) && leb 1 (blocks s) && leb (blocks s) most

-- block k of an image, from 0
abbrev pub block : List ℕ → ℕ → List ℕ
block s k = part s (block_bytes * k) block_bytes

-- "bytes 0-3 kind .., 4-5 block number from 0, 6-7 blocks in all"
abbrev pub kind : List ℕ → ℕ
kind b = u32_at b 0

abbrev pub number : List ℕ → ℕ
number b = u16_at b 4

abbrev pub total : List ℕ → ℕ
total b = u16_at b 6

-- "Bytes 504 to 511 are the check, two 32-bit numbers a and b over the 126 32-bit words before them."
unfoldable pub check_of : List ℕ → Sums
check_of b = sums (words (take check_at b))

-- "The block stores a, then b."
unfoldable pub good_check : List ℕ → Bool
good_check b = eqb (check_of b).a (u32_at b check_at) && eqb (check_of b).b (u32_at b check_b_at)

-- the bytes of two sums, as a block stores them
unfoldable pub sum_bytes : Sums → List ℕ
sum_bytes s = bytes4 s.a ++ bytes4 s.b

-- a block's 504 bytes with the check after them
unfoldable pub sealed : List ℕ → List ℕ
sealed body = body ++ sum_bytes (sums (words body))
