-- What a trial run reads: a policy, two bytes for the table's blocks, then requests.
-- Assumes nothing.
use Rattle.std.specs.Prelude.{◌≡◌, ℕ, ◌+◌, ◌*◌, ◌≤◌, min, max, cond, nat_lt, List, length, take, drop, slice_index, Option, None, Some, ⊤}
use Rattle.std.specs.Io.KnownBytes.{Consumes}
use Rattle.format.specs.Layout.{block_bytes, policy_blocks, table_blocks}

-- a read gave bs, the front of the bytes that the reader had, as long as `size` says or as many as there were, and left the rest
abbrev pub ReadsFront : Option (List ℕ) → Option (List ℕ) → (List ℕ → ℕ) → List ℕ → Type 0
ReadsFront None new size bs = ⊤
ReadsFront (Some xs) new size bs = (bs ≡ take (size xs) xs) × (new ≡ Some (drop (size xs) xs))

-- what a read that failed took from the reader stands at the buffer's front
abbrev pub LosesNone : Option (List ℕ) → Option (List ℕ) → List ℕ → Type 0
LosesNone old new buffer = (n : ℕ) × (n ≤ length buffer) × Consumes old new (take n buffer)

-- two bytes as a number
abbrev pub number_of : ℕ → ℕ → ℕ
number_of low high = low + 256 * high

-- how many blocks of a policy are read, by the number that its first block has: 1 at least, 64 at most
abbrev pub promised : ℕ → ℕ → ℕ
promised low high = max 1 (min (number_of low high) policy_blocks)

-- how many blocks are lent for a table: none for a number that no table has
abbrev pub lent : ℕ → ℕ → ℕ
lent low high = cond (nat_lt table_blocks (number_of low high)) 0 (number_of low high)

-- how many bytes of the input are the policy, if there are as many: its first block has their number in its bytes 6 and 7
abbrev pub policy_size : List ℕ → ℕ
policy_size xs = block_bytes * promised (slice_index xs 6) (slice_index xs 7)

-- the number of blocks in the two bytes after the policy: none where the input stops
abbrev pub blocks_lent : List ℕ → ℕ
blocks_lent xs = cond (nat_lt (length xs) 2) 0 (lent (slice_index xs 0) (slice_index xs 1))

-- the two bytes are read, as far as the input has them
abbrev pub ReadsBlocks : Option (List ℕ) → Option (List ℕ) → ℕ → Type 0
ReadsBlocks None new n = ⊤
ReadsBlocks (Some xs) new n = (n ≡ blocks_lent xs) × (new ≡ Some (drop 2 xs))
