-- Numbers in bytes: "All fields are unsigned, little-endian". A byte string is a list of numbers, one a byte.
-- Assumes nothing.
use Rattle.std.specs.Prelude.{ℕ, zero, suc, ◌+◌, ◌*◌, ◌/◌, ◌%◌, ◌^◌, Bool, cond, List, [], ◌∷◌, get_or, take, drop, replicate, eqb}
use Rattle.words.specs.Lists.{all_below}

-- the fields of 1, 2 and 4 bytes at a byte
abbrev pub byte_at : List ℕ → ℕ → ℕ
byte_at s i = get_or s i 0

abbrev pub u16_at : List ℕ → ℕ → ℕ
u16_at s i = get_or s i 0 + 256 * get_or s (i + 1) 0

abbrev pub u32_at : List ℕ → ℕ → ℕ
u32_at s i = get_or s i 0 + 256 * get_or s (i + 1) 0 + 65536 * get_or s (i + 2) 0 + 16777216 * get_or s (i + 3) 0

-- a number's 2 and 4 bytes
abbrev pub bytes2 : ℕ → List ℕ
bytes2 x = x % 256 ∷ x / 256 % 256 ∷ []

abbrev pub bytes4 : ℕ → List ℕ
bytes4 x = x % 256 ∷ x / 256 % 256 ∷ x / 65536 % 256 ∷ x / 16777216 % 256 ∷ []

-- n zero bytes
abbrev pub zeros : ℕ → List ℕ
zeros n = replicate n 0

-- the n bytes from a byte on
abbrev pub part : List ℕ → ℕ → ℕ → List ℕ
part s at n = take n (drop at s)

-- the n bytes from a byte on are zero
unfoldable pub zero_from : List ℕ → ℕ → ℕ → Bool
zero_from s at n = all_below n (λ i. eqb (get_or s (at + i) 0) 0)

-- bit i of a number, the lowest being bit 0
unfoldable pub bit : ℕ → ℕ → Bool
bit i x = eqb (x / 2 ^ i % 2) 1

-- the number whose bits 0, 1, .., n - 1 are f 0, f 1, .., f (n - 1), and that has no other
unfoldable pub bits : ℕ → (ℕ → Bool) → ℕ
bits zero f = 0
bits (suc n) f = bits n f + cond (f n) (2 ^ n) 0
