-- The check of a block and the stamp of a policy: "two 32-bit numbers a and b" over 32-bit words.
-- Assumes nothing.
use Rattle.std.specs.Prelude.{ℕ, ◌+◌, ◌*◌, ◌%◌, List, [], ◌∷◌}

pub record Sums : Type 0 where
  pub a : ℕ
  pub b : ℕ

-- "wrapping at 2 to the 32"
abbrev pub wrap : ℕ → ℕ
wrap x = x % 4294967296

-- "For each word, a becomes a + word, then b becomes b + a"
unfoldable pub add_word : Sums → ℕ → Sums
add_word s w = let a' = wrap (s.a + w) in record { a = a'; b = wrap (s.b + a') }

unfoldable pub add_words : Sums → List ℕ → Sums
add_words s [] = s
add_words s (w ∷ ws) = add_words (add_word s w) ws

-- "Start a = 1, b = 0."
unfoldable pub sums : List ℕ → Sums
sums ws = add_words (record { a = 1; b = 0 }) ws

-- the words of a byte string, four bytes each; fewer than four at the end make none
unfoldable pub words : List ℕ → List ℕ
words [] = []
words (p ∷ []) = []
words (p ∷ q ∷ []) = []
words (p ∷ q ∷ r ∷ []) = []
words (p ∷ q ∷ r ∷ s ∷ rest) = (p + 256 * q + 65536 * r + 16777216 * s) ∷ words rest
