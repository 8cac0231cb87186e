-- A request as 32-bit words: what its tests say of a word. A word is two fields of 2 bytes, the first of them its low half.
-- Assumes nothing.
use Rattle.std.specs.Prelude.{ℕ, ◌+◌, ◌/◌, ◌%◌, Bool, cond, not, ◌&&◌, ◌||◌, eqb}

-- both numbers of a word are from 1
unfoldable pub used_word : ℕ → Bool
used_word x = not (eqb (x % 65536) 0) && not (eqb (x / 65536) 0)

-- the four words of a context: "Used levels come first; the others are zero."
unfoldable pub good_level_words : ℕ → ℕ → ℕ → ℕ → Bool
good_level_words w x y z =
    (eqb w 0 || used_word w)
    && (eqb x 0 || (used_word x && used_word w))
    && (eqb y 0 || (used_word y && (used_word w && used_word x)))
    && (eqb z 0 || (used_word z && (used_word w && used_word x && used_word y)))

-- the last two of them, behind two that are used
unfoldable pub good_last_words : ℕ → ℕ → Bool
good_last_words y z = (eqb y 0 || used_word y) && (eqb z 0 || (used_word z && used_word y))

-- how many of them are used
unfoldable pub used_words : ℕ → ℕ → ℕ → ℕ → ℕ
used_words w x y z = cond (used_word w) 1 0 + cond (used_word x) 1 0 + cond (used_word y) 1 0 + cond (used_word z) 1 0
