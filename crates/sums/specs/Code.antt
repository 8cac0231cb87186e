-- What the values of the code stand for.
-- Assumes nothing.
use Rattle.std.specs.Prelude.{ℕ, zero, suc, ◌+◌, ◌-◌, ◌*◌, List}
use Rattle.words.specs.Bytes.{u32_at}
use Rattle.words.specs.Sums.{Sums, wrap, add_word}
use Rattle.sums.specs.declared.sum.Sum.{Sum}
use Rattle.sums.specs.declared.sum.Four.{Four}

-- a word has 32 bits
abbrev pub word_bytes : ℕ
word_bytes = 4

-- the state of the two sums
abbrev pub sums_of : Sum → Sums
sums_of s = record { a = s.a; b = s.b }

-- the words of a block that its check is over
abbrev pub checked_words : ℕ
checked_words = 126

-- the state after n words more, by the sums t over them alone, which began with a = 1 and b = 0
unfoldable pub go_on : Sums → ℕ → Sums → Sums
go_on s n t =
    record { a = wrap (t.a + (s.a + 4294967295)); b = wrap (t.b + (s.b + n * (s.a + 4294967295))) }

-- word i of a byte string, from a byte on
unfoldable pub word_from : List ℕ → ℕ → ℕ → ℕ
word_from s at i = u32_at s (at + word_bytes * i)

-- four states of the two sums, side by side
pub record Fours : Type 0 where
  pub w : Sums
  pub x : Sums
  pub y : Sums
  pub z : Sums

abbrev pub four_of : Four → Fours
four_of f = record { w = sums_of f.w; x = sums_of f.x; y = sums_of f.y; z = sums_of f.z }

-- one word more for each
unfoldable pub add_four : Fours → ℕ → ℕ → ℕ → ℕ → Fours
add_four f p q r t = record { w = add_word f.w p; x = add_word f.x q; y = add_word f.y r; z = add_word f.z t }

-- after n words each, from 0
unfoldable pub fours : (ℕ → ℕ) → ℕ → Fours
fours word zero =
    let start : Sums = record { a = 0; b = 0 } in
    record { w = start; x = start; y = start; z = start }
fours word (suc n) = add_four (fours word n) (word (4 * n)) (word (4 * n + 1)) (word (4 * n + 2)) (word (4 * n + 3))

-- what they come to as one state that began with a = 1 and b = 0, after n words each
unfoldable pub together : Fours → ℕ → Sums
together f n =
    record {
      a = wrap (1 + (f.w.a + f.x.a + f.y.a + f.z.a));
      b = wrap (4 * n + 4 * (f.w.b + f.x.b + f.y.b + f.z.b) + (1099511627776 - (f.x.a + 2 * f.y.a + 3 * f.z.a)));
    }
