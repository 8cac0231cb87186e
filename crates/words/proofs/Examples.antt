-- Worked examples of bytes, words, the sum and lists, document 01's four sums among them. Each is broken by one of this crate's must-fail edits.
-- No edit alters these: byte_at, zeros and part are other names for words of the library (an element of a list, n zeros, n elements from a byte on);
-- unless and non_empty are two cases each, which an edit could only exchange.
-- Assumes nothing.
use Prim.Native.Nat.{ℕ}
use mathlib.Core.Path.{◌≡◌, refl}
use mathlib.Core.Bool.{true, false, ◌||◌}
use mathlib.Core.List.{[], ◌∷◌, map}
use mathlib.Core.Option.{Option, none, some}
use lib.ListN.{replicate}
use lib.Dec.{eqb, leb}
use Rattle.words.specs.Lists.{keep, any_of, non_empty, all_below, any_below, tab, sum_below, same_list}
use Rattle.words.specs.First.{◌or_else◌, unless, first}
use Rattle.words.specs.Bytes.{byte_at, u16_at, u32_at, bytes2, bytes4, part, zeros, zero_from, bit, bits}
use Rattle.words.specs.Sums.{sums, add_words, add_word, words}

-- what these examples compute with
opened : Unit {0}
unfolding sums add_words add_word words keep any_of non_empty all_below any_below tab sum_below same_list zero_from bit bits ◌or_else◌ unless first
opened = tt

-- ---- the sum

-- "no words give (1, 0)"
pub no_words : sums [] ≡ record { a = 1; b = 0 }
unfolding opened
no_words = refl

-- "the word 4294967295 gives (0, 0)"
pub one_word : sums (4294967295 ∷ []) ≡ record { a = 0; b = 0 }
unfolding opened
one_word = refl

-- "words 1, 2 give (4, 6)"
pub two-words : sums (1 ∷ 2 ∷ []) ≡ record { a = 4; b = 6 }
unfolding opened
two-words = refl

-- "126 zero words give (1, 126)"
pub zero-words : sums (replicate 126 0) ≡ record { a = 1; b = 126 }
unfolding opened
zero-words = refl

-- "both wrapping at 2 to the 32", and not before: a and b reach 2147483648; b passes 4294967295 with a below it
pub wraps : map sums ((2147483647 ∷ []) ∷ (2147483647 ∷ 1 ∷ []) ∷ []) ≡ record { a = 2147483648; b = 2147483648 } ∷ record { a = 2147483649; b = 1 } ∷ []
unfolding opened
wraps = refl

-- ---- bytes

-- "All fields are unsigned, little-endian": the bytes 1, 2, 3, 4 as fields of one, two and four bytes, then as words; three bytes make no word
pub numbers-read :
    (let s = 1 ∷ 2 ∷ 3 ∷ 4 ∷ 255 ∷ 255 ∷ 255 ∷ 255 ∷ 9 ∷ 9 ∷ 9 ∷ [] in (byte_at s 1 ∷ u16_at s 1 ∷ u32_at s 0 ∷ []) ∷ words s ∷ [])
    ≡ (2 ∷ 770 ∷ 67305985 ∷ []) ∷ (67305985 ∷ 4294967295 ∷ []) ∷ []
unfolding opened
numbers-read = refl

-- the same numbers written
pub numbers-written : (bytes2 770 ∷ bytes4 67305985 ∷ []) ≡ (2 ∷ 3 ∷ []) ∷ (1 ∷ 2 ∷ 3 ∷ 4 ∷ []) ∷ []
unfolding opened
numbers-written = refl

-- "Bytes not named are zero": of 9, 0, 0, 9 the two in the middle are; the first three and the last three are not
pub zero-bytes :
    (let s = 9 ∷ 0 ∷ 0 ∷ 9 ∷ [] in zero_from s 1 2 ∷ zero_from s 0 3 ∷ zero_from s 1 3 ∷ same_list (part s 1 2) (zeros 2) ∷ [])
    ≡ true ∷ false ∷ false ∷ true ∷ []
unfolding opened
zero-bytes = refl

-- "role k is bit k - 1", "rule r at bit r - 1": the bits of 5, and of 4294967295 the highest
pub bits-read : (tab (λ i. bit i 5) 0 4 ∷ (bit 31 4294967295 ∷ []) ∷ []) ≡ (true ∷ false ∷ true ∷ false ∷ []) ∷ (true ∷ []) ∷ []
unfolding opened
bits-read = refl

-- a number by its bits 0 and 2, no further than asked; all 32
pub bits-written : (bits 3 (λ i. eqb i 0 || eqb i 2) ∷ bits 2 (λ i. eqb i 0 || eqb i 2) ∷ bits 32 (λ i. true) ∷ []) ≡ 5 ∷ 1 ∷ 4294967295 ∷ []
unfolding opened
bits-written = refl

-- ---- rows and lists

-- a row that applies to each number but 4
abbrev row : ℕ → Option ℕ
row k = unless (eqb k 4) k

-- "Rows are tested from top to bottom": the first of 4, 5, 6, 7 that applies is 5; of 7, 8 it is 7; of none there is none; 4 or else 6; 5 or else 6
pub rows-in-order : (first row 4 4 ∷ first row 7 2 ∷ first row 7 0 ∷ (row 4 or_else row 6) ∷ (row 5 or_else row 6) ∷ []) ≡ some 5 ∷ some 7 ∷ none ∷ some 6 ∷ some 5 ∷ []
unfolding opened
rows-in-order = refl

-- "the rest keep their order": those of 5, 6, 7, 8 that are 6 or more; and a sum, 0 + 1 + 2 + 3 + 4
pub lists-in-order : (keep (leb 6) (tab (λ i. i) 5 4) ∷ (sum_below 5 (λ i. i) ∷ []) ∷ []) ≡ (6 ∷ 7 ∷ 8 ∷ []) ∷ (10 ∷ []) ∷ []
unfolding opened
lists-in-order = refl

-- tests of some element and of each: of 5, 6, 7, 8, of the numbers below 4, and of two lists that agree in the one place and not in the other
pub some-and-each :
    (let s = tab (λ i. i) 5 4 in
    (any_of (leb 8) s ∷ any_of (leb 9) s ∷ non_empty s ∷ non_empty (tab (λ i. i) 5 0) ∷ [])
    ∷ (any_below 4 (leb 3) ∷ any_below 4 (leb 4) ∷ all_below 4 (leb 0) ∷ all_below 4 (leb 1) ∷ [])
    ∷ map (same_list (3 ∷ 4 ∷ [])) ((3 ∷ 4 ∷ []) ∷ (3 ∷ 5 ∷ []) ∷ (5 ∷ 4 ∷ []) ∷ (3 ∷ []) ∷ (3 ∷ 4 ∷ 5 ∷ []) ∷ [])
    ∷ [])
    ≡ (true ∷ false ∷ true ∷ false ∷ []) ∷ (true ∷ false ∷ true ∷ false ∷ []) ∷ (true ∷ false ∷ false ∷ false ∷ false ∷ []) ∷ []
unfolding opened
some-and-each = refl
