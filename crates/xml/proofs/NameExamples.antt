-- Worked examples of the list of names. Each is broken by one of this crate's must-fail edits.
-- Assumes nothing.
use Prim.Native.Nat.{ℕ}
use mathlib.Core.Path.{◌≡◌, refl}
use mathlib.Core.Bool.{Bool, true, false, ◌&&◌}
use mathlib.Core.List.{List, [], ◌∷◌, ◌++◌, map}
use mathlib.Core.Option.{none, some}
use lib.ListN.{length, take, replicate}
use Rattle.words.specs.Lists.{all_below}
use Rattle.words.specs.Bytes.{bytes2, zeros}
use Rattle.format.specs.Answer.{refusal}
use Rattle.forms.specs.Form.{ascii}
use Rattle.xml.specs.Names.{name_in, good_name, apart, good_names, names_fault, number_of, name_of}
use Rattle.xml.proofs.Pieces.{opened, entry, list}

-- an entry by its fields: kind, length, number, and the bytes from 4 on
abbrev raw : ℕ → ℕ → ℕ → List ℕ → List ℕ
raw k n x bytes = take 64 (k ∷ n ∷ bytes2 x ++ bytes ++ zeros 60)

-- which entries are good ones, row by row
abbrev good : List (List (List ℕ)) → List (List Bool)
good rows = map (map (λ e. good_name e 0)) rows

-- "kind (1 .. 5 ..)", "length 1 to 60", "number (.. from 1)": the lowest and the highest of each, numbers with a low and a high byte of 0. Then kinds 0
-- and 6, length 0 with no byte, length 61 with no zero after it, number 0
pub entries :
    good
    ((raw 1 1 1 (ascii "a") ∷ raw 5 1 65535 (ascii "a") ∷ raw 1 1 256 (ascii "a") ∷ raw 1 60 255 (replicate 60 97) ∷ [])
    ∷ (raw 0 1 1 (ascii "a") ∷ raw 6 1 1 (ascii "a") ∷ raw 1 0 1 [] ∷ raw 1 61 1 (replicate 60 97) ∷ raw 1 1 0 (ascii "a") ∷ [])
    ∷ [])
    ≡ replicate 4 true ∷ replicate 5 false ∷ []
unfolding opened
entries = refl

-- "then ASCII bytes 33 to 126 without ..": a space, a control byte, one above 126, `"`, one in the middle; a zero where the length says that a byte is
pub entry-bytes :
    good
    ((raw 1 3 1 (ascii "a/~") ∷ [])
    ∷ map (raw 1 3 1) (ascii "ab " ∷ ascii "ab\n" ∷ (97 ∷ 98 ∷ 127 ∷ []) ∷ ascii "ab\"" ∷ ascii "a=b" ∷ ascii "ab" ∷ []) ∷ [])
    ≡ (true ∷ []) ∷ replicate 6 false ∷ []
unfolding opened
entry-bytes = refl

-- "zero after": a byte right after the name, and the entry's last
pub entry-zeros :
    good ((raw 1 1 1 (ascii "a") ∷ []) ∷ (raw 1 1 1 (ascii "ab") ∷ raw 1 1 1 (ascii "a" ++ zeros 58 ++ (1 ∷ [])) ∷ []) ∷ [])
    ≡ (true ∷ []) ∷ replicate 2 false ∷ []
unfolding opened
entry-zeros = refl

-- "42 for a bad list", with 0, 0: a list of none, of one and of ten is good; 63 bytes, 65 and a bad second entry are not
pub lists :
    map (map names_fault)
    (([] ∷ entry 1 1 "a" ∷ list ∷ []) ∷ (take 63 list ∷ (entry 1 1 "a" ++ zeros 1) ∷ (entry 1 1 "a" ++ entry 6 1 "a") ∷ []) ∷ [])
    ≡ replicate 3 none ∷ replicate 3 (some (refusal 42 0 0)) ∷ []
unfolding opened
lists = refl

-- "at most 1,024": a list of 1,025 entries, whatever they are; one of 1,024 is as good as its entries
pub most-names :
    ((l : List ℕ) → length l ≡ 65600 → good_names l ≡ false)
    × ((l : List ℕ) → length l ≡ 65536 → good_names l ≡ all_below 1024 (λ i. good_name l i && all_below i (λ j. apart (name_in l j) (name_in l i))))
unfolding good_names
most-names = ((λ l n. rw n refl), λ l n. rw n refl)

-- "Within a kind no name or number is repeated": the same name twice, next to each other and apart; the same number; both. Good are the same name and
-- number in two kinds, and names of which one begins with the other
pub repeated :
    map (map good_names)
    (((entry 1 1 "a" ++ entry 1 2 "a")
    ∷ (entry 1 1 "a" ++ entry 1 2 "b" ++ entry 2 1 "c" ++ entry 1 3 "a")
    ∷ (entry 4 258 "a" ++ entry 4 258 "b")
    ∷ (entry 5 1 "a" ++ entry 5 1 "a")
    ∷ [])
    ∷ ((entry 1 1 "a" ++ entry 2 1 "a") ∷ (entry 1 1 "a" ++ entry 1 257 "ab" ++ entry 1 2 "A") ∷ [])
    ∷ [])
    ≡ replicate 4 false ∷ replicate 2 true ∷ []
unfolding opened
repeated = refl

-- the number of a name and the name of a number, "little-endian", within their kind: listed ones; one of another kind, in other letters, the
-- beginning of one
pub looked-up :
    (number_of (entry 3 9 "a" ++ entry 4 258 "ab") 4 (ascii "ab") ∷ map (number_of list 4) (ascii "audit" ∷ ascii "till" ∷ ascii "Audit" ∷ ascii "aud" ∷ []))
    ≡ some 258 ∷ some 6 ∷ replicate 3 none
unfolding opened
looked-up = refl

pub looked-up-by-number :
    (name_of (entry 3 9 "a" ++ entry 4 258 "ab") 4 258 ∷ map (name_of list 3) (2 ∷ 5 ∷ 0 ∷ []))
    ≡ some (ascii "ab") ∷ some (ascii "auditor") ∷ replicate 2 none
unfolding opened
looked-up-by-number = refl
