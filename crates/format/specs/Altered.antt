-- W3, "only blocks whose records differ": which blocks of a table have other records afterwards than before, and how many they are.
-- Assumes nothing.
use Rattle.std.specs.Prelude.{ℕ, ◌*◌, Bool, true, false, cond, not, ◌&&◌, List, [], ◌∷◌, take, drop, eqb}
use Rattle.words.specs.Lists.{same_list, sum_below}
use Rattle.format.specs.Layout.{block_records}
use Rattle.format.specs.Table.{Record}

-- the records of block k: "Records fill the blocks from the front with no gap."
abbrev pub records_in : List Record → ℕ → List Record
records_in rs k = take block_records (drop (block_records * k) rs)

-- two records are the same: "the request and 4 bytes of marks"
unfoldable pub same_record : Record → Record → Bool
same_record r r' = same_list r.request r'.request && eqb r.marks r'.marks

-- two lists of records are the same: as many, and each the same
unfoldable pub same_records : List Record → List Record → Bool
same_records [] [] = true
same_records [] (y ∷ ys) = false
same_records (x ∷ xs) [] = false
same_records (x ∷ xs) (y ∷ ys) = same_record x y && same_records xs ys

-- block k has other records after than before
unfoldable pub altered : List Record → List Record → ℕ → Bool
altered before after k = not (same_records (records_in before k) (records_in after k))

-- of b blocks, "the number whose records differ"
unfoldable pub altered_blocks : ℕ → List Record → List Record → ℕ
altered_blocks b before after = sum_below b (λ k. cond (altered before after k) 1 0)
