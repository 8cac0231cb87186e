-- Parts of a list's check and of a look-up that a function of the code computes.
-- Assumes nothing.
use Rattle.std.specs.Prelude.{ℕ, ◌+◌, ◌*◌, Bool, cond, ◌&&◌, List, eqb, ltb}
use Rattle.std.proofs.Math.Option.{Option, none, some}
use Rattle.words.specs.Lists.{all_below, same_list}
use Rattle.words.specs.Bytes.{byte_at}
use Rattle.forms.specs.Form.{name_byte}
use Rattle.xml.specs.Names.{entry_bytes, bytes_at, most_name_bytes, length_of, name_in, good_name, apart}

-- a byte of an entry, inside its name or after it
abbrev pub good_byte : ℕ → Bool → Bool
good_byte b inside = cond inside (name_byte b) (eqb b 0)

-- byte j of the 60 that entry i has for its name, and all of them
abbrev pub good_byte_at : List ℕ → ℕ → ℕ → Bool
good_byte_at l i j = good_byte (byte_at l (entry_bytes * i + bytes_at + j)) (ltb j (length_of l i))

abbrev pub good_bytes : List ℕ → ℕ → Bool
good_bytes l i = all_below most_name_bytes (good_byte_at l i)

-- entry i is apart from each before it
abbrev pub new_name : List ℕ → ℕ → Bool
new_name l i = all_below i (λ j. apart (name_in l j) (name_in l i))

-- n entries from one on are each good by themselves, and each apart from those before it
abbrev pub good_part : List ℕ → ℕ → ℕ → Bool
good_part l from n = all_below n (λ k. good_name l (from + k)) && all_below n (λ k. new_name l (from + k))

-- entry i is good by itself and beside those before it
abbrev pub good_at : List ℕ → ℕ → Bool
good_at l i = good_name l i && new_name l i

-- entry i is this name of a kind, this number of a kind
abbrev pub is_name : List ℕ → ℕ → List ℕ → ℕ → Bool
is_name l k w i = eqb (name_in l i).kind k && same_list (name_in l i).bytes w

abbrev pub is_number : List ℕ → ℕ → ℕ → ℕ → Bool
is_number l k n i = eqb (name_in l i).kind k && eqb (name_in l i).number n

-- what a look-up finds at entry i
abbrev pub number_here : List ℕ → ℕ → List ℕ → ℕ → Option ℕ
number_here l k w i = cond (is_name l k w i) (some (name_in l i).number) none

abbrev pub name_here : List ℕ → ℕ → ℕ → ℕ → Option (List ℕ)
name_here l k n i = cond (is_number l k n i) (some (name_in l i).bytes) none
