-- "Names are looked up in a lent list of 64-byte entries, at most 1,024".
-- Assumes nothing.
use Rattle.std.specs.Prelude.{ℕ, ◌+◌, ◌*◌, ◌/◌, Bool, cond, not, ◌&&◌, ◌||◌, List, length, eqb, leb, ltb}
use Rattle.std.proofs.Math.Option.{Option, none, some}
use Rattle.words.specs.Lists.{all_below, same_list}
use Rattle.words.specs.First.{unless, first}
use Rattle.words.specs.Bytes.{byte_at, u16_at, part}
use Rattle.format.specs.Answer.{Refusal, refusal}
use Rattle.forms.specs.Form.{name_byte}

-- ---- sizes

abbrev pub entry_bytes : ℕ
entry_bytes = 64

abbrev pub most_names : ℕ
most_names = 1024

-- "kind (..), length 1 to 60, number (2 bytes, little-endian, from 1), then ASCII bytes": where an entry has them
abbrev pub length_at : ℕ
length_at = 1

abbrev pub number_at : ℕ
number_at = 2

abbrev pub bytes_at : ℕ
bytes_at = 4

abbrev pub most_name_bytes : ℕ
most_name_bytes = 60

-- "kind (1 context type, 2 context value, 3 role, 4 operation, 5 target)"
abbrev pub type_names : ℕ
type_names = 1

abbrev pub value_names : ℕ
value_names = 2

abbrev pub role_names : ℕ
role_names = 3

abbrev pub operation_names : ℕ
operation_names = 4

abbrev pub target_names : ℕ
target_names = 5

-- ---- what the bytes say

pub record Name : Type 0 where
  pub kind : ℕ
  pub number : ℕ
  pub bytes : List ℕ

-- how many whole entries a list has; entry i of it, from 0
abbrev pub names : List ℕ → ℕ
names l = length l / entry_bytes

abbrev pub length_of : List ℕ → ℕ → ℕ
length_of l i = byte_at l (entry_bytes * i + length_at)

unfoldable pub name_in : List ℕ → ℕ → Name
name_in l i =
    record {
      kind = byte_at l (entry_bytes * i);
      number = u16_at l (entry_bytes * i + number_at);
      bytes = part l (entry_bytes * i + bytes_at) (length_of l i);
    }

-- ---- a good list

-- "length 1 to 60, number .. from 1, then ASCII bytes .., zero after"
unfoldable pub good_name : List ℕ → ℕ → Bool
good_name l i =
    leb type_names (name_in l i).kind
    && leb (name_in l i).kind target_names
    && leb 1 (length_of l i)
    && leb (length_of l i) most_name_bytes
    && not (eqb (name_in l i).number 0)
    && all_below most_name_bytes
    (λ j. let b = byte_at l (entry_bytes * i + bytes_at + j) in cond (ltb j (length_of l i)) (name_byte b) (eqb b 0))

-- "Within a kind no name or number is repeated."
unfoldable pub apart : Name → Name → Bool
apart x y = not (eqb x.kind y.kind) || (not (eqb x.number y.number) && not (same_list x.bytes y.bytes))

unfoldable pub good_names : List ℕ → Bool
good_names l =
    eqb (entry_bytes * names l) (length l)
    && leb (names l) most_names
    && all_below (names l) (λ i. good_name l i && all_below i (λ j. apart (name_in l j) (name_in l i)))

-- "42 for a bad list", with 0, 0
unfoldable pub names_fault : List ℕ → Option Refusal
names_fault l = unless (good_names l) (refusal 42 0 0)

-- ---- looking up

-- the number of a name of a kind, and the name of a number
unfoldable pub number_of : List ℕ → ℕ → List ℕ → Option ℕ
number_of l k w =
    first (λ i. let x = name_in l i in cond (eqb x.kind k && same_list x.bytes w) (some x.number) none) 0 (names l)

unfoldable pub name_of : List ℕ → ℕ → ℕ → Option (List ℕ)
name_of l k n =
    first (λ i. let x = name_in l i in cond (eqb x.kind k && eqb x.number n) (some x.bytes) none) 0 (names l)
