-- What the values of the code stand for: sets of rules as numbers, the rule of index i at bit i, and records by the bytes at which they begin.
-- Assumes nothing.
use Rattle.std.specs.Prelude.{ℕ, Bool, not, ◌&&◌, List, [], ◌∷◌, map, eqb}
use Rattle.std.specs.Int.Bits.{bit_and, bit_or}
use Rattle.words.specs.Lists.{keep, tab}
use Rattle.words.specs.Bytes.{part, bit}
use Rattle.format.specs.Layout.{request_bytes}
use Rattle.format.specs.Request.{Request, user}
use Rattle.format.specs.Table.{Record, marked}
use Rattle.format.specs.Records.{record_start, record_from}
use Rattle.judge.specs.Tally.{same_user}
use Rattle.matching.specs.declared.masks.Each.{Each}
use Rattle.matching.specs.Masks.{apart_by, together_by}

-- the rules of a set for which a record is marked, in the request's run place
unfoldable pub shared_by : Each → ℕ → Request → Record → ℕ
shared_by e rules q r = together_by e (bit_and r.marks rules) q r.request

-- the rules of a set whose run place is open: some record is marked for them there
unfoldable pub open_by : Each → ℕ → Request → List Record → ℕ
open_by e rules q [] = 0
open_by e rules q (r ∷ rs) = bit_or (shared_by e rules q r) (open_by e rules q rs)

-- the user's records that are marked for some rule of the set there, by the bytes at which they begin
unfoldable pub may_count : Each → ℕ → Request → Record → Bool
may_count e rules q r = not (eqb (shared_by e rules q r) 0) && same_user (user q) r.request

unfoldable pub found_in : Each → ℕ → Request → List ℕ → ℕ → List ℕ
found_in e rules q s n = keep (λ at. may_count e rules q (record_from s at)) (tab record_start 0 n)

-- a record is marked for the rule of index i, in the request's run place
unfoldable pub stands_by : Each → Request → ℕ → Record → Bool
stands_by e q i r = marked i r && not (bit i (apart_by e q r.request))

-- of the records that begin at these bytes, the requests of those that are
unfoldable pub past_by : Each → Request → ℕ → List ℕ → List ℕ → List Request
past_by e q i s found = map (λ at. part s at request_bytes) (keep (λ at. stands_by e q i (record_from s at)) found)
