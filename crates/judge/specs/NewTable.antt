-- Steps 4 and 5 of the judge, and the judgement over a table's records.
-- Assumes nothing.
use Rattle.std.specs.Prelude.{ℕ, Bool, not, ◌&&◌, List, [], ◌∷◌, ◌++◌, map, length, leb}
use Rattle.std.proofs.Math.Option.{Option}
use Rattle.words.specs.Lists.{keep, any_of}
use Rattle.words.specs.First.{◌or_else◌, unless}
use Rattle.words.specs.Bytes.{bits}
use Rattle.format.specs.Answer.{Answer, grant, Refusal, refusal, Outcome, refusing}
use Rattle.format.specs.Request.{Request}
use Rattle.format.specs.Fits.{same_place}
use Rattle.format.specs.Policy.{Policy}
use Rattle.format.specs.Table.{Record, marked, has_mark}
use Rattle.judge.specs.Verdict.{is_last, judges, verdict}

-- ---- what the table says to steps 2 and 3

-- the record is marked for the rule of index i, in the request's run place. (A marked record fits the rule: the table's check.)
unfoldable pub stands_in : Policy → Request → ℕ → Record → Bool
stands_in p q i r = marked i r && same_place (p.rule i) q r.request

-- "its run place has a marked record"
unfoldable pub open_in : Policy → List Record → Request → ℕ → Bool
open_in p rs q i = any_of (stands_in p q i) rs

-- "records marked for that rule in that run place"
unfoldable pub past_in : Policy → List Record → Request → ℕ → List Request
past_in p rs q i = map (λ r. r.request) (keep (stands_in p q i) rs)

-- ---- "4. The new table", where `open` says which rules' run places are open

-- "each judging rule whose last step this is"
unfoldable pub ends : Policy → Request → (ℕ → Bool) → ℕ → Bool
ends p q «open» i = judges (p.rule i) q («open» i) && is_last (p.rule i) q

-- "The request gets the marks of the other judging rules."
unfoldable pub gives : Policy → Request → (ℕ → Bool) → ℕ → Bool
gives p q «open» i = judges (p.rule i) q («open» i) && not (is_last (p.rule i) q)

unfoldable pub record_of : Policy → Request → (ℕ → Bool) → Record
record_of p q «open» = record { request = q; marks = bits p.rules (gives p q «open») }

-- "clear its mark in that run place"
unfoldable pub cleared : Policy → Request → (ℕ → Bool) → Record → Record
cleared p q «open» r =
    record {
      request = r.request;
      marks = bits p.rules (λ i. marked i r && not (ends p q «open» i && same_place (p.rule i) q r.request));
    }

-- "Records with no mark go; the rest keep their order"
unfoldable pub sweep : List Record → List Record
sweep rs = keep has_mark rs

-- "the request is added at the end if it has a mark"
unfoldable pub new_table : Policy → Request → (ℕ → Bool) → List Record → List Record
new_table p q «open» rs = sweep (map (cleared p q «open») rs) ++ sweep (record_of p q «open» ∷ [])

-- "A grant returns recorded (0 or 1), removed (records gone in step 4) and held (records now)."
unfoldable pub grant_of : Policy → Request → (ℕ → Bool) → List Record → Answer
grant_of p q «open» rs =
    grant
    (length (sweep (record_of p q «open» ∷ [])))
    (length (keep (λ r. not (has_mark r)) (map (cleared p q «open») rs)))
    (length (new_table p q «open» rs))

-- ---- the judgement of a good request over a table's records, with room for so many

-- the table that a grant leaves
unfoldable pub table_after : Policy → List Record → Request → List Record
table_after p rs q = new_table p q (open_in p rs q) rs

-- steps 1 to 3, then "5. If that exceeds the table, 34"
unfoldable pub judge_fault : Policy → ℕ → List Record → Request → Option Refusal
judge_fault p room rs q =
    verdict p q (open_in p rs q) (past_in p rs q)
    or_else unless (leb (length (table_after p rs q)) room) (refusal 34 0 0)

-- ".. and the old table stays"
unfoldable pub judge : Policy → ℕ → List Record → Request → Outcome (List Record)
judge p room rs q =
    refusing (judge_fault p room rs q) rs
    (record { answer = grant_of p q (open_in p rs q) rs; state = table_after p rs q })
