-- The full register's answers, to a request and to a closing. "The register knows the policy and B and never sees the table."
-- Assumes nothing.
use Rattle.std.specs.Prelude.{ℕ, Bool, cond, not, ◌&&◌, List, [], ◌∷◌, ◌++◌, map, length, eqb, leb}
use Rattle.std.proofs.Math.Option.{Option}
use Rattle.words.specs.Lists.{keep, any_of, any_below, non_empty}
use Rattle.words.specs.First.{◌or_else◌, unless}
use Rattle.format.specs.Answer.{accept, grant, Refusal, refusal, Outcome, refusing}
use Rattle.format.specs.Request.{Request, request_fault}
use Rattle.format.specs.Context.{context_fault}
use Rattle.format.specs.Fits.{place}
use Rattle.format.specs.Policy.{Policy}
use Rattle.judge.specs.Verdict.{verdict}
use Rattle.register.specs.Run.{Event, was_granted, was_closed, Entry, entries_of, run}

-- the run of the rule of index i in a run place
unfoldable pub run_of : Policy → List Event → ℕ → List ℕ → List Entry
run_of p l i key = run (p.rule i) key l

-- ---- "judged by 1 to 3 above with "marked records" read as "the run""

unfoldable pub open_run : Policy → List Event → Request → ℕ → Bool
open_run p l q i = non_empty (run_of p l i (place (p.rule i) q))

unfoldable pub past_run : Policy → List Event → Request → ℕ → List Request
past_run p l q i = map (λ x. x.request) (run_of p l i (place (p.rule i) q))

-- ---- which entries lie in a run

unfoldable pub is_in : Entry → List Entry → Bool
is_in x es = any_of (λ y. eqb y.at x.at) es

-- the entry lies in a run of the rule of index i. All that a run has is of its place, so the entry's own place is the one to look at.
unfoldable pub lies : Policy → List Event → ℕ → Entry → Bool
lies p l i x = is_in x (run_of p l i (place (p.rule i) x.request))

-- "at least one run of any rule and place"
unfoldable pub lies_in_some : Policy → List Event → Entry → Bool
lies_in_some p l x = any_below p.rules (λ i. lies p l i x)

-- "held is then how many list entries lie in some run"
unfoldable pub held_of : Policy → List Event → ℕ
held_of p l = length (keep (lies_in_some p l) (entries_of l))

-- "removed how many did before and no longer do", from a list to the next
unfoldable pub removed_of : Policy → List Event → List Event → ℕ
removed_of p l l' = length (keep (λ x. lies_in_some p l x && not (lies_in_some p l' x)) (entries_of l))

-- "recorded 1 if the new one does, else 0"
unfoldable pub recorded_of : Policy → List Event → Request → ℕ
recorded_of p l q = cond (lies_in_some p (l ++ (was_granted q ∷ [])) (record { at = length l; request = q })) 1 0

-- ---- one request

-- "21 and 22 follow from the request's bytes alone", then steps 1 to 3, "Then 34 if, with the request appended, more than 15 times B list entries
-- lie in at least one run"
unfoldable pub register_fault : Policy → ℕ → List Event → List ℕ → Option Refusal
register_fault p room l q =
    request_fault q
    or_else verdict p q (open_run p l q) (past_run p l q)
    or_else unless (leb (held_of p (l ++ (was_granted q ∷ []))) room) (refusal 34 0 0)

-- "Otherwise it is appended", and the grant has its three numbers
unfoldable pub granted : Policy → List Event → Request → Outcome (List Event)
granted p l q =
    record {
      answer = grant (recorded_of p l q) (removed_of p l (l ++ (was_granted q ∷ []))) (held_of p (l ++ (was_granted q ∷ [])));
      state = l ++ (was_granted q ∷ []);
    }

-- "A refusal adds nothing."
unfoldable pub register_step : Policy → ℕ → List Event → List ℕ → Outcome (List Event)
register_step p room l q = refusing (register_fault p room l q) l (granted p l q)

-- ---- one closing

-- "how many entries no longer lie in any run"; it is appended even where that is none
unfoldable pub shut : Policy → List Event → List ℕ → Outcome (List Event)
shut p l c = record { answer = accept (removed_of p l (l ++ (was_closed c ∷ []))); state = l ++ (was_closed c ∷ []) }

-- "A closing's answer there is 21 or 22 by its bytes alone, else" that number
unfoldable pub register_close : Policy → List Event → List ℕ → Outcome (List Event)
register_close p l c = refusing (context_fault c) l (shut p l c)
