-- "The full register. State: the list of all granted requests, nothing dropped." W2: "In the register a closing is an entry of its own kind". The runs
-- of a rule in that list, by what the empty list, one more grant and one more closing do to them. Document 01's own words for a run, which know of no
-- closing, stand in Base.antt; on every list without one both give the same run.
-- Assumes nothing.
use Rattle.std.specs.Prelude.{ℕ, suc, Bool, cond, not, ◌&&◌, ◌||◌, List, [], ◌∷◌, ◌++◌}
use Rattle.words.specs.Lists.{keep, non_empty, same_list}
use Rattle.format.specs.Request.{Request}
use Rattle.format.specs.Context.{begins}
use Rattle.format.specs.Rule.{Rule, is_set}
use Rattle.format.specs.Fits.{fits, place}
use Rattle.judge.specs.Verdict.{is_first, is_last}

-- what the list has: a request that was granted, or a context that was closed
pub data Event : Type 0 where
  was_granted : Request → Event
  was_closed : List ℕ → Event

-- An entry that may lie in a run, a granted request. The same request may be granted twice, so an entry is known by where it stands in the list, from 0.
pub record Entry : Type 0 where
  pub at : ℕ
  pub request : Request

unfoldable pub numbered : ℕ → List Event → List Entry
numbered k [] = []
numbered k (was_granted q ∷ l) = record { at = k; request = q } ∷ numbered (suc k) l
numbered k (was_closed c ∷ l) = numbered (suc k) l

unfoldable pub entries_of : List Event → List Entry
entries_of l = numbered 0 l

-- a fitting request "of that place"
unfoldable pub of_place : Rule → List ℕ → Entry → Bool
of_place r key x = fits r x.request && same_list (place r x.request) key

-- a grant of the place joins its run as it stands: the rule has no first step, or this is it; and "while that run has a request, later grants of its
-- place join it", "even if the first step that opened their run is gone"
unfoldable pub joins : Rule → Request → List Entry → Bool
joins r q s = not (is_set r.first_step) || is_first r q || non_empty s

-- one more grant: "until a last step ends it"
unfoldable pub after_grant : Rule → List ℕ → Entry → List Entry → List Entry
after_grant r key x s = cond (of_place r key x) (cond (is_last r x.request) [] (cond (joins r x.request s) (s ++ (x ∷ [])) s)) s

-- one more closing: "the requests it names lie in no run and the rest keep their standing". Where none is left, the run has ended: a rule with a first
-- step begins its next one with that.
unfoldable pub after_closing : List ℕ → List Entry → List Entry
after_closing c s = keep (λ x. not (begins c x.request)) s

-- the run that the rest of the list makes of one that stands so far; the rest begins at place k
unfoldable pub run_from : Rule → List ℕ → ℕ → List Entry → List Event → List Entry
run_from r key k s [] = s
run_from r key k s (was_granted q ∷ l) = run_from r key (suc k) (after_grant r key (record { at = k; request = q }) s) l
run_from r key k s (was_closed c ∷ l) = run_from r key (suc k) (after_closing c s) l

-- the run for rule and run place
unfoldable pub run : Rule → List ℕ → List Event → List Entry
run r key l = run_from r key 0 [] l
