-- What document 01 says of decisions alone, before there were closings: its own words for a run, and demand 3 with them. The claims, in plain words:
--
-- SameRuns: on every list without a closing the run of Run.antt is the one of document 01's words, for every rule and run place.
-- BaseDemand3: over every list of requests put to `decide`, from a fresh table, the answers and tables are the register's, nobody ever reaches the
--   forbidden number, and at every point each run that the register looks at is the one of document 01's words.
--
-- The proofs are in crates/demand3/proofs/Base.antt: both follow from what holds of decisions and closings.
-- Assumes nothing.
use Rattle.std.specs.Prelude.{ℕ, ◌≤◌, ◌≡◌, Bool, cond, List, [], ◌∷◌, map}
use Rattle.std.proofs.Math.Option.{none}
use Rattle.words.specs.Lists.{keep, any_of}
use Rattle.format.specs.Layout.{capacity, table_blocks}
use Rattle.format.specs.Request.{Request}
use Rattle.format.specs.Rule.{Rule, is_set}
use Rattle.format.specs.Policy.{Policy, policy_fault, policy_of}
use Rattle.format.specs.Table.{fresh_table}
use Rattle.judge.specs.Verdict.{is_first, is_last}
use Rattle.judge.specs.Decide.{decide}
use Rattle.register.specs.Run.{Event, was_granted, Entry, entries_of, of_place, run}
use Rattle.register.specs.Register.{run_of, register_step}
use Rattle.register.specs.Image.{register_image}
use Rattle.register.specs.Reached.{standing, with_step, Nobody}
use Rattle.register.specs.Demand3.{answers, states, AtEvery}

-- ---- document 01's own words for a run

-- "without all up to and including the latest" that passes the test; the whole list if none does
unfoldable pub after_latest : {A : Type 0} → (A → Bool) → List A → List A
after_latest t [] = []
after_latest t (x ∷ xs) = cond (any_of t xs) (after_latest t xs) (cond (t x) xs (x ∷ xs))

-- "without all before the earliest" that passes the test; "(empty if none remains)"
unfoldable pub from_earliest : {A : Type 0} → (A → Bool) → List A → List A
from_earliest t [] = []
from_earliest t (x ∷ xs) = cond (t x) (x ∷ xs) (from_earliest t xs)

-- "For rule and run place, the run is: the list's fitting requests of that place; without all up to and including the latest last step; and, where
-- a first step is set, without all before the earliest first step remaining (empty if none remains)."
unfoldable pub run_in_words : Rule → List ℕ → List Entry → List Entry
run_in_words r key es =
    let open' = after_latest (λ x. is_last r x.request) (keep (of_place r key) es) in
    cond (is_set r.first_step) (from_earliest (λ x. is_first r x.request) open') open'

-- ---- the claims

-- a list without a closing: "all granted requests"
abbrev pub all_granted : List Request → List Event
all_granted qs = map was_granted qs

unfoldable pub SameRuns : Type 0
SameRuns = (r : Rule) (key : List ℕ) (qs : List Request) → run r key (all_granted qs) ≡ run_in_words r key (entries_of (all_granted qs))

-- the runs of every rule and place in a list are those of document 01's words
unfoldable pub InWords : Policy → List Event → Type 0
InWords p l = (i : ℕ) (key : List ℕ) → run_of p l i key ≡ run_in_words (p.rule i) key (entries_of l)

pub record BaseKept (policy : List ℕ) (b : ℕ) (requests : List (List ℕ)) : Type 0 where
  pub answers-same :
      answers (decide policy) (fresh_table policy b) requests
      ≡ answers (register_step (policy_of policy) (capacity b)) [] requests
  pub tables-same :
      states (decide policy) (fresh_table policy b) requests
      ≡ map (register_image policy b) (states (register_step (policy_of policy) (capacity b)) [] requests)
  pub nobody :
      AtEvery (register_step (policy_of policy) (capacity b)) (λ l. Nobody (policy_of policy) (standing (policy_of policy) l))
      (λ l q. Nobody (policy_of policy) (with_step (policy_of policy) l q)) [] requests
  pub in_words : AtEvery (register_step (policy_of policy) (capacity b)) (InWords (policy_of policy)) (λ l q. Unit {0}) [] requests

unfoldable pub BaseDemand3 : Type 0
BaseDemand3 =
    (policy : List ℕ) → policy_fault policy ≡ none
    → (b : ℕ) → 1 ≤ b → b ≤ table_blocks
    → (requests : List (List ℕ)) → BaseKept policy b requests
