-- Worked examples of the full register: the runs, the numbers of a grant, the image, and of demand 3: who has reached the forbidden number, and when
-- that is asked. Each is broken by one of this crate's must-fail edits.
-- Assumes nothing.
use Prim.Native.Nat.{ℕ, zero, suc}
use mathlib.Core.Path.{◌≡◌, refl, sym}
use mathlib.Core.Bool.{Bool, true, false, cond, false≢true}
use mathlib.Core.List.{List, [], ◌∷◌, ◌++◌, map}
use native.Mathlib.Omega.{arith}
use borrow.Author.Tests.{eqb-true}
use lib.ListN.{length, get_or}
use lib.Dec.{eqb}
use Rattle.words.specs.Lists.{keep, any_of, non_empty, all_below, any_below, sum_below, tab, same_list}
use Rattle.words.specs.First.{◌or_else◌, unless, first}
use Rattle.words.specs.Bytes.{bytes2, bytes4, zeros, bit, bits}
use Rattle.format.specs.Answer.{accept, grant, refuse, refusal, Outcome, refusing}
use Rattle.format.specs.Request.{Request, has_role, used_level, blank_level, depth_of, good_context, good_request, request_fault}
use Rattle.format.specs.Context.{context_fault, same_level, begins}
use Rattle.format.specs.Rule.{Rule, Exclusion, Step}
use Rattle.format.specs.Fits.{level_fits, fits, place_value, place}
use Rattle.format.specs.Policy.{Policy, stamp}
use Rattle.format.specs.Table.{table_image}
use Rattle.judge.specs.Tally.{same_user, does, counts_for, role_tally, times_listed, times_done, repeats, privilege_tally, tally, reached, exclusion_number}
use Rattle.judge.specs.Tally.{counted}
use Rattle.judge.specs.Verdict.{grants, permitted, is_first, is_last, judges, failing, verdict}
use Rattle.judge.specs.Decide.{decide}
use Rattle.judge.specs.Close.{close}
use Rattle.judge.specs.Preview.{preview}
use Rattle.judge.specs.Sample.{sample_answers}
use Rattle.register.specs.Run.{Event, was_granted, was_closed, Entry, numbered, entries_of, of_place, joins, after_grant, after_closing, run_from, run}
use Rattle.register.specs.Register.{run_of, open_run, past_run, is_in, lies, lies_in_some, held_of, removed_of, recorded_of, register_fault, granted}
use Rattle.register.specs.Register.{register_step, shut, register_close}
use Rattle.register.specs.Image.{record_for, records_for, register_image}
use Rattle.register.specs.Reached.{NobodyIn, standing, with_step, Nobody}
use Rattle.register.specs.Calls.{deciding, closing, call_step, register_call}
use Rattle.register.specs.Demand3.{answers, states, after, AtGrant, AtEvery, StepCounted, NobodyEver}
use Rattle.register.specs.Base.{after_latest, from_earliest, run_in_words, all_granted}
use Rattle.register.specs.Consequences.{recorded_sum, removed_sum, last_held_from, last_held}
use Rattle.register.specs.Previews.{calling, previewing, ask_step, called, to_calls}

-- what these examples compute with
unfoldable pub opened : Unit {0}
unfolding keep any_of non_empty all_below any_below sum_below tab same_list ◌or_else◌ unless first bit refusing has_role used_level blank_level depth_of good_context
    good_request request_fault level_fits fits place_value place same_user does counts_for role_tally times_listed times_done repeats privilege_tally tally reached
    exclusion_number counted grants permitted is_first is_last judges failing verdict numbered entries_of after_latest from_earliest run_in_words of_place joins after_grant after_closing run_from run run_of open_run
    past_run is_in lies lies_in_some held_of removed_of recorded_of register_fault granted register_step context_fault same_level begins shut register_close
opened = tt

-- ---- the pieces

-- a user does an operation at a depot (type 1), in role 1, on target 1
abbrev by : ℕ → ℕ → ℕ → Request
by user operation depot =
    bytes4 user ++ bytes4 1 ++ bytes2 operation ++ bytes2 1 ++ bytes2 1 ++ bytes2 depot ++ zeros 12

-- the same at a job (type 2) of the depot; and the contexts, by themselves
abbrev by_job : ℕ → ℕ → ℕ → ℕ → Request
by_job user operation depot job =
    bytes4 user ++ bytes4 1 ++ bytes2 operation ++ bytes2 1 ++ bytes2 1 ++ bytes2 depot ++ bytes2 2 ++ bytes2 job ++ zeros 8

abbrev at_depot : ℕ → List ℕ
at_depot depot = bytes2 1 ++ bytes2 depot ++ zeros 12

abbrev at_job : ℕ → ℕ → List ℕ
at_job depot job = bytes2 1 ++ bytes2 depot ++ bytes2 2 ++ bytes2 job ++ zeros 8

-- an exclusion of operations on target 1, m 2
abbrev excluding : List ℕ → Exclusion
excluding os =
    record { kind = 2; m = 2; n = length os; pad = 0; member = λ i. record { operation = get_or os i 0; target = 1 } }

abbrev step : ℕ → Step
step o = record { flag = 1; privilege = record { operation = o; target = 1 } }

abbrev unset : Step
unset = record { flag = 0; privilege = record { operation = 0; target = 0 } }

-- a rule with "depot each", its steps and its exclusions
abbrev rule : Step → Step → List Exclusion → Rule
rule f l xs =
    record {
      depth = 1;
      exclusions = length xs;
      level = λ i. record { type = 1; mark = 3; pad = 0; value = 0; tail = 0 };
      first_step = f;
      last_step = l;
      exclusion = λ e. get_or xs e (excluding []);
    }

-- Rule 1: last step 4; 1 excludes 2. Rule 2: first step 5, last 6; 1 excludes 3, and 1 excludes 2. Role 1 may do 1 to 6.
abbrev p : Policy
p =
    record {
      rules = 2;
      rule = λ i. cond (eqb i 0) (rule unset (step 4) (excluding (1 ∷ 2 ∷ []) ∷ [])) (rule (step 5) (step 6) (excluding (1 ∷ 3 ∷ []) ∷ excluding (1 ∷ 2 ∷ []) ∷ []));
      permissions = map (λ o. record { role = 1; operation = o; target = 1; pad = 0 }) (1 ∷ 2 ∷ 3 ∷ 4 ∷ 5 ∷ 6 ∷ []);
    }

-- where entries stand in the list
abbrev places : List Entry → List ℕ
places es = map (λ x. x.at) es

-- ---- runs: in document 01's words, and step by step

-- "without all up to and including the latest" 0: of two, of one at the end, of none
pub cut-latest :
    map (after_latest (λ n. eqb n 0)) ((1 ∷ 0 ∷ 2 ∷ 0 ∷ 3 ∷ 4 ∷ []) ∷ (1 ∷ 0 ∷ []) ∷ (1 ∷ 2 ∷ []) ∷ []) ≡ (3 ∷ 4 ∷ []) ∷ [] ∷ (1 ∷ 2 ∷ []) ∷ []
unfolding opened
cut-latest = refl

-- "without all before the earliest" 0, "(empty if none remains)"
pub cut-earliest :
    map (from_earliest (λ n. eqb n 0)) ((1 ∷ 0 ∷ 2 ∷ 0 ∷ 3 ∷ []) ∷ (0 ∷ []) ∷ (1 ∷ 2 ∷ []) ∷ []) ≡ (0 ∷ 2 ∷ 0 ∷ 3 ∷ []) ∷ (0 ∷ []) ∷ [] ∷ []
unfolding opened
cut-earliest = refl

-- two depots; at depot 5 a count that is ended and one that is begun anew, the same requests in both
abbrev l : List Request
l =
    by 7 1 5
    ∷ by 9 5 5
    ∷ by 8 1 5
    ∷ by 8 1 6
    ∷ by 9 6 5
    ∷ by 7 1 5
    ∷ by 9 5 5
    ∷ by 8 1 5
    ∷ []

-- rule 1, which no step has ended: all of depot 5, all of depot 6. Rule 2: from the first step on, after the last one; at depot 6 nothing is begun
pub runs :
    map (λ i. map (λ d. places (run_of p (all_granted l) i (d ∷ []))) (5 ∷ 6 ∷ [])) (0 ∷ 1 ∷ [])
    ≡ ((0 ∷ 1 ∷ 2 ∷ 4 ∷ 5 ∷ 6 ∷ 7 ∷ []) ∷ (3 ∷ []) ∷ []) ∷ ((6 ∷ 7 ∷ []) ∷ [] ∷ []) ∷ []
unfolding opened
runs = refl

pub runs-in-words :
    map (λ i. map (λ d. places (run_in_words (p.rule i) (d ∷ []) (entries_of (all_granted l)))) (5 ∷ 6 ∷ [])) (0 ∷ 1 ∷ [])
    ≡ ((0 ∷ 1 ∷ 2 ∷ 4 ∷ 5 ∷ 6 ∷ 7 ∷ []) ∷ (3 ∷ []) ∷ []) ∷ ((6 ∷ 7 ∷ []) ∷ [] ∷ []) ∷ []
unfolding opened
runs-in-words = refl

-- ---- closings in runs

-- rule 2's run at depot 5 is opened by a first step at job 90, and has one at job 91. Job 90 is closed: the first step is gone, "the rest keep their
-- standing"
abbrev opener-gone : List Event
opener-gone = was_granted (by_job 9 5 5 90) ∷ was_granted (by_job 8 1 5 91) ∷ was_closed (at_job 5 90) ∷ []

pub rest-stand : places (run_of p opener-gone 1 (5 ∷ [])) ≡ 1 ∷ []
unfolding opened
rest-stand = refl

-- "while that run has a request, later grants of its place join it, until a last step ends it"
pub later-join :
    map (λ m. places (run_of p (opener-gone ++ m) 1 (5 ∷ [])))
    ((was_granted (by_job 7 1 5 91) ∷ []) ∷ (was_granted (by 7 1 5) ∷ was_granted (by 9 6 5) ∷ was_granted (by 7 1 5) ∷ []) ∷ [])
    ≡ (1 ∷ 3 ∷ []) ∷ [] ∷ []
unfolding opened
later-join = refl

-- "A closing that leaves a run no request ends it, as a last step does": rule 2 needs its first step again; rule 1, which has none, begins anew
pub emptied-ends :
    (let m = was_granted (by 9 5 5) ∷ was_closed (at_depot 5) ∷ was_granted (by 8 1 5) ∷ [] in
    map (λ i. places (run_of p m i (5 ∷ []))) (0 ∷ 1 ∷ []) ++ (places (run_of p (m ++ (was_granted (by 9 5 5) ∷ [])) 1 (5 ∷ [])) ∷ []))
    ≡ (2 ∷ []) ∷ [] ∷ (3 ∷ []) ∷ []
unfolding opened
emptied-ends = refl

-- a closing names what its levels begin: of jobs 90 and 91 of depot 5, the depot itself and job 90 of depot 6, by job 90 of depot 5, by depot 5 and by
-- no level at all
pub named-by-levels :
    (let m = all_granted (by_job 7 1 5 90 ∷ by_job 7 1 5 91 ∷ by 7 1 5 ∷ by_job 7 1 6 90 ∷ []) in
    map (λ c. map (lies_in_some p (m ++ (was_closed c ∷ []))) (entries_of m)) (at_job 5 90 ∷ at_depot 5 ∷ zeros 16 ∷ []))
    ≡ (false ∷ true ∷ true ∷ true ∷ []) ∷ (false ∷ false ∷ false ∷ true ∷ []) ∷ (false ∷ false ∷ false ∷ false ∷ []) ∷ []
unfolding opened
named-by-levels = refl

-- ---- the numbers of a grant, and refusals

-- 7 does one thing twice, before and after a last step of rule 1: an entry is known by where it stands, and the second alone lies in a run
pub lies-by-place : (let m = all_granted (by 7 1 5 ∷ by 9 4 5 ∷ by 7 1 5 ∷ []) in (map (lies p m 0) (entries_of m) ∷ map (lies_in_some p m) (entries_of m) ∷ []))
    ≡ (false ∷ false ∷ true ∷ []) ∷ (false ∷ false ∷ true ∷ []) ∷ []
unfolding opened
lies-by-place = refl

-- recorded, removed and held. 7 has worked at depot 5, 8 at depot 6; then one works there, and one ends rule 1's run at depot 5
pub grant-numbers :
    map (λ q. (register_step p 15 (all_granted (by 7 1 5 ∷ by 8 1 6 ∷ [])) q).answer) (by 9 1 5 ∷ by 9 4 5 ∷ []) ≡ grant 1 0 3 ∷ grant 0 1 1 ∷ []
unfolding opened
grant-numbers = refl

-- the same last step of rule 1 while rule 2 counts at depot 5: nothing goes, and it is recorded itself
pub counted-by-another : (register_step p 15 (all_granted (by 9 5 5 ∷ by 7 1 5 ∷ [])) (by 8 4 5)).answer ≡ grant 1 0 3
unfolding opened
counted-by-another = refl

-- a grant is appended, whether or not it lies in a run; with room for two, a third that would is refused, and one that makes room is granted
-- (trap "testing fullness before clearing"); a refusal adds nothing
pub steps :
    (let m = all_granted (by 7 1 5 ∷ by 8 1 6 ∷ []) in map (λ q. register_step p 2 m q) (by 9 4 5 ∷ by 9 1 5 ∷ by 7 2 5 ∷ [] ∷ []))
    ≡ record { answer = grant 0 1 1; state = all_granted (by 7 1 5 ∷ by 8 1 6 ∷ by 9 4 5 ∷ []) }
    ∷ map (λ r. record { answer = refuse r; state = all_granted (by 7 1 5 ∷ by 8 1 6 ∷ []) }) (refusal 34 0 0 ∷ refusal 33 1 1 ∷ refusal 21 0 0 ∷ [])
unfolding opened
steps = refl

-- ---- the answer to a closing, "how many entries no longer lie in any run": of the three at depot 5 one still does; depot 7 has none, and its closing is an
-- entry all the same; 21 and 22 add nothing
pub closings :
    (let m = all_granted (by 7 1 5 ∷ by 9 4 5 ∷ by 8 1 5 ∷ by 8 1 6 ∷ []) in
    map (register_close p m) (at_depot 5 ∷ at_depot 7 ∷ zeros 15 ∷ (zeros 4 ++ bytes2 1 ++ bytes2 5 ++ zeros 8) ∷ []))
    ≡ (let m = all_granted (by 7 1 5 ∷ by 9 4 5 ∷ by 8 1 5 ∷ by 8 1 6 ∷ []) in
    record { answer = accept 1; state = m ++ (was_closed (at_depot 5) ∷ []) }
    ∷ record { answer = accept 0; state = m ++ (was_closed (at_depot 7) ∷ []) }
    ∷ map (λ r. record { answer = refuse r; state = m }) (refusal 21 0 0 ∷ refusal 22 0 0 ∷ []))
unfolding opened
closings = refl

-- "later requests in that context are judged as ever": 7, who did 1 at depot 5, may not do 2 there, and may once the depot is closed; then not 1
pub judged-as-ever :
    answers (register_call p 15) [] (deciding (by 7 1 5) ∷ deciding (by 7 2 5) ∷ closing (at_depot 5) ∷ deciding (by 7 2 5) ∷ deciding (by 7 1 5) ∷ [])
    ≡ grant 1 0 1 ∷ refuse (refusal 33 1 1) ∷ accept 1 ∷ grant 1 0 1 ∷ refuse (refusal 33 1 1) ∷ []
unfolding opened answers register_call
judged-as-ever = refl

-- what the three clauses come to in answers, rule 2 excluding 3 from who did 1: of one that stands without its opener, of one that joined it then, and of
-- one after a closing that ended the run, on whom rule 2 is silent
pub clauses-in-answers :
    (register_step p 15 opener-gone (by_job 8 3 5 91)).answer
    ∷ (register_step p 15 (opener-gone ++ (was_granted (by_job 7 1 5 91) ∷ [])) (by 7 3 5)).answer
    ∷ (register_step p 15 (was_granted (by 9 5 5) ∷ was_closed (at_depot 5) ∷ was_granted (by 8 1 5) ∷ []) (by 8 3 5)).answer
    ∷ []
    ≡ refuse (refusal 33 2 1) ∷ refuse (refusal 33 2 1) ∷ grant 1 0 2 ∷ []
unfolding opened
clauses-in-answers = refl

-- to the engine, a closing is `close` and a decision `decide`; of whatever bytes
pub calls-of-both-kinds :
    (policy table q c : List ℕ) → map (call_step policy table) (deciding q ∷ closing c ∷ []) ≡ decide policy table q ∷ close policy table c ∷ []
unfolding call_step
calls-of-both-kinds policy table q c = refl

-- ---- the image

-- the first entry is of an ended run and has no record; the others are marked for rule 2, rule 2, both rules, rule 1
pub records :
    map (λ r. r.marks) (records_for p (all_granted (by 7 1 5 ∷ by 9 5 5 ∷ by 8 4 5 ∷ by 7 1 5 ∷ by 7 1 6 ∷ []))) ≡ 2 ∷ 2 ∷ 3 ∷ 1 ∷ []
unfolding opened bits record_for records_for
records = refl

pub record-requests :
    map (λ r. r.request) (records_for p (all_granted (by 7 1 5 ∷ by 9 5 5 ∷ by 8 4 5 ∷ by 7 1 5 ∷ by 7 1 6 ∷ [])))
    ≡ by 9 5 5 ∷ by 8 4 5 ∷ by 7 1 5 ∷ by 7 1 6 ∷ []
unfolding opened bits record_for records_for
record-requests = refl

-- "B blocks, the policy's stamp": of a policy's image, with no grant
pub no-grant : (policy : List ℕ) → register_image policy 2 [] ≡ table_image (stamp policy) 2 []
unfolding opened records_for register_image
no-grant policy = refl

-- ---- who has reached the forbidden number: an exclusion of 1 and 2 has m 2

abbrev x : Exclusion
x = excluding (1 ∷ 2 ∷ [])

-- 7 has, by doing both
pub one-user : NobodyIn x (by 7 1 5 ∷ by 7 2 5 ∷ []) → ⊥
unfolding opened NobodyIn
one-user h = false≢true (sym (h 7))

-- nobody has, where 7 did the one and 8 the other
pub two-users : NobodyIn x (by 7 1 5 ∷ by 8 2 5 ∷ [])
unfolding opened NobodyIn
two-users u = go (eqb 7 u) refl (eqb 8 u) refl
  where
    go :
        (a : Bool) → eqb 7 u ≡ a → (b : Bool) → eqb 8 u ≡ b
        → reached x (cond a (by 7 1 5 ∷ cond b (by 8 2 5 ∷ []) []) (cond b (by 8 2 5 ∷ []) [])) ≡ false
    go true e true f = absurd (let one = eqb-true 7 u e in let two = eqb-true 8 u f in omega arith)
    go true e false f = refl
    go false e true f = refl
    go false e false f = refl

-- "in any run of a rule": each exclusion of each rule, in every run place, and no more
module _ (in-runs : ℕ → List ℕ → List Request) where
  pub of-each-rule : Nobody p in-runs → NobodyIn (excluding (1 ∷ 2 ∷ [])) (in-runs 1 (6 ∷ []))
  unfolding Nobody
  of-each-rule h = h 1 (omega arith) 1 (omega arith) (6 ∷ [])

  pub of-no-more :
      ((key : List ℕ) → NobodyIn (excluding (1 ∷ 2 ∷ [])) (in-runs 0 key))
      → ((key : List ℕ) → NobodyIn (excluding (1 ∷ 3 ∷ [])) (in-runs 1 key))
      → ((key : List ℕ) → NobodyIn (excluding (1 ∷ 2 ∷ [])) (in-runs 1 key))
      → Nobody p in-runs
  unfolding Nobody
  of-no-more a b c zero i zero e = a
  of-no-more a b c zero i (suc n) e = absurd (omega arith)
  of-no-more a b c (suc zero) i zero e = b
  of-no-more a b c (suc zero) i (suc zero) e = c
  of-no-more a b c (suc zero) i (suc (suc n)) e = absurd (omega arith)
  of-no-more a b c (suc (suc m)) i n e = absurd (omega arith)

-- "the run as it stands": in each rule and at each depot
pub as-it-stands :
    map (λ i. map (λ d. standing p (all_granted (by 7 1 5 ∷ by 9 5 5 ∷ by 8 4 5 ∷ by 7 1 5 ∷ by 7 1 6 ∷ [])) i (d ∷ [])) (5 ∷ 6 ∷ [])) (0 ∷ 1 ∷ [])
    ≡ ((by 7 1 5 ∷ []) ∷ (by 7 1 6 ∷ []) ∷ []) ∷ ((by 9 5 5 ∷ by 8 4 5 ∷ by 7 1 5 ∷ []) ∷ [] ∷ []) ∷ []
unfolding opened standing
as-it-stands = refl

-- a user at m in a run as it stands, of rule 1 at depot 5
pub reached-standing : Nobody p (standing p (all_granted (by 7 1 5 ∷ by 7 2 5 ∷ []))) → ⊥
unfolding opened Nobody NobodyIn standing
reached-standing h = false≢true (sym (h 0 (omega arith) 0 (omega arith) (5 ∷ []) 7))

-- "At a grant .. the run before it, with the request added if the rule judges it in that run place": 7, who did 1 at depot 5, does 2 there. Rule 1
-- judges it there, and not at depot 6; rule 2 is silent
pub step_added :
    map (λ i. map (λ d. with_step p (all_granted (by 7 1 5 ∷ [])) (by 7 2 5) i (d ∷ [])) (5 ∷ 6 ∷ [])) (0 ∷ 1 ∷ [])
    ≡ ((by 7 1 5 ∷ by 7 2 5 ∷ []) ∷ [] ∷ []) ∷ ([] ∷ [] ∷ []) ∷ []
unfolding opened standing with_step
step_added = refl

-- and so does rule 2 once a count is begun at depot 5
pub step-added-when-open : with_step p (all_granted (by 9 5 5 ∷ [])) (by 7 2 5) 1 (5 ∷ []) ≡ by 9 5 5 ∷ by 7 2 5 ∷ []
unfolding opened standing with_step
step-added-when-open = refl

-- a last step is counted with the run that it ends
pub last-step-added :
    (with_step p (all_granted (by 7 1 5 ∷ [])) (by 7 4 5) 0 (5 ∷ []) ∷ standing p (all_granted (by 7 1 5 ∷ by 7 4 5 ∷ [])) 0 (5 ∷ []) ∷ []) ≡ (by 7 1 5 ∷ by 7 4 5 ∷ []) ∷ [] ∷ []
unfolding opened standing with_step
last-step-added = refl

-- the step brings 7 to m, who was below it before
pub reached-by-step : Nobody p (with_step p (all_granted (by 7 1 5 ∷ [])) (by 7 2 5)) → ⊥
unfolding opened Nobody NobodyIn standing with_step
reached-by-step h = false≢true (sym (h 0 (omega arith) 0 (omega arith) (5 ∷ []) 7))

pub below-before : NobodyIn x (standing p (all_granted (by 7 1 5 ∷ [])) 0 (5 ∷ []))
unfolding opened NobodyIn standing
below-before u = go (eqb 7 u)
  where
    go : (a : Bool) → reached x (cond a (by 7 1 5 ∷ []) []) ≡ false
    go true = refl
    go false = refl

-- ---- when it is asked: calls one after another on a number, `true` granted and adding one, `false` refused

unfoldable pub counting : ℕ → Bool → Outcome ℕ
counting n true = record { answer = grant 1 0 (suc n); state = suc n }
counting n false = record { answer = refuse (refusal 34 0 0); state = n }

pub one-after-another :
    (answers counting 3 (true ∷ false ∷ true ∷ []) ≡ grant 1 0 4 ∷ refuse (refusal 34 0 0) ∷ grant 1 0 5 ∷ [])
    × (states counting 3 (true ∷ false ∷ true ∷ []) ≡ 3 ∷ 4 ∷ 4 ∷ 5 ∷ [])
    × (after counting 3 (true ∷ false ∷ true ∷ []) ≡ 5)
unfolding counting answers states after
one-after-another = (refl, refl, refl)

-- the claim about a step is asked at a grant, not at a refusal, and not where a check passes
pub at-grants-alone : (X : Type 0) → map (λ a. AtGrant a X) (grant 1 0 3 ∷ refuse (refusal 33 1 1) ∷ accept 15 ∷ []) ≡ X ∷ Unit {0} ∷ Unit {0} ∷ []
unfolding AtGrant
at-grants-alone X = refl

-- the claim about the state is asked at the start, after each call and at the end; with no call, once
pub at-every-point :
    (AtPoint : ℕ → Type 0) (AtStep : ℕ → Bool → Type 0)
    → map (AtEvery counting AtPoint AtStep 3) ([] ∷ (true ∷ false ∷ []) ∷ [])
    ≡ AtPoint 3 ∷ (AtPoint 3 × AtStep 3 true × (AtPoint 4 × Unit {0} × AtPoint 4)) ∷ []
unfolding counting AtGrant AtEvery
at-every-point AtPoint AtStep = refl

-- of the register: the runs as they stand, and at a grant those before it with the step. 7 does 1 at depot 5, and may not do 2 there; after a closing
-- the runs as it leaves them
pub nobody-at-every-point :
    NobodyEver p 15 [] (deciding (by 7 1 5) ∷ deciding (by 7 2 5) ∷ closing (at_depot 5) ∷ [])
    ≡ (Nobody p (standing p []) × Nobody p (with_step p [] (by 7 1 5))
    × (Nobody p (standing p (all_granted (by 7 1 5 ∷ []))) × Unit {0}
    × (Nobody p (standing p (all_granted (by 7 1 5 ∷ []))) × Unit {0}
    × Nobody p (standing p (was_granted (by 7 1 5) ∷ was_closed (at_depot 5) ∷ [])))))
unfolding opened AtGrant AtEvery StepCounted NobodyEver register_call
nobody-at-every-point = refl

-- ---- what the answers add up to

-- of the sample session's answers: seven recorded, two removed, the last grant's five held; a refusal at the end changes nothing, and a closing that
-- removes two leaves one of three
pub added-up :
    (recorded_sum sample_answers ≡ 7) × (removed_sum sample_answers ≡ 2)
    × (map last_held ([] ∷ sample_answers ∷ (grant 1 0 3 ∷ refuse (refusal 33 1 1) ∷ accept 2 ∷ []) ∷ []) ≡ 0 ∷ 5 ∷ 1 ∷ [])
unfolding sample_answers recorded_sum removed_sum last_held_from last_held
added-up = (refl, refl, refl)

-- two recorded, two removed by the last step and one by the closing
pub closings-added-up :
    (let told = grant 1 0 3 ∷ accept 1 ∷ refuse (refusal 21 0 0) ∷ grant 1 2 1 ∷ [] in (recorded_sum told ∷ removed_sum told ∷ last_held told ∷ [])) ≡ 2 ∷ 3 ∷ 1 ∷ []
unfolding recorded_sum removed_sum last_held_from last_held
closings-added-up = refl

-- ---- previews among the other calls

-- a preview answers as the decision would, and leaves the table; of whatever bytes
pub preview-among-calls :
    (policy table q : List ℕ)
    → map (ask_step policy table) (previewing q ∷ calling (deciding q) ∷ [])
    ≡ record { answer = (decide policy table q).answer; state = table } ∷ decide policy table q ∷ []
unfolding ask_step call_step preview
preview-among-calls policy table q = refl

-- four calls, of which the second is a decision and the last a closing: these two, and their answers
pub calls-among-previews :
    (let asked = previewing [] ∷ calling (deciding (1 ∷ [])) ∷ previewing (2 ∷ []) ∷ calling (closing (3 ∷ [])) ∷ [] in
    (called asked ≡ deciding (1 ∷ []) ∷ closing (3 ∷ []) ∷ []) × (to_calls asked (accept 1 ∷ accept 2 ∷ accept 3 ∷ accept 4 ∷ []) ≡ accept 2 ∷ accept 4 ∷ []))
unfolding called to_calls
calls-among-previews = (refl, refl)
