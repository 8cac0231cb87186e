-- Worked examples of the judge: the tally, the verdict of steps 1 to 3, the new table of steps 4 and 5, closings, and decide on bytes. Each is broken by one of this
-- crate's must-fail edits. No edit alters the sample session (Sample): it is the paper's data, and its fifteen lines are proved in crate demand3. Nor times_done, permitted, is_last, record_of, table_after: edits put something else in their place
-- where they are used. How many blocks a decision writes (decided_blocks) is told by altered_blocks, which has its examples in crate format: computed from a
-- table's bytes it would cost seconds at each edit that breaks it.
-- Assumes nothing.
use Prim.Native.Nat.{ℕ, ◌*◌}
use mathlib.Core.Path.{◌≡◌, refl, ap}
use mathlib.Core.Bool.{true, false}
use mathlib.Core.List.{List, [], ◌∷◌, ◌++◌, map}
use mathlib.Core.Option.{Option, none, some}
use lib.ListN.{length, get_or, drop}
use Rattle.words.specs.Lists.{keep, any_of, all_below, any_below, sum_below, tab, same_list}
use Rattle.words.specs.First.{◌or_else◌, unless, first}
use Rattle.words.specs.Bytes.{bytes2, bytes4, zeros, bit, bits}
use Rattle.format.specs.Answer.{Refusal, refusal, Answer, accept, grant, refuse, Outcome, refusing}
use Rattle.format.specs.Block.{blocks, good_length}
use Rattle.format.specs.Request.{Request, has_role, used_level, depth_of, request_fault}
use Rattle.format.specs.Context.{context_fault, same_level, begins}
use Rattle.format.specs.Rule.{Rule, Level, Exclusion, Privilege, Step}
use Rattle.format.specs.Fits.{fits, level_fits, place, place_value, same_place}
use Rattle.format.specs.Policy.{Policy, Permission}
use Rattle.format.specs.Policy.{policy_fault, policy_of, stamp}
use Rattle.format.specs.Table.{Record, table_length_fault, table_fault}
use Rattle.format.specs.Table.{records_of, table_image}
use Rattle.format.specs.Altered.{altered_blocks}
use Rattle.judge.specs.Tally.{same_user, does, counts_for, role_tally, times_listed, times_done, repeats, privilege_tally, tally, reached, exclusion_number}
use Rattle.judge.specs.Tally.{counted}
use Rattle.judge.specs.Verdict.{grants, permitted, is_first, is_last, judges, failing, verdict}
use Rattle.judge.specs.NewTable.{stands_in, open_in, past_in, ends, gives, record_of, cleared, sweep, new_table, grant_of, table_after, judge_fault}
use Rattle.judge.specs.NewTable.{judge}
use Rattle.judge.specs.Decide.{decide_fault, decide}
use Rattle.judge.specs.Preview.{preview}
use Rattle.judge.specs.Close.{closed, closed_out, close_fault, close as closing}
use Rattle.judge.specs.Written.{decided_blocks, closed_blocks}

-- what these examples compute with
opened : Unit {0}
unfolding keep any_of all_below any_below sum_below tab same_list ◌or_else◌ unless first bit bits refusing has_role used_level depth_of fits level_fits place
    place_value same_place same_user does counts_for role_tally times_listed times_done repeats privilege_tally tally reached exclusion_number counted grants permitted
    is_first is_last judges failing verdict stands_in open_in past_in ends gives record_of cleared sweep new_table grant_of table_after judge_fault judge
    same_level begins closed closed_out
opened = tt

-- ---- the pieces: the depots (type 1), jobs (type 2), operations and rules of document 01's trial run

-- a request: user, roles, operation, target, context
abbrev request : ℕ → ℕ → ℕ → ℕ → List ℕ → Request
request u k o t c = bytes4 u ++ bytes4 k ++ bytes2 o ++ bytes2 t ++ c

abbrev business : List ℕ
business = zeros 16

abbrev depot : ℕ → List ℕ
depot d = bytes2 1 ++ bytes2 d ++ zeros 12

abbrev job : ℕ → ℕ → List ℕ
job d j = bytes2 1 ++ bytes2 d ++ bytes2 2 ++ bytes2 j ++ zeros 8

-- "Operations: 1 adjust, 2 check, 4 close, 5 begin count, 6 end count", each by a user in the role that may, on target 1
abbrev adjust : ℕ → List ℕ → Request
adjust u c = request u 1 1 1 c

abbrev check : ℕ → List ℕ → Request
check u c = request u 2 2 1 c

abbrev close : ℕ → List ℕ → Request
close u c = request u 2 4 1 c

abbrev begin : ℕ → List ℕ → Request
begin u c = request u 4 5 1 c

abbrev end : ℕ → List ℕ → Request
end u c = request u 4 6 1 c

abbrev privilege : ℕ → ℕ → Privilege
privilege o t = record { operation = o; target = t }

-- an exclusion: kind, m, members; one of roles; one of operations on target 1
abbrev exclusion : ℕ → ℕ → List Privilege → Exclusion
exclusion k m ps = record { kind = k; m = m; n = length ps; pad = 0; member = λ i. get_or ps i (privilege 0 0) }

abbrev roles : ℕ → List ℕ → Exclusion
roles m ks = exclusion 1 m (map (λ k. privilege k 0) ks)

abbrev operations : ℕ → List ℕ → Exclusion
operations m os = exclusion 2 m (map (λ o. privilege o 1) os)

abbrev every : ℕ → Level
every t = record { type = t; mark = 2; pad = 0; value = 0; tail = 0 }

abbrev each : ℕ → Level
each t = record { type = t; mark = 3; pad = 0; value = 0; tail = 0 }

abbrev step : ℕ → Step
step o = record { flag = 1; privilege = privilege o 1 }

abbrev unset : Step
unset = record { flag = 0; privilege = privilege 0 0 }

-- a rule: levels, first and last step, exclusions
abbrev rule : List Level → Step → Step → List Exclusion → Rule
rule ls f l xs =
    record {
      depth = length ls;
      exclusions = length xs;
      level = λ i. get_or ls i (every 0);
      first_step = f;
      last_step = l;
      exclusion = λ e. get_or xs e (roles 0 []);
    }

-- role k may do operation o, on target 1
abbrev permission : ℕ → ℕ → Permission
permission k o = record { role = k; operation = o; target = 1; pad = 0 }

-- a policy of these rules, with the trial run's permissions and one more, that role 3 may end a count
abbrev policy : List Rule → Policy
policy rs =
    record {
      rules = length rs;
      rule = λ i. get_or rs i (rule [] unset unset []);
      permissions = permission 1 1 ∷ permission 2 2 ∷ permission 2 4 ∷ permission 3 5 ∷ permission 3 6 ∷ [];
    }

-- "Rule 1: depot every, job each; last step 4; exclusion 1 privileges m 2 of 1, 2, 2; exclusion 2 roles m 2 of 1, 2.
-- Rule 2: depot each; first 5, last 6; roles m 2 of 1, 3."
abbrev trial : Policy
trial =
    policy
    (rule (every 1 ∷ each 2 ∷ []) unset (step 4) (operations 2 (1 ∷ 2 ∷ 2 ∷ []) ∷ roles 2 (1 ∷ 2 ∷ []) ∷ [])
    ∷ rule (each 1 ∷ []) (step 5) (step 6) (roles 2 (1 ∷ 3 ∷ []) ∷ [])
    ∷ [])

-- a record: a request and its marks, 1 for rule 1, 2 for rule 2, 3 for both
abbrev kept : ℕ → Request → Record
kept marks q = record { request = q; marks = marks }

-- ---- the tally

-- what a request counts for: members 1 on 1, 2 on 1 and 1 on 2, as roles 1, 2, 1 (kind 1) and as privileges (kind 2). Roles {2} doing 1 on 1 counts for the
-- role 2 and for the privilege 1 on 1; roles {1} doing 1 on 2 counts for both roles 1 and for the privilege 1 on 2
pub counts-for :
    map (λ k. map (λ q. tab (λ i. counts_for (exclusion k 2 (privilege 1 1 ∷ privilege 2 1 ∷ privilege 1 2 ∷ [])) i q) 0 3)
    (request 7 2 1 1 business ∷ request 7 1 1 2 business ∷ []))
    (1 ∷ 2 ∷ [])
    ≡ ((false ∷ true ∷ false ∷ []) ∷ (true ∷ false ∷ true ∷ []) ∷ []) ∷ ((true ∷ false ∷ false ∷ []) ∷ (false ∷ false ∷ true ∷ []) ∷ []) ∷ []
unfolding opened
counts-for = refl

-- "how many member roles appear among all their active roles": of 1, 2, over requests with these roles: none, {1}, {1} twice, {1} and {2}, {1,2}, {3}
pub roles-counted :
    map (λ ks. tally (roles 2 (1 ∷ 2 ∷ [])) (map (λ k. request 7 k 1 1 business) ks))
    ([] ∷ (1 ∷ []) ∷ (1 ∷ 1 ∷ []) ∷ (1 ∷ 2 ∷ []) ∷ (3 ∷ []) ∷ (4 ∷ []) ∷ [])
    ≡ 0 ∷ 1 ∷ 1 ∷ 2 ∷ 2 ∷ 0 ∷ []
unfolding opened
roles-counted = refl

-- "each different member counts min(times listed, times done), summed": of 1, 2, 2. Listed once and done twice counts 1; listed twice and done once
-- 1, done twice 2, done three times 2; all together 3; and 3 is not listed
pub privileges-counted :
    map (λ os. tally (operations 2 (1 ∷ 2 ∷ 2 ∷ [])) (map (λ o. request 7 1 o 1 business) os))
    ([] ∷ (1 ∷ []) ∷ (1 ∷ 1 ∷ []) ∷ (2 ∷ []) ∷ (2 ∷ 2 ∷ []) ∷ (2 ∷ 2 ∷ 2 ∷ []) ∷ (2 ∷ 1 ∷ 2 ∷ 1 ∷ []) ∷ (3 ∷ 3 ∷ []) ∷ [])
    ≡ 0 ∷ 1 ∷ 1 ∷ 1 ∷ 2 ∷ 2 ∷ 3 ∷ 0 ∷ []
unfolding opened
privileges-counted = refl

-- "At m or more": m is 2, the tally 1, 2 and 3
pub reached-at-m :
    map (λ os. reached (operations 2 (1 ∷ 2 ∷ 2 ∷ [])) (map (λ o. request 7 1 o 1 business) os)) ((1 ∷ []) ∷ (1 ∷ 2 ∷ []) ∷ (1 ∷ 2 ∷ 2 ∷ []) ∷ [])
    ≡ false ∷ true ∷ true ∷ []
unfolding opened
reached-at-m = refl

-- "over the same user's records .. plus this request": users 8 and 263 are others than 7
pub counted-with-it :
    counted (check 7 business) (adjust 8 business ∷ adjust 7 business ∷ adjust 263 business ∷ close 7 business ∷ [])
    ≡ adjust 7 business ∷ close 7 business ∷ check 7 business ∷ []
unfolding opened
counted-with-it = refl

-- ---- steps 1 to 3. The third argument says whether the run places are open, the fourth has each rule's past

-- "1. Some active role has the permission for operation and target": role 2 may check; {1,2} may; {1} may not; and on target 2 nobody may
pub permitted-by-role :
    map (permitted trial) (request 7 2 2 1 business ∷ request 7 3 2 1 business ∷ request 7 1 2 1 business ∷ request 7 2 2 2 business ∷ [])
    ≡ true ∷ true ∷ false ∷ false ∷ []
unfolding opened
permitted-by-role = refl

-- "8 refuse 32 1 2": roles {1,2} at once reach m alone. 31 goes before: nobody may do 3
pub alone :
    map (λ o. verdict trial (request 9 3 o 1 (job 5 90)) (λ i. false) (λ i. [])) (1 ∷ 3 ∷ []) ≡ some (refusal 32 1 2) ∷ some (refusal 31 0 0) ∷ []
unfolding opened
alone = refl

-- "2. A rule that fits judges if it has no first step, or this is its first step, or its run place has a marked record. Other rules are silent.":
-- rule 2 on {1,3}, who adjusts with its run place shut, adjusts with it open, begins with it shut, and adjusts with it open where it does not fit
pub silent-or-not :
    (verdict trial (request 10 5 1 1 (depot 5)) (λ i. false) (λ i. [])
    ∷ verdict trial (request 10 5 1 1 (depot 5)) (λ i. true) (λ i. [])
    ∷ verdict trial (request 10 5 5 1 (depot 5)) (λ i. false) (λ i. [])
    ∷ verdict trial (request 10 5 1 1 business) (λ i. true) (λ i. [])
    ∷ [])
    ≡ none ∷ some (refusal 32 2 1) ∷ some (refusal 32 2 1) ∷ none ∷ []
unfolding opened
silent-or-not = refl

-- a step is an operation and a target: 5 on target 2 does not begin, 4 on target 2 does not close, and 5 is not 4. A step that is not set is none: not even 0
-- on 0
pub steps-taken :
    (map (is_first (trial.rule 1)) (begin 10 (depot 5) ∷ request 10 4 5 2 (depot 5) ∷ close 10 (depot 5) ∷ [])
    ∷ map (is_last (trial.rule 0)) (close 8 (job 5 90) ∷ request 8 2 4 2 (job 5 90) ∷ begin 8 (job 5 90) ∷ [])
    ∷ map (is_first (trial.rule 0)) (request 7 1 0 0 (job 5 90) ∷ [])
    ∷ [])
    ≡ (true ∷ false ∷ false ∷ []) ∷ (true ∷ false ∷ false ∷ []) ∷ (false ∷ []) ∷ []
unfolding opened
steps-taken = refl

-- "The first failing exclusion ends the search through rules and exclusions", with "rule, exclusion": rule a fails in its second, rule b in both, or,
-- with nothing past, in its first alone. In turn: a, b; b, a; a, b with nothing past; a rule that does not fit, a
pub first-failing :
    (let a = rule [] unset unset (roles 2 (3 ∷ 4 ∷ []) ∷ operations 2 (1 ∷ 2 ∷ []) ∷ []) in
    let b = rule [] unset unset (roles 2 (1 ∷ 2 ∷ []) ∷ operations 2 (1 ∷ 2 ∷ []) ∷ []) in
    (verdict (policy (a ∷ b ∷ [])) (request 7 3 1 1 business) (λ i. false) (λ i. check 7 business ∷ [])
    ∷ verdict (policy (b ∷ a ∷ [])) (request 7 3 1 1 business) (λ i. false) (λ i. check 7 business ∷ [])
    ∷ verdict (policy (a ∷ b ∷ [])) (request 7 3 1 1 business) (λ i. false) (λ i. [])
    ∷ verdict (policy (rule (each 1 ∷ []) unset unset [] ∷ a ∷ [])) (request 7 3 1 1 business) (λ i. false) (λ i. check 7 business ∷ [])
    ∷ []))
    ≡ some (refusal 33 1 2) ∷ some (refusal 32 1 1) ∷ some (refusal 32 2 1) ∷ some (refusal 33 2 2) ∷ []
unfolding opened
first-failing = refl

-- ---- the records that are counted, read off a table

-- "records marked for that rule in that run place": 7 adjusted job 90 at depot 5, and checks it there; at depot 6 ("every"); checks job 91 ("each");
-- 8 checks job 90. Then the same adjustment marked for rule 2 alone, as when its job was closed since: rule 1 does not count it
pub counted-in-its-place :
    (map (λ q. (judge trial 15 (kept 1 (adjust 7 (job 5 90)) ∷ []) q).answer)
    (check 7 (job 5 90) ∷ check 7 (job 6 90) ∷ check 7 (job 5 91) ∷ check 8 (job 5 90) ∷ [])
    ∷ ((judge trial 15 (kept 2 (adjust 7 (job 5 90)) ∷ []) (check 7 (job 5 90))).answer ∷ [])
    ∷ [])
    ≡ (refuse (refusal 33 1 1) ∷ refuse (refusal 33 1 1) ∷ grant 1 0 2 ∷ grant 1 0 2 ∷ []) ∷ (grant 1 0 2 ∷ []) ∷ []
unfolding opened
counted-in-its-place = refl

-- rule 2 judges where its run place is open: 10, who began the count of depot 5, adjusts at depot 5 and at depot 6
pub open-in-its-place :
    map (λ d. (judge trial 15 (kept 2 (begin 10 (depot 5)) ∷ []) (adjust 10 (job d 92))).answer) (5 ∷ 6 ∷ [])
    ≡ refuse (refusal 32 2 1) ∷ grant 1 0 2 ∷ []
unfolding opened
open-in-its-place = refl

-- ---- step 4, the new table

-- "The request gets the marks of the other judging rules", and goes to the end: both rules at depot 5, rule 1 at depot 6, none for the whole business
pub marks-given :
    map (λ c. judge trial 15 (kept 2 (begin 10 (depot 5)) ∷ []) (adjust 11 c)) (job 5 92 ∷ job 6 92 ∷ business ∷ [])
    ≡ record { answer = grant 1 0 2; state = kept 2 (begin 10 (depot 5)) ∷ kept 3 (adjust 11 (job 5 92)) ∷ [] }
    ∷ record { answer = grant 1 0 2; state = kept 2 (begin 10 (depot 5)) ∷ kept 1 (adjust 11 (job 6 92)) ∷ [] }
    ∷ record { answer = grant 0 0 1; state = kept 2 (begin 10 (depot 5)) ∷ [] }
    ∷ []
unfolding opened
marks-given = refl

-- trap "clearing request 14's record at line 15 (rule 2 counts it)": a last step of rule 1 clears no mark of rule 2; it gets rule 2's mark, not rule 1's
pub close-under-a-count :
    judge trial 15 (kept 2 (begin 10 (depot 5)) ∷ kept 3 (adjust 11 (job 5 92)) ∷ []) (close 12 (job 5 92))
    ≡ record {
      answer = grant 1 0 3;
      state = kept 2 (begin 10 (depot 5)) ∷ kept 2 (adjust 11 (job 5 92)) ∷ kept 2 (close 12 (job 5 92)) ∷ [];
    }
unfolding opened
close-under-a-count = refl

-- "clear its mark in that run place": closing job 90 leaves jobs 92 and 91, in their order. "Records with no mark go": job 90's at either depot
pub close-one-job :
    judge trial 15
    (kept 1 (adjust 7 (job 5 90)) ∷ kept 1 (adjust 8 (job 5 92)) ∷ kept 1 (check 9 (job 6 90)) ∷ kept 1 (adjust 8 (job 5 91)) ∷ [])
    (close 12 (job 5 90))
    ≡ record { answer = grant 0 2 2; state = kept 1 (adjust 8 (job 5 92)) ∷ kept 1 (adjust 8 (job 5 91)) ∷ [] }
unfolding opened
close-one-job = refl

-- "each judging rule whose last step this is": a close at no depot fits no "depot every", so it ends nothing there; a close at a depot does
pub ends-if-it-judges :
    (let p = policy (rule (every 1 ∷ []) unset (step 4) (roles 2 (1 ∷ 2 ∷ []) ∷ []) ∷ []) in
    map (judge p 15 (kept 1 (adjust 7 (depot 5)) ∷ [])) (close 12 business ∷ close 12 (depot 6) ∷ []))
    ≡ record { answer = grant 0 0 1; state = kept 1 (adjust 7 (depot 5)) ∷ [] } ∷ record { answer = grant 0 1 0; state = [] } ∷ []
unfolding opened
ends-if-it-judges = refl

-- trap "opening a run by a refused first step": {1,3} may not begin, so the table stays empty, and 10 adjusts at the depot unjudged and unrecorded
pub refused-first-step :
    (let o = judge trial 15 [] (request 10 5 5 1 (depot 5)) in (o ∷ judge trial 15 o.state (adjust 10 (depot 5)) ∷ []))
    ≡ record { answer = refuse (refusal 32 2 1); state = [] } ∷ record { answer = grant 0 0 0; state = [] } ∷ []
unfolding opened
refused-first-step = refl

-- ---- step 5

-- a full block of 15 records: 7 adjusted job 90, 10 began the count of depot 5, and thirteen more jobs were adjusted at depot 6
abbrev full : List Record
full = kept 1 (adjust 7 (job 5 90)) ∷ kept 2 (begin 10 (depot 5)) ∷ tab (λ j. kept 1 (adjust 8 (job 6 j))) 1 13

-- trap "testing fullness before clearing": closing job 90 removes a record and is recorded for rule 2
pub full-and-cleared :
    judge trial 15 full (close 12 (job 5 90)) ≡ record { answer = grant 1 1 15; state = drop 1 full ++ (kept 2 (close 12 (job 5 90)) ∷ []) }
unfolding opened
full-and-cleared = refl

-- "15 held in one block and a sixteenth request that would be marked and removes none gives 34, an unmarked one is granted": a close of job 91, with room
-- for 15 and for 16; a check for the whole business
pub full-and-not-cleared :
    (judge trial 15 full (close 12 (job 5 91)) ∷ judge trial 16 full (close 12 (job 5 91)) ∷ judge trial 15 full (check 12 business) ∷ [])
    ≡ record { answer = refuse (refusal 34 0 0); state = full }
    ∷ record { answer = grant 1 0 16; state = full ++ (kept 2 (close 12 (job 5 91)) ∷ []) }
    ∷ record { answer = grant 0 0 15; state = full }
    ∷ []
unfolding opened
full-and-not-cleared = refl

-- the judge's numbers "in its own order", each leaving the table as it was: 31; 33 and 32 before 34; 34
pub refusals-keep-the-table :
    map (judge trial 15 full) (request 7 1 2 1 (job 5 90) ∷ check 7 (job 5 90) ∷ adjust 10 (job 5 91) ∷ adjust 11 (job 5 91) ∷ [])
    ≡ map (λ r. record { answer = refuse r; state = full }) (refusal 31 0 0 ∷ refusal 33 1 1 ∷ refusal 32 2 1 ∷ refusal 34 0 0 ∷ [])
unfolding opened
refusals-keep-the-table = refl

-- ---- W2, closing a context

-- records of the depot 5, of two of its jobs, of a job of the depot 6, and of the whole business
abbrev scattered : List Record
scattered =
    kept 2 (begin 10 (depot 5))
    ∷ kept 1 (adjust 7 (job 5 90))
    ∷ kept 3 (adjust 8 (job 6 90))
    ∷ kept 3 (check 9 (job 5 91))
    ∷ kept 1 (adjust 7 (job 5 90))
    ∷ kept 2 (check 9 business)
    ∷ []

-- the depot 5 closed, with its jobs; the job 90 of the depot 5; a job that no record has; no level at all, which names every record
abbrev closings : List (List ℕ)
closings = depot 5 ∷ job 5 90 ∷ job 5 92 ∷ business ∷ []

-- "Other records keep the marks they had."
pub closed-marks : map (λ c. map (λ r. r.marks) (closed c scattered)) closings ≡ (3 ∷ 2 ∷ []) ∷ (2 ∷ 3 ∷ 3 ∷ 2 ∷ []) ∷ (2 ∷ 1 ∷ 3 ∷ 3 ∷ 1 ∷ 2 ∷ []) ∷ [] ∷ []
unfolding opened
closed-marks = refl

-- "Every record whose context begins with those levels is removed"; the others keep their order
pub closed-records :
    map (λ c. closed c scattered) closings
    ≡ (kept 3 (adjust 8 (job 6 90)) ∷ kept 2 (check 9 business) ∷ [])
    ∷ (kept 2 (begin 10 (depot 5)) ∷ kept 3 (adjust 8 (job 6 90)) ∷ kept 3 (check 9 (job 5 91)) ∷ kept 2 (check 9 business) ∷ [])
    ∷ scattered
    ∷ []
    ∷ []
unfolding opened
closed-records = refl

-- "the number removed is returned", 0 where it is none
pub closed-numbers : map (λ c. closed_out c scattered) closings ≡ 4 ∷ 2 ∷ 0 ∷ 6 ∷ []
unfolding opened
closed-numbers = refl

-- on bytes: no policy, no context, and a table of two bytes give 1, and the table stays
pub closing-policy : closing [] (7 ∷ 8 ∷ []) [] ≡ record { answer = refuse (refusal 1 0 0); state = 7 ∷ 8 ∷ [] }
unfolding close_fault closing policy_fault good_length refusing ◌or_else◌ unless
closing-policy = refl

-- "After the table's numbers": under any policy that passes, the table of two bytes gets its number before a context of no byte
pub closing-table :
    (policy : List ℕ) → policy_fault policy ≡ none → closing policy (7 ∷ 8 ∷ []) [] ≡ record { answer = refuse (refusal 11 0 0); state = 7 ∷ 8 ∷ [] }
unfolding close_fault closing table_fault table_length_fault good_length context_fault refusing ◌or_else◌ unless
closing-table policy passes = rw passes refl

-- any policy, table and context of which policy and table pass
module _ (policy table context : List ℕ) (passes : policy_fault policy ≡ none) (good : table_fault policy table ≡ none) where
  -- the numbers of a context come last; the table's bytes stay
  pub closing-context : (r : Refusal) → context_fault context ≡ some r → closing policy table context ≡ record { answer = refuse r; state = table }
  unfolding close_fault closing refusing ◌or_else◌
  closing-context r f = rw (passes, good, f) refl

  -- a closing is accepted with the number removed, and the bytes are the image of the records that stay
  pub closing-accepted :
      context_fault context ≡ none
      → closing policy table context
      ≡ record {
        answer = accept (closed_out context (records_of table));
        state = table_image (stamp policy) (blocks table) (closed context (records_of table));
      }
  unfolding close_fault closing refusing ◌or_else◌
  closing-accepted f = rw (passes, good, f) refl

  -- it writes the blocks in which these are others than the lent table's
  pub blocks-of-a-closing :
      context_fault context ≡ none
      → closed_blocks policy table context
      ≡ altered_blocks (blocks table) (records_of table) (records_of (table_image (stamp policy) (blocks table) (closed context (records_of table))))
  unfolding closed_blocks
  blocks-of-a-closing f = ap (λ o. altered_blocks (blocks table) (records_of table) (records_of o.state)) (closing-accepted f)

-- ---- decide, on bytes

-- no policy, no request, and a table of two bytes: 1, and "a refusal alters nothing lent"
pub rows-policy : decide [] (7 ∷ 8 ∷ []) [] ≡ record { answer = refuse (refusal 1 0 0); state = 7 ∷ 8 ∷ [] }
unfolding decide_fault decide policy_fault good_length refusing ◌or_else◌ unless
rows-policy = refl

-- "Rows are tested from top to bottom", under any policy that passes: the table of two bytes gets its number before the request
pub rows-table :
    (policy : List ℕ) → policy_fault policy ≡ none → decide policy (7 ∷ 8 ∷ []) [] ≡ record { answer = refuse (refusal 11 0 0); state = 7 ∷ 8 ∷ [] }
unfolding decide_fault decide table_fault table_length_fault good_length refusing ◌or_else◌ unless
rows-table policy passes = rw passes refl

-- any policy, table and request of which policy and table pass
module _ (policy table request : List ℕ) (passes : policy_fault policy ≡ none) (good : table_fault policy table ≡ none) where
  -- what the judge finds, asked with the policy's rules, 15 places a block and the table's records
  abbrev fault : Option Refusal
  fault = judge_fault (policy_of policy) (15 * blocks table) (records_of table) request

  abbrev judged : Outcome (List Record)
  judged = judge (policy_of policy) (15 * blocks table) (records_of table) request

  -- the request's numbers go before the judge's
  pub rows-request : (r : Refusal) → request_fault request ≡ some r → decide policy table request ≡ record { answer = refuse r; state = table }
  unfolding decide_fault decide refusing ◌or_else◌
  rows-request r q = rw (passes, good, q) refl

  -- the judge's come last; the table's bytes stay
  pub rows-judge :
      request_fault request ≡ none → (r : Refusal) → fault ≡ some r → decide policy table request ≡ record { answer = refuse r; state = table }
  unfolding decide_fault decide refusing ◌or_else◌
  rows-judge q r f = rw (passes, good, q, f) refl

  -- a grant's answer is the judge's, and the bytes are the image of its records, with the policy's stamp and as many blocks as before
  pub grant-in-bytes :
      request_fault request ≡ none → fault ≡ none → (a : Answer) (rs : List Record) → judged ≡ record { answer = a; state = rs }
      → decide policy table request ≡ record { answer = a; state = table_image (stamp policy) (blocks table) rs }
  unfolding decide_fault decide refusing ◌or_else◌
  grant-in-bytes q f a rs j = rw (passes, good, q, f, j) refl

  -- ---- preview, on bytes: "what the decision would return"

  -- a grant with its three numbers as they would be afterwards
  pub preview-of-a-grant :
      request_fault request ≡ none → fault ≡ none → (a : Answer) (rs : List Record) → judged ≡ record { answer = a; state = rs }
      → preview policy table request ≡ a
  unfolding preview
  preview-of-a-grant q f a rs j = ap (λ o. o.answer) (grant-in-bytes q f a rs j)

  -- a refusal by the judge's numbers, 34 among them
  pub preview-of-a-refusal : request_fault request ≡ none → (r : Refusal) → fault ≡ some r → preview policy table request ≡ refuse r
  unfolding preview
  preview-of-a-refusal q r f = ap (λ o. o.answer) (rows-judge q r f)

  -- ---- how many blocks a decision writes: "the number whose records differ"

  -- of a grant, those in which the new table's records are others than the lent one's
  pub blocks-of-a-grant :
      request_fault request ≡ none → fault ≡ none → (a : Answer) (rs : List Record) → judged ≡ record { answer = a; state = rs }
      → decided_blocks policy table request ≡ altered_blocks (blocks table) (records_of table) (records_of (table_image (stamp policy) (blocks table) rs))
  unfolding decided_blocks
  blocks-of-a-grant q f a rs j = ap (λ o. altered_blocks (blocks table) (records_of table) (records_of o.state)) (grant-in-bytes q f a rs j)

  -- of a refusal, those in which a table's records are others than its own
  pub blocks-of-a-refusal :
      request_fault request ≡ none → (r : Refusal) → fault ≡ some r
      → decided_blocks policy table request ≡ altered_blocks (blocks table) (records_of table) (records_of table)
  unfolding decided_blocks
  blocks-of-a-refusal q r f = ap (λ o. altered_blocks (blocks table) (records_of table) (records_of o.state)) (rows-judge q r f)

-- and a refusal by the numbers before: no policy, a table of two bytes, no request
pub preview-of-no-policy : preview [] (7 ∷ 8 ∷ []) [] ≡ refuse (refusal 1 0 0)
unfolding preview decide_fault decide policy_fault good_length refusing ◌or_else◌ unless
preview-of-no-policy = refl
