-- Demand 3, the claim, in plain words:
--
-- Take any policy that passes its check, any number of blocks b from 1 to 128, and any list of decisions and closings, whatever the bytes and length of
-- each request and context, empty or of any length. Put the calls one after another to the engine, the first with the table made fresh under the
-- policy, each other with the table as the last one left it. Put the same calls to the full register, which starts with an empty list, forgets no
-- grant and no closing and never sees the table. Then
--   answers: each answer of the engine, its numbers included, is the register's;
--   tables:  at the start and after each call the table is, byte by byte, the image that the register prescribes: the grants that some rule still
--            counts, in the order granted, marked for exactly those rules;
--   nobody:  at no point has any user reached the forbidden number in any run of a rule, the step just granted counted in.
--
-- The proof is crates/demand3/proofs/Demand3.antt. What document 01 claims of decisions alone follows: Base.antt.
-- Assumes nothing.
use Rattle.std.specs.Prelude.{ℕ, ◌≤◌, ◌≡◌, List, [], ◌∷◌, map}
use Rattle.std.proofs.Math.Option.{none}
use Rattle.format.specs.Answer.{Answer, accept, grant, refuse, Outcome}
use Rattle.format.specs.Layout.{capacity, table_blocks}
use Rattle.format.specs.Policy.{Policy, policy_fault, policy_of}
use Rattle.format.specs.Table.{fresh_table}
use Rattle.register.specs.Run.{Event}
use Rattle.register.specs.Image.{register_image}
use Rattle.register.specs.Reached.{standing, with_step, Nobody}
use Rattle.register.specs.Calls.{Call, deciding, closing, call_step, register_call}

-- ---- calls one after another, each on the state that the last one left

-- their answers
unfoldable pub answers : {S C : Type 0} → (S → C → Outcome S) → S → List C → List Answer
answers step s [] = []
answers step s (c ∷ cs) = (step s c).answer ∷ answers step (step s c).state cs

-- the state at every point: at the start, and after each call
unfoldable pub states : {S C : Type 0} → (S → C → Outcome S) → S → List C → List S
states step s [] = s ∷ []
states step s (c ∷ cs) = s ∷ states step (step s c).state cs

-- the state after the last one
unfoldable pub after : {S C : Type 0} → (S → C → Outcome S) → S → List C → S
after step s [] = s
after step s (c ∷ cs) = after step (step s c).state cs

-- what is asked of a grant besides, and of no other answer
unfoldable pub AtGrant : Answer → Type 0 → Type 0
AtGrant (accept n) X = Unit {0}
AtGrant (grant recorded removed held) X = X
AtGrant (refuse r) X = Unit {0}

-- a claim about the state at every point, and another about each call that is granted, with the state before it
unfoldable pub AtEvery : {S C : Type 0} → (S → C → Outcome S) → (S → Type 0) → (S → C → Type 0) → S → List C → Type 0
AtEvery step AtPoint AtStep s [] = AtPoint s
AtEvery step AtPoint AtStep s (c ∷ cs) =
    AtPoint s × AtGrant (step s c).answer (AtStep s c) × AtEvery step AtPoint AtStep (step s c).state cs

-- ---- nobody has reached the forbidden number, at any point, "the step just granted counted in"

-- the step that a call takes, counted in: a closing takes none
unfoldable pub StepCounted : Policy → List Event → Call → Type 0
StepCounted p l (deciding q) = Nobody p (with_step p l q)
StepCounted p l (closing c) = Unit {0}

unfoldable pub NobodyEver : Policy → ℕ → List Event → List Call → Type 0
NobodyEver p room l cs = AtEvery (register_call p room) (λ l'. Nobody p (standing p l')) (StepCounted p) l cs

-- ---- the claim

pub record Kept (policy : List ℕ) (b : ℕ) (calls : List Call) : Type 0 where
  pub answers-same :
      answers (call_step policy) (fresh_table policy b) calls
      ≡ answers (register_call (policy_of policy) (capacity b)) [] calls
  pub tables-same :
      states (call_step policy) (fresh_table policy b) calls
      ≡ map (register_image policy b) (states (register_call (policy_of policy) (capacity b)) [] calls)
  pub nobody : NobodyEver (policy_of policy) (capacity b) [] calls

unfoldable pub Demand3 : Type 0
Demand3 =
    (policy : List ℕ) → policy_fault policy ≡ none
    → (b : ℕ) → 1 ≤ b → b ≤ table_blocks
    → (calls : List Call) → Kept policy b calls
