-- Demand 3, of code that runs: what a session promises, the table made fresh and decisions and closings put one after another to it by the engine's own code.
-- crates/register/specs/Demand3.antt states the claim over definitions; here it is the contract of a function that calls the engine.
-- Assumes nothing.
use Rattle.std.specs.Prelude.{ℕ, ◌≡◌, cond, take, drop, eqb}
use mathlib.Core.List.{List, [], ◌∷◌, map, flatten}
use Rattle.format.specs.Answer.{Answer, accept, refuse, Refusal}
use Rattle.format.specs.Layout.{capacity}
use Rattle.format.specs.Block.{blocks}
use Rattle.format.specs.Calls.{make_table}
use Rattle.format.specs.Policy.{policy_of}
use Rattle.register.specs.Image.{register_image}
use Rattle.register.specs.Calls.{Call, deciding, closing, register_call}
use Rattle.register.specs.Demand3.{answers, after, NobodyEver}
use Rattle.answers.specs.Numbers.{four}

-- a call of a kind: 0 for a decision, any other number for a closing
unfoldable pub call_of : ℕ → List ℕ → Call
call_of kind bytes = cond (eqb kind 0) (deciding bytes) (closing bytes)

-- The calls, "whatever the bytes and length of each": bytes cut one after another into pieces of these lengths, each for a call of its kind. Where the
-- bytes end early, a piece is what is left of them.
unfoldable pub cut : List ℕ → List ℕ → List ℕ → List Call
cut [] lengths bytes = []
cut (k ∷ ks) [] bytes = []
cut (k ∷ ks) (n ∷ ns) bytes = call_of k (take n bytes) ∷ cut ks ns (drop n bytes)

-- an answer's four numbers, one after another
unfoldable pub four_numbers : Answer → List ℕ
four_numbers a = (four a).number ∷ (four a).first ∷ (four a).second ∷ (four a).third ∷ []

-- the answers one after another, four numbers each
unfoldable pub written : List Answer → List ℕ
written l = flatten (map four_numbers l)

-- What is left of a session on a table of b blocks, "for every such list" of calls:
pub record AsRegister (policy : List ℕ) (b : ℕ) (calls : List Call) (answers_after table_after : List ℕ) : Type 0 where
  -- "Each answer, numbers included, equals that of the full register of document 01, which forgets no grant."
  pub answers-same : answers_after ≡ written (answers (register_call (policy_of policy) (capacity b)) [] calls)
  -- "The table is, byte by byte, the image of just those grants that some rule still counts, in the order granted and marked for exactly those rules."
  pub table_same : table_after ≡ register_image policy b (after (register_call (policy_of policy) (capacity b)) [] calls)
  -- "And at no point of the list has a user reached the forbidden number .. in any run of a rule, the step just granted counted in."
  pub nobody : NobodyEver (policy_of policy) (capacity b) [] calls

-- What a session of these calls does with a lent buffer for the table and another for the answers:
pub record Ran (policy buffer : List ℕ) (calls : List Call) (answers_before : List ℕ) (reply : Answer) (answers_after table_after : List ℕ) : Type 0 where
  -- it replies as making the table does
  pub made : reply ≡ (make_table policy buffer).answer
  -- where no table is made (a bad policy, a bad length), no lent number is altered
  pub refused : (r : Refusal) → reply ≡ refuse r → (table_after ≡ buffer) × (answers_after ≡ answers_before)
  -- where one is made, demand 3 holds of the answers and of the table
  pub kept : (n : ℕ) → reply ≡ accept n → AsRegister policy (blocks buffer) calls answers_after table_after
