-- What follows from demand 3, and is asked for besides.
-- Assumes nothing.
use Rattle.std.specs.Prelude.{ℕ, ◌+◌, ◌-◌, ◌≤◌, ◌≡◌, List, [], ◌∷◌, length}
use Rattle.std.proofs.Math.Option.{none}
use Rattle.format.specs.Answer.{Answer, accept, grant, refuse, Refusal}
use Rattle.format.specs.Layout.{table_blocks}
use Rattle.format.specs.Policy.{policy_fault}
use Rattle.format.specs.Table.{table_fault, records_of, fresh_table}
use Rattle.format.specs.Calls.{make_table}
use Rattle.judge.specs.Decide.{decide}
use Rattle.judge.specs.Close.{close}
use Rattle.register.specs.Calls.{Call, call_step}
use Rattle.register.specs.Demand3.{answers, after}

-- ---- what the answers to decisions and closings add up to: of these calls, it is a closing that accepts

-- the first number of the grants, summed
unfoldable pub recorded_sum : List Answer → ℕ
recorded_sum [] = 0
recorded_sum (accept n ∷ rest) = recorded_sum rest
recorded_sum (grant recorded removed held ∷ rest) = recorded + recorded_sum rest
recorded_sum (refuse r ∷ rest) = recorded_sum rest

-- their second number, and W2's "the number removed is returned and summed with removed"
unfoldable pub removed_sum : List Answer → ℕ
removed_sum [] = 0
removed_sum (accept n ∷ rest) = n + removed_sum rest
removed_sum (grant recorded removed held ∷ rest) = removed + removed_sum rest
removed_sum (refuse r ∷ rest) = removed_sum rest

-- the third number of the last grant, and n if there is none; less what closings have removed since
unfoldable pub last_held_from : ℕ → List Answer → ℕ
last_held_from n [] = n
last_held_from n (accept m ∷ rest) = last_held_from (n - m) rest
last_held_from n (grant recorded removed held ∷ rest) = last_held_from held rest
last_held_from n (refuse r ∷ rest) = last_held_from n rest

-- of calls from a fresh table, which holds none
unfoldable pub last_held : List Answer → ℕ
last_held l = last_held_from 0 l

-- "From a fresh table, recorded summed less removed summed is held": what the last grant returned as held, less what closings have removed since, which
-- is "records now", those of the table that the calls leave
pub record Balance (policy : List ℕ) (b : ℕ) (calls : List Call) : Type 0 where
  pub by-answers :
      (let told = answers (call_step policy) (fresh_table policy b) calls in recorded_sum told ≡ removed_sum told + last_held told)
  pub by-table :
      last_held (answers (call_step policy) (fresh_table policy b) calls)
      ≡ length (records_of (after (call_step policy) (fresh_table policy b) calls))

unfoldable pub Balanced : Type 0
Balanced =
    (policy : List ℕ) → policy_fault policy ≡ none
    → (b : ℕ) → 1 ≤ b → b ≤ table_blocks
    → (calls : List Call) → Balance policy b calls

-- A table that decisions and closings wrote passes the table's check: nothing that the engine writes is refused by it later.
unfoldable pub Passes : Type 0
Passes =
    (policy : List ℕ) → policy_fault policy ≡ none
    → (b : ℕ) → 1 ≤ b → b ≤ table_blocks
    → (calls : List Call) → table_fault policy (after (call_step policy) (fresh_table policy b) calls) ≡ none

-- "a refusal alters nothing lent": what is lent to be altered is the table of a decision or a closing and the buffer that a fresh table is made in. So
-- whatever the bytes.
pub record Untouched : Type 0 where
  pub deciding :
      (policy table request : List ℕ) (r : Refusal) → (decide policy table request).answer ≡ refuse r → (decide policy table request).state ≡ table
  pub closing :
      (policy table context : List ℕ) (r : Refusal) → (close policy table context).answer ≡ refuse r → (close policy table context).state ≡ table
  pub making : (policy buffer : List ℕ) (r : Refusal) → (make_table policy buffer).answer ≡ refuse r → (make_table policy buffer).state ≡ buffer
