-- "Rows are tested from top to bottom": what the first rows of a call come to, the policy's and then the table's, and what a refusal leaves.
-- Assumes nothing.
use Prim.Native.Nat.{ℕ}
use mathlib.Core.Path.{◌≡◌, ap, ◌∙◌}
use mathlib.Core.List.{List}
use mathlib.Core.Option.{Option, none, some}
use borrow.Author.Tests.{eqb-true}
use lib.ListN.{length}
use lib.Dec.{eqb}
use Rattle.words.specs.First.{◌or_else◌, unless}
use Rattle.word_laws.proofs.First.{none_first, none-or_else, passes-unless}
use Rattle.format.specs.Answer.{Answer, refuse, Refusal, Outcome, refusing}
use Rattle.format.specs.Block.{blocks}
use Rattle.format.specs.Policy.{policy_fault}
use Rattle.format.specs.Table.{table_fault, records_of}
use Rattle.format.specs.Altered.{altered_blocks}

pub first_some : (a b : Option Refusal) (r : Refusal) → a ≡ some r → a or_else b ≡ some r
unfolding ◌or_else◌
first_some a b r e = rw e

-- a row that asks for a length comes first
pub first-length : (s : List ℕ) (n : ℕ) (r : Refusal) (o : Option Refusal) → unless (eqb (length s) n) r or_else o ≡ none → length s ≡ n
first-length s n r o e = eqb-true (length s) n (passes-unless _ r (none_first _ o e))

module _ (policy table : List ℕ) (next : Option Refusal) where
  pub policy-row : (r : Refusal) → policy_fault policy ≡ some r → policy_fault policy or_else table_fault policy table or_else next ≡ some r
  policy-row r e = first_some (policy_fault policy) _ r e

  module _ (policy-good : policy_fault policy ≡ none) where
    pub table-row : (r : Refusal) → table_fault policy table ≡ some r → policy_fault policy or_else table_fault policy table or_else next ≡ some r
    table-row r e = none-or_else (policy_fault policy) _ policy-good ∙ first_some (table_fault policy table) next r e

    pub next_row : table_fault policy table ≡ none → policy_fault policy or_else table_fault policy table or_else next ≡ next
    next_row e = none-or_else (policy_fault policy) _ policy-good ∙ none-or_else (table_fault policy table) next e

-- what a call leaves where a row applies, and where none does
module _ (fault : Option Refusal) (table : List ℕ) (done : Outcome (List ℕ)) where
  pub refused : (r : Refusal) → fault ≡ some r → record { answer = refuse r; state = table } ≡ refusing fault table done
  unfolding refusing
  refused r e = rw e

  pub passed : fault ≡ none → done ≡ refusing fault table done
  unfolding refusing
  passed e = rw e

-- the blocks that a call has written are those of which the table that it leaves has other records
pub counted :
    (table : List ℕ) {a : Answer} {s : List ℕ} {o : Outcome (List ℕ)} {c : ℕ} → record { answer = a; state = s } ≡ o
    → c ≡ altered_blocks (blocks table) (records_of table) (records_of s) → c ≡ altered_blocks (blocks table) (records_of table) (records_of o.state)
counted table is written =
    written ∙ ap (λ (x : Outcome (List ℕ)). altered_blocks (blocks table) (records_of table) (records_of x.state)) is
