-- "Rows are tested from top to bottom": what applies first is the answer.
-- Assumes nothing.
use Rattle.std.specs.Prelude.{ℕ, zero, suc, Bool, true, false}
use Rattle.std.proofs.Math.Option.{Option, none, some}

infixr 20 ◌or_else◌
-- the one on the left if it applies, otherwise the one on the right
unfoldable pub ◌or_else◌ : {A : Type 0} → Option A → Option A → Option A
none or_else o = o
some a or_else o = some a

-- applies unless the test passes
unfoldable pub unless : {A : Type 0} → Bool → A → Option A
unless true a = none
unless false a = some a

-- the first that applies of f k, f (k + 1), ..: n in all
unfoldable pub first : {A : Type 0} → (ℕ → Option A) → ℕ → ℕ → Option A
first f k zero = none
first f k (suc n) = f k or_else first f (suc k) n
