-- The calls that a history is made of, "every list that mixes decisions and closings, refused ones included": to the engine, and to the full register.
-- Assumes nothing.
use Rattle.std.specs.Prelude.{ℕ, List}
use Rattle.format.specs.Answer.{Outcome}
use Rattle.format.specs.Policy.{Policy}
use Rattle.judge.specs.Decide.{decide}
use Rattle.judge.specs.Close.{close}
use Rattle.register.specs.Run.{Event}
use Rattle.register.specs.Register.{register_step, register_close}

-- a decision with the bytes of its request, a closing with those of its context; whatever the bytes and their number
pub data Call : Type 0 where
  deciding : List ℕ → Call
  closing : List ℕ → Call

-- one call to the engine, on a table
unfoldable pub call_step : List ℕ → List ℕ → Call → Outcome (List ℕ)
call_step policy table (deciding q) = decide policy table q
call_step policy table (closing c) = close policy table c

-- the same call to the register, on its list
unfoldable pub register_call : Policy → ℕ → List Event → Call → Outcome (List Event)
register_call p room l (deciding q) = register_step p room l q
register_call p room l (closing c) = register_close p l c
