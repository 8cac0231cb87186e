-- What a call answers: "Numbers of refusal by place", and what acceptance and grant return.
-- Assumes nothing.
use Rattle.std.specs.Prelude.{ℕ}
use Rattle.std.proofs.Math.Option.{Option, none, some}

-- a refusal: its number and the two that come "With it", each 0 where the paper has none
pub record Refusal : Type 0 where
  pub number : ℕ
  pub first : ℕ
  pub second : ℕ

abbrev pub refusal : ℕ → ℕ → ℕ → Refusal
refusal n x y = record { number = n; first = x; second = y }

-- "An answer is a grant with its three numbers or a refusal with its number and two places."
-- "Acceptance returns a policy's rules, a table's records, a fresh table's places".
pub data Answer : Type 0 where
  accept : ℕ → Answer
  grant : (recorded removed held : ℕ) → Answer
  refuse : Refusal → Answer

-- an answer, and the state that the call leaves: a lent table's bytes, a table's records, a register's list
pub record Outcome (S : Type 0) : Type 0 where
  pub answer : Answer
  pub state : S

-- "a refusal alters nothing": where a check applies, its refusal and the state as it was; otherwise what follows
unfoldable pub refusing : {S : Type 0} → Option Refusal → S → Outcome S → Outcome S
refusing none s o = o
refusing (some r) s o = record { answer = refuse r; state = s }

-- the same for a call that alters nothing in any case
unfoldable pub accepting : Option Refusal → ℕ → Answer
accepting none n = accept n
accepting (some r) n = refuse r
