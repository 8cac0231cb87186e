-- What a C function leaves: its answer in four numbers, and the lent bytes.
-- Assumes nothing.
use Rattle.std.specs.Prelude.{ℕ, List}
use Rattle.answers.specs.Numbers.{Four}

-- what a call leaves: its answer and the lent table or output
pub record Left : Type 0 where
  pub reply : Four
  pub bytes : List ℕ

abbrev pub left : Four → List ℕ → Left
left r s = record { reply = r; bytes = s }
