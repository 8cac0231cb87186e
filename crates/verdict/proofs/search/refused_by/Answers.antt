use native.Mathlib.Omega.{arith}
use borrow.Author.Tests.{eq-eqb, ne_eqb}
use Rattle.words.specs.Bytes.{byte_at}
use Rattle.judge.specs.Tally.{exclusion_number}
use Prim.Native.Nat.{◌+◌, ◌*◌}
use Rattle.verdict.proofs.search.refused_by.Goals as goal

pub returns-in-1 : goal.returns-in-1
unfolding exclusion_number
returns-in-1 c = rw (eq-eqb (byte_at c.args.b.now (56 + 36 * c.args.e)) 1 c.in-1.is)

pub returns-in_default : goal.returns-in_default
unfolding exclusion_number
returns-in_default c = rw (ne_eqb (byte_at c.args.b.now (56 + 36 * c.args.e)) 1 (λ h. omega arith))
