use native.Mathlib.Nat.{add_assoc}
use native.Mathlib.Omega.{arith}
use Rattle.word_laws.proofs.Parts.{u16_at-part}
use Rattle.fields.proofs.request.privilege.Goals as goal

pub returns : goal.returns
returns c =
    let a = c.args in
    rw (u16_at-part a.s.now a.at 28 8 (omega arith), u16_at-part a.s.now a.at 28 10 (omega arith), ← add_assoc a.at 8 2)
    c.read.ensures
