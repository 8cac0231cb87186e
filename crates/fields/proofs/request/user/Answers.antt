use native.Mathlib.Nat.{add-zero}
use native.Mathlib.Omega.{arith}
use Rattle.word_laws.proofs.Parts.{u32_at-part}
use Rattle.fields.proofs.request.user.Goals as goal

pub returns : goal.returns
returns c =
    let a = c.args in
    rw (u32_at-part a.s.now a.at 28 0 (omega arith), add-zero a.at) c.u32_at.ensures
