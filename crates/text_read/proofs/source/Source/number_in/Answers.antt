use native.Mathlib.Omega.{arith}
use mathlib.Core.Path.{◌≡◌, refl}
use lib.ListN.{replicate}
use Rattle.xml.specs.Names.{number_of}
use Rattle.xml.specs.Read.{listed}
use Rattle.tags.specs.Code.{value_at}
use Rattle.tags.proofs.Squeezing.{laid-front}
use Rattle.names.specs.Code.{name_code, number_found}
use Rattle.names.proofs.LookUps.{too_long}
use Rattle.text_read.proofs.LookLaws.{looked, looked-number}
use Rattle.text_read.proofs.source.Source.number_in.Goals.{After-ok_or}
use Rattle.text_read.proofs.source.Source.number_in.Goals as goal

pub returns-then-n-gt-MOST_NAME_BYTES-clause-fault : goal.returns-then-n-gt-MOST_NAME_BYTES-clause-fault
unfolding listed
returns-then-n-gt-MOST_NAME_BYTES-clause-fault c =
    let a = c.args in
    let s = a.self.now in
    rw (too_long s.names.list.now s.names.good (name_code a.kind) (value_at s.text.now a.s) (omega (arith, c.squeeze-n.ensures.0))) refl

-- what was looked up is the name
looked-up : (c : After-ok_or) → let a = c.args in number_found c.number_of.result ≡ number_of a.self.now.names.list.now (name_code a.kind) (value_at a.self.now.text.now a.s)
looked-up c =
    let front = laid-front (replicate 60 0) c.squeeze-n.ensures.0 c.squeeze-n.ensures.1 c.if-n-gt-MOST_NAME_BYTES.false in
    rw (front, c.code.ensures) at c.number_of.ensures

pub returns-clause-fault : goal.returns-clause-fault
returns-clause-fault c = rw c.ok_or.ensures.value (looked c.number_of.result _ (looked-up c))

pub returns-clause-number : goal.returns-clause-number
returns-clause-number c = rw c.ok_or.ensures.value (looked-number c.number_of.result _ (looked-up c))
