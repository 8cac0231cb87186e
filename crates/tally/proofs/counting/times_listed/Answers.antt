use Rattle.std.proofs.Common.{◌≡◌, arith}
use Rattle.std.proofs.lemmas.List.Sums.{count_by-le-length}
use Rattle.std.specs.List.{count_by}
use Rattle.tally.specs.declared.counting.Counted.{Counted}
use Rattle.tally.specs.Code.{listed, member_at}
use lib.Dec.{eqb}
use lib.Seq.{take_all}
use Rattle.tally.proofs.counting.times_listed.Goals as goal

pub returns : goal.returns
unfolding listed
returns c =
    let a = c.args in
    let l = c.loop-other in
    let t = λ (m : Counted). eqb m.privilege.0 (member_at a.members.now a.k) in
    let e : l.count ≡ count_by t a.members.now = rw (take_all l.other-index a.members.now c.loop-other-test.false) at l.invariant in
    (e, omega (arith, e, count_by-le-length t a.members.now))
