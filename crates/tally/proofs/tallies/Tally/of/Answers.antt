use Rattle.tally.proofs.Lists.{set_before}
use Rattle.tally.proofs.Taken.{fresh, none-taken}
use Rattle.tally.specs.Code.{no_count}
use Rattle.tally.specs.declared.counting.Counted.{Counted}
use Rattle.format.specs.Rule.{exclusion_at}
use Rattle.fields.specs.Code.{packed_of}
use lib.ListN.{length-set}
use native.Mathlib.Omega.{arith}
use mathlib.Core.Path.{refl, ap, ◌∙◌}
use Prim.Native.Nat.{ℕ, ◌+◌, ◌*◌}
use Rattle.tally.proofs.tallies.Tally.of.Goals as goal

pub loop-k-preserved : goal.loop-k-preserved
loop-k-preserved c =
    let a = c.args in
    let l = c.loop-k in
    let inv = l.invariant.1 in
    let v = ap {B = Counted} (λ (n : ℕ). record { privilege = record { 0 = n }; times = 0 }) (c.packed.ensures ∙ ap packed_of c.read.ensures) in
    (omega arith, (length-set l.members l.k _ ∙ inv.0, set_before no_count (λ (m : Counted). m) l.members l.k _ (λ i. fresh ((exclusion_at a.b.now a.e).member i)) (omega arith) inv.1 v))

pub returns : goal.returns
returns c =
    let a = c.args in
    let l = c.loop-k in
    none-taken (exclusion_at a.b.now a.e) _ refl l.invariant.1.0
    (λ k h. omega (arith, c.fits-b (60 + 36 * a.e + 4 * k), c.fits-b (60 + 36 * a.e + 4 * k + 1)))
    (λ k h. l.invariant.1.1 k (omega arith)) refl
