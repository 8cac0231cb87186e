use Prim.Native.Nat.{ℕ, ◌<◌}
use native.Mathlib.Numerals.{add-one}
use native.Mathlib.Omega.{arith}
use mathlib.Core.Path.{◌≡◌, refl}
use lib.ListN.{get_or}
use Rattle.words.specs.Lists.{all_below}
use Rattle.word_laws.proofs.Bytes.{Byte}
use Rattle.format.specs.Rule.{rule_at}
use Rattle.request_check.proofs.RequestWords.{type-word, value-word}
use Rattle.matching.proofs.fits.levels_fit.Goals as goal

pub loop-i-init : goal.loop-i-init
unfolding all_below
loop-i-init c = (omega arith, refl)

pub loop-i-preserved : goal.loop-i-preserved
unfolding all_below rule_at
loop-i-preserved c =
    let a = c.args in
    let i = c.loop-i.i in
    let four : i < 4 = omega arith in
    let bytes : (j : ℕ) → Byte (get_or a.s.now j 0) = λ j. (c.type_inv.s j).fits in
    (omega arith, rw (add-one i) (cc (type-word a.s.now a.at i four bytes, value-word a.s.now a.at i four bytes)))

pub returns : goal.returns
returns c = let e : c.loop-i.i ≡ c.args.n = omega arith in rw (← e) c.loop-i.invariant.1
