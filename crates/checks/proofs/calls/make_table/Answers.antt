use mathlib.Core.Path.{sym, ◌∙◌}
use native.Mathlib.Omega.{arith}
use Rattle.std.proofs.lemmas.Result.{err_from_is_err_and}
use Rattle.policy_check.proofs.Lengths.{good-blocked}
use Rattle.checks.proofs.Checked.{fresh-policy, fresh-length, fresh-written}
use Rattle.checks.proofs.calls.make_table.Goals as goal

pub returns-in_err-checked : goal.returns-in_err-checked
returns-in_err-checked c =
    let p = err_from_is_err_and c.from_residual.result c.from_residual.ensures.1 in
    rw (p.1, p.2) (fresh-policy _ _ _ (sym c.in_err-checked.ensures.fault))

pub returns-then-not-good_length : goal.returns-then-not-good_length
returns-then-not-good_length c = fresh-length _ _ (sym c.in_ok-checked.ensures.fault) (sym c.good_length.ensures ∙ c.if-not-good_length.true)

pub capacity-places-requires : goal.capacity-places-requires
capacity-places-requires c = omega (arith, (good-blocked 128 _ (sym c.good_length.ensures ∙ c.if-not-good_length.false)).2)

pub fresh-requires : goal.fresh-requires
fresh-requires c = sym c.good_length.ensures ∙ c.if-not-good_length.false

pub overflow_cast-result : goal.overflow_cast-result
overflow_cast-result c =
    omega (arith, c.capacity-places.ensures, (good-blocked 128 _ (sym c.good_length.ensures ∙ c.if-not-good_length.false)).2)

pub returns : goal.returns
returns c =
    let k = c.in_ok-checked in
    fresh-written _ _ _ _ _ (sym k.ensures.fault) (sym c.good_length.ensures ∙ c.if-not-good_length.false) c.capacity-places.ensures c.fresh.ensures.0 (rw k.ensures.image at c.stamp.ensures)
