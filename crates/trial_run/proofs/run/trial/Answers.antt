use Rattle.std.proofs.Common.{arith, ◌≡◌, ℕ, List, ◌*◌, ◌-◌, take, replicate, ap, ◌∙◌, sym, subst}
use Rattle.std.proofs.lemmas.List.{take-replicate}
use Rattle.std.proofs.lemmas.Result.{on_ok_weaker}
use Rattle.trial_run.specs.Reading.{ReadsFront, policy_size}
use Rattle.trial_run.proofs.Deciding.{run_whole}
use Rattle.trial_run.proofs.run.trial.Goals as goal

pub returns : goal.returns
returns g c =
    let len = c.in_ok-len.len in
    let size = 512 * c.in_ok-size.field-0 in
    let held = c.read_policy.new.policy in
    let zeros : List ℕ = replicate 65536 0 in
    let all : (n : ℕ) → n - 0 ≡ n = λ n. omega arith in
    on_ok_weaker
    c.session.result
    (run_whole
    _
    _
    _
    _
    _
    (take (len - 0) held)
    (take (size - 0) zeros)
    c.in_ok-size.field-0
    (subst (λ n. ReadsFront (g.R.Read.remaining c.args.input.now) (g.R.Read.remaining c.read_policy.new.input) policy_size (take n held)) (sym (all len)) c.in_ok-len.ensures.bytes)
    c.in_ok-size.ensures.bytes
    (ap (λ n. take n zeros) (all size) ∙ take-replicate size 65536 0 (omega (arith, c.in_ok-size.ensures.within))))
    c.session.ensures.lines
