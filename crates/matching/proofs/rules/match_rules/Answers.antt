use Prim.Native.Nat.{ℕ, ◌+◌, ◌-◌, ◌*◌, ◌^◌, ◌<◌, ◌≤◌}
use native.Mathlib.Omega.{arith}
use mathlib.Core.Path.{◌≡◌, sym, ap, ap₂, ◌∙◌}
use mathlib.Core.Bool.{Bool, cond, not, ◌&&◌, ◌||◌}
use mathlib.Core.List.{List}
use lib.ListN.{length, take, drop}
use Rattle.words.specs.Bytes.{part}
use Rattle.word_laws.proofs.Parts.{part-to, part_length, part-whole}
use Rattle.word_laws.proofs.BitLaws.{bits-start}
use Rattle.format.specs.Block.{block}
use Rattle.format.specs.Request.{Request}
use Rattle.format.specs.Rule.{rule_at, is_set}
use Rattle.format.specs.Fits.{fits}
use Rattle.format.specs.Policy.{policy_of, rule_count}
use Rattle.format_laws.proofs.AcceptedPolicy.{rules-most, rule-inside, depth-few}
use Rattle.judge.specs.Verdict.{is_first}
use Rattle.matching.specs.Sets.{fitting_in, starting_in, last_in}
use Rattle.matching.proofs.RuleSets.{bits-next}
use Rattle.matching.proofs.rules.match_rules.Invariants.{fit, start, final, those}
use Rattle.matching.proofs.rules.match_rules.Goals.{After-flag-fitting, After-flag-last, After-flag-starting, In-loop-i, Start}
use Rattle.matching.proofs.rules.match_rules.Goals as goal

pub loop-i-init : goal.loop-i-init
loop-i-init c = (omega arith, (sym (bits-start _), (sym (bits-start _), sym (bits-start _))))

-- at a turn the rule is one of the policy's, so that its block stands in the image
module _ (c : In-loop-i) where
  one : c.loop-i.i < rule_count c.args.policy.now.image.now
  one = omega (arith, c.args.policy.now.rules_are)

  few : c.loop-i.i < 32
  few = omega (arith, one, rules-most c.args.policy.now.image.now c.args.policy.now.accepted)

pub fits-fit-requires : goal.fits-fit-requires
fits-fit-requires c =
    let s = (goal.at.fits-fit-requires c).Start in
    rw c.rule-b.ensures (depth-few s.args.policy.now.image.now s.args.policy.now.accepted c.loop-i.i (one (goal.at.fits-fit-requires c).In-loop-i), omega arith)

pub flag-fitting-requires : goal.flag-fitting-requires
flag-fitting-requires c = few (goal.at.flag-fitting-requires c).In-loop-i

-- what each set takes in at a turn: with the flag m of the rule at hand, x is the set of one rule more
abbrev Next : (Request → List ℕ → Bool) → In-loop-i → ℕ → ℕ → Type 0
Next f t x m = (x + m ≡ those f t.args.policy.now.image.now t.args.q.now (t.loop-i.i + 1)) × (x + m < 4294967296)

module _ (f : Request → List ℕ → Bool) (t : In-loop-i) where
  next :
      {x m : ℕ} {b : Bool} → x ≡ those f t.args.policy.now.image.now t.args.q.now t.loop-i.i
      → b ≡ f t.args.q.now (block t.args.policy.now.image.now t.loop-i.i) → m ≡ cond b (2 ^ t.loop-i.i) 0 → Next f t x m
  next = bits-next t.loop-i.i (λ i. f t.args.q.now (block t.args.policy.now.image.now i)) (few t)

-- the request is the part of it that begins at its first byte
lent-request : (t : In-loop-i) → part t.args.q.now 0 28 ≡ t.args.q.now
lent-request t = part-whole t.args.q.now 28 t.told-q

next-fitting : (c : After-flag-fitting) → Next fit (goal.at.After-flag-fitting c).In-loop-i c.loop-i.fitting c.flag-fitting.result
next-fitting c =
    let t = (goal.at.After-flag-fitting c).In-loop-i in
    next fit t c.loop-i.invariant.1.0
    (c.fits-fit.ensures ∙ ap₂ {C = Bool} (λ (b : List ℕ) (q : Request). fit q b) c.rule-b.ensures (lent-request t)) c.flag-fitting.ensures

pub overflow_add-fitting : goal.overflow_add-fitting
overflow_add-fitting c = omega (arith, (next-fitting c).1)

pub flag-starting-requires : goal.flag-starting-requires
flag-starting-requires c = few (goal.at.flag-starting-requires c).In-loop-i

next-starting : (c : After-flag-starting) → Next start (goal.at.After-flag-starting c).In-loop-i c.loop-i.starting c.flag-starting.result
next-starting c =
    let t = (goal.at.After-flag-starting c).In-loop-i in
    next start t c.loop-i.invariant.1.1.0
    (ap₂ {C = Bool} (λ (f g : Bool). f && g) c.fits-fit.ensures c.needs_no_run.ensures
    ∙ ap₂ {C = Bool} (λ (b : List ℕ) (q : Request). fits (rule_at b) q && (not (is_set (rule_at b).first_step) || is_first (rule_at b) c.args.q.now)) c.rule-b.ensures (lent-request t))
    c.flag-starting.ensures

pub overflow_add-starting : goal.overflow_add-starting
overflow_add-starting c = omega (arith, (next-starting c).1)

pub flag-last-requires : goal.flag-last-requires
flag-last-requires c = few (goal.at.flag-last-requires c).In-loop-i

next_last : (c : After-flag-last) → Next final (goal.at.After-flag-last c).In-loop-i c.loop-i.last c.flag-last.result
next_last c =
    let t = (goal.at.After-flag-last c).In-loop-i in
    next final t c.loop-i.invariant.1.1.1 (c.is_last.ensures ∙ ap (final c.args.q.now) c.rule-b.ensures) c.flag-last.ensures

pub overflow_add-last : goal.overflow_add-last
overflow_add-last c = omega (arith, (next_last c).1)

pub loop-i-preserved : goal.loop-i-preserved
loop-i-preserved c = (omega arith, ((next-fitting (goal.at.loop-i-preserved c).After-flag-fitting).0, ((next-starting (goal.at.loop-i-preserved c).After-flag-starting).0, (next_last c).0)))

pub returns : goal.returns
unfolding fitting_in starting_in last_in policy_of
returns c =
    let l = c.loop-i in
    let s = (goal.at.returns c).Start in
    let a = s.args in
    let e : l.i ≡ rule_count a.policy.now.image.now = omega (arith, s.args.policy.now.rules_are) in
    record {
      fitting-are = l.invariant.1.0 ∙ ap (those fit a.policy.now.image.now a.q.now) e;
      starting-are = l.invariant.1.1.0 ∙ ap (those start a.policy.now.image.now a.q.now) e;
      last-are = l.invariant.1.1.1 ∙ ap (those final a.policy.now.image.now a.q.now) e;
    }
