use native.Mathlib.Omega.{arith}
use Prim.Native.Nat.{◌≤◌}
use Rattle.std.proofs.Common.{rules}
use Rattle.std.proofs.iter.Serving.{serving}
use Rattle.word_laws.proofs.Chains.{all_below-from_all}
use Rattle.words.specs.Bytes.{part}
use Rattle.format.specs.Layout.{request_bytes}
use Rattle.format.specs.Request.{context_of}
use Rattle.format.specs.Context.{same_level, begins}
use Rattle.closed_records.proofs.Closed.{depth-most}
use Rattle.closed_records.proofs.closing.begins.Goals as goal

pub all-requires-clause-callable : goal.all-requires-clause-callable
all-requires-clause-callable c =
    let few : c.args.levels ≤ 4 = omega (arith, c.requires.levels_value, depth-most c.args.context.now) in
    grind serving

pub returns : goal.returns
unfolding begins
returns c =
    let a = c.args in
    rw (← c.requires.levels_value)
    (all_below-from_all (same_level (context_of (part a.s.now a.at request_bytes)) a.context.now) a.levels _ _ _ c.all.ensures.ran (λ x b q k. search rules))
