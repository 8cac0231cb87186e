use Prim.Native.Nat.{ℕ}
use native.Mathlib.Omega.{arith}
use mathlib.Core.Path.{sym, ap, ◌∙◌}
use mathlib.Core.List.{List}
use lib.ListN.{set}
use Rattle.drafts.proofs.ExclusionBlock.{begun}
use Rattle.drafts.proofs.exclusion.start_exclusion.Goals as goal

pub returns : goal.returns
returns c =
    let k = c.args.kind in
    let m = c.args.m in
    ap (λ (b : List ℕ). set (set b 56 k) 57 m) (c.no_exclusion.ensures ∙ sym (begun 0 0 (omega arith))) ∙ begun k m (omega arith)
