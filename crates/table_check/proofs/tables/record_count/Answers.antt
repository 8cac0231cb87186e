use Rattle.std.proofs.Common.{◌≡◌, ℕ, ◌+◌, ◌*◌, ◌/◌, ◌^◌, ◌∙◌, refl, length, arith, rules}
use Rattle.std.proofs.lemmas.Iterator.{YieldsList-from_range, YieldsList-from_map}
use Rattle.std.proofs.lemmas.Iterator.Consumers.{sum_by_from_yields_List, fits_by_from_yields_list}
use Rattle.std.specs.List.{range_with_len}
use Rattle.format.specs.Block.{block}
use Rattle.format.specs.Table.{count}
use Rattle.table_check.proofs.Counted.{counts-are, counts-few}
use Rattle.table_check.proofs.tables.record_count.Goals as goal

pub sum-requires-clause-fits : goal.sum-requires-clause-fits
sum-requires-clause-fits c =
    let s = c.args.table.now in
    let n = length s / 512 in
    fits_by_from_yields_list (λ k. count (block s k)) (range_with_len 0 n) c.map.result (2 ^ 64)
    (YieldsList-from_map _ (λ k. count (block s k)) (YieldsList-from_range 0 n n c.map.ensures.source (omega arith)) c.map.ensures.closure (λ x r q k. search rules))
    (omega (arith, counts-few s (λ j. (c.type_inv.table j).fits)))

pub returns : goal.returns
returns c =
    let s = c.args.table.now in
    let n = length s / 512 in
    sum_by_from_yields_List (λ k. count (block s k)) (range_with_len 0 n) c.map.result c.sum.result c.sum.ensures.ran
    (YieldsList-from_map _ (λ k. count (block s k)) (YieldsList-from_range 0 n n c.map.ensures.source (omega arith)) c.map.ensures.closure (λ x r q k. search rules))
    ∙ counts-are s
