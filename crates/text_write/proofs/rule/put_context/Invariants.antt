use Prim.Native.Nat.{◌≤◌}
use mathlib.Core.Path.{◌≡◌}
use lib.ListN.{length}
use mathlib.Core.List.{◌++◌}
use Rattle.format.specs.Rule.{level_at}
use Rattle.xml.specs.Write.{level_text}
use Rattle.text_write.specs.Lost.{level_lost}
use Rattle.text_write.specs.Pieces.{most_level_bytes, comma_text}
use Rattle.text_write.proofs.Laying.{PutRow}
use Rattle.text_write.proofs.rule.put_context.Given as goal

abbrev pub invariant-loop-i : goal.invariant-loop-i
invariant-loop-i l =
    (l.i ≤ l.depth)
    × ((length l.output ≡ length l.initial.output)
    × PutRow most_level_bytes (λ j. comma_text j ++ level_text l.names.list.now (level_at l.b j)) (λ j. level_lost l.names.list.now (level_at l.b j)) l.initial.output l.initial.at l.i l.output (record { next = l.at; named = l.named }))
