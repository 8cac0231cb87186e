use Prim.Native.Nat.{◌≤◌}
use mathlib.Core.Path.{◌≡◌}
use lib.ListN.{length}
use Rattle.format.specs.Rule.{exclusion_at}
use Rattle.xml.specs.Write.{exclusion_text}
use Rattle.text_write.specs.Lost.{exclusion_lost}
use Rattle.text_write.specs.Pieces.{most_exclusion_bytes}
use Rattle.text_write.proofs.Laying.{PutRow}
use Rattle.text_write.proofs.rule.put_exclusions.Given as goal

abbrev pub invariant-loop-e : goal.invariant-loop-e
invariant-loop-e l =
    (l.e ≤ l.exclusions)
    × ((length l.output ≡ length l.initial.output)
    × PutRow most_exclusion_bytes (λ j. exclusion_text l.names.list.now (exclusion_at l.b j)) (λ j. exclusion_lost l.names.list.now (exclusion_at l.b j)) l.initial.output l.initial.at l.e l.output (record { next = l.at; named = l.named }))
