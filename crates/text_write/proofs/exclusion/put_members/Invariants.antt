use Prim.Native.Nat.{◌+◌, ◌*◌, ◌≤◌}
use mathlib.Core.Path.{◌≡◌}
use lib.ListN.{length}
use Rattle.format.specs.Layout.{member_bytes}
use Rattle.format.specs.Rule.{privilege_at}
use Rattle.fields.specs.Code.{exclusion_code}
use Rattle.xml.specs.Write.{member_text}
use Rattle.text_write.specs.Lost.{member_lost}
use Rattle.text_write.specs.Pieces.{most_pair_bytes}
use Rattle.text_write.proofs.Laying.{PutRow}
use Rattle.text_write.proofs.exclusion.put_members.Given as goal

abbrev pub invariant-loop-i : goal.invariant-loop-i
invariant-loop-i l =
    (l.i ≤ l.n)
    × ((length l.output ≡ length l.initial.output)
    × PutRow most_pair_bytes (λ j. member_text l.names.list.now (exclusion_code l.kind) (privilege_at l.b (l.members + member_bytes * j))) (λ j. member_lost l.names.list.now (exclusion_code l.kind) (privilege_at l.b (l.members + member_bytes * j))) l.initial.output l.initial.at l.i l.output (record { next = l.at; named = l.named }))
