use Prim.Native.Nat.{ℕ, ◌≤◌}
use mathlib.Core.Path.{◌≡◌}
use mathlib.Core.List.{List}
use lib.ListN.{length}
use Rattle.word_laws.proofs.Every.{Every}
use Rattle.word_laws.proofs.Bytes.{Byte}
use Rattle.format.specs.Table.{Record}
use Rattle.clearing.specs.Settling.{Settling, StayIn}
use Rattle.clearing.proofs.settling.pass_records.Given as goal

abbrev pub invariant-loop-i : goal.invariant-loop-i
invariant-loop-i l =
    ((l.from ≤ l.i) × (l.i ≤ l.to) × (l.held ≤ l.i))
    × ((length l.table ≡ length l.initial.table) × Every Byte l.table)
    × ((rest : List Record → List Record) (s : List ℕ) → StayIn rest s l.from l.to → Settling rest s l.from l.initial.table l.initial.held l.initial.changed → Settling rest s l.i l.table l.held l.changed)
