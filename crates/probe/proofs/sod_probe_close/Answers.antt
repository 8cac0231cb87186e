use Prim.Native.Nat.{ℕ}
use mathlib.Core.Path.{ap}
use mathlib.Core.List.{List}
use Rattle.format.specs.Answer.{Outcome}
use Rattle.probe.proofs.sod_probe_close.Goals as goal

pub returns-in-Ok : goal.returns-in-Ok
returns-in-Ok c = let e = c.in-Ok.ensures in (ap (λ (o : Outcome (List ℕ)). o.state) e.0, e.1)

pub returns-in-Err : goal.returns-in-Err
returns-in-Err c = let e = c.in-Err.ensures in (ap (λ (o : Outcome (List ℕ)). o.state) e.0, e.1)
