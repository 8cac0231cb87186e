use Prim.Native.Nat.{◌+◌}
use mathlib.Core.Bool.{not}
use native.Mathlib.Omega.{arith}
use mathlib.Core.Path.{◌≡◌, ap, ◌∙◌}
use lib.ListN.{length, drop, length-drop}
use Rattle.std.specs.Prelude.{unwrap_or}
use Rattle.std.proofs.Common.{rules, tests}
use Rattle.std.proofs.lemmas.Iterator.{YieldsList-from_slice}
use Rattle.std.proofs.lemmas.Iterator.Search.{position_from_yields_List}
use Rattle.forms.specs.Form.{is_of}
use Rattle.forms.specs.Code.{kind_of}
use Rattle.forms.specs.Run.{run}
use Rattle.reader.proofs.Counts.{run-found, behind_all}
use Rattle.reader.proofs.run.end_of.Goals.{After-position}
use Rattle.reader.proofs.run.end_of.Goals as goal

-- what the call of `position` says
found : (c : After-position) → let u = drop c.args.at c.args.text.now in unwrap_or c.position.result (length u) ≡ run (kind_of c.args.kind) u
found c =
    let q = kind_of c.args.kind in
    let u = drop c.args.at c.args.text.now in
    run-found q u c.position.result
    (position_from_yields_List (λ b. not (is_of q b)) _ _ c.position.result c.position.ensures.ran
    (YieldsList-from_slice u (c.iter.ensures.rest ∙ behind_all c.args.text.now c.args.at)) (λ x b r k. search (rules, tests)))

pub returns-in-Some : goal.returns-in-Some
returns-in-Some c = ap (λ n. c.args.at + n) (rw c.in-Some.is at (found (goal.at.returns-in-Some c).After-position))

pub returns-in-None : goal.returns-in-None
returns-in-None c = omega (arith, rw c.in-None.is at (found (goal.at.returns-in-None c).After-position), length-drop c.args.at c.args.text.now)
