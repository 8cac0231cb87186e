use native.Mathlib.Omega.{arith}
use mathlib.Core.Path.{◌≡◌, sym, ◌∙◌}
use lib.ListN.{get_or}
use Rattle.std.proofs.Common.{rules}
use Rattle.reader.proofs.Contexts.{value-sign, value-named}
use Rattle.reader.proofs.context.level_value.Goals.{in_default-via-in-Some+in_default, in_default-via-in_default}
use Rattle.reader.proofs.context.level_value.Goals as goal

pub returns-in-Some-eq42 : goal.returns-in-Some-eq42
returns-in-Some-eq42 c =
    let byte : c.in-Some-eq42.field-0.now ≡ get_or c.args.text.now c.args.at 0 = search rules in
    value-sign (search rules) (λ h. sym byte ∙ grind arith)

pub returns-in_default : goal.returns-in_default
returns-in_default c = value-named c.requires
    (λ l. elim c.in_default.branch [
      | in_default-via-in-Some+in_default w ↦
          let byte : w.in_default.field-0.now ≡ get_or c.args.text.now c.args.at 0 = search rules in
          ((λ e. grind arith), (λ e. grind arith))
      | in_default-via-in_default w ↦ absurd (grind arith)
    ])
    c.some_end.ensures
