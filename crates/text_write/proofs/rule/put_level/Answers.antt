use native.Mathlib.Omega.{arith}
use mathlib.Core.Path.{refl}
use Rattle.forms.specs.Form.{ascii}
use Rattle.xml.specs.Write.{level_text}
use Rattle.text_write.specs.Lost.{level_lost}
use Rattle.text_write.proofs.Laying.{and_then, told, refused-both}
use Rattle.text_write.proofs.rule.put_level.Goals as goal

pub returns : goal.returns
unfolding ascii level_text level_lost
returns c =
    let name = rw (c.u16_at-kind.ensures.0, c.code.ensures) at c.put_name-name.ensures.puts in
    let value = c.put_value-value.ensures in
    record {
      lays = told (and_then c.put_comma-first.ensures (and_then (and_then name.lays c.put-third.ensures) value.lays)) refl (omega arith);
      named = refused-both _ _ name.named value.named c.and.ensures;
    }
