use native.Mathlib.Omega.{arith}
use mathlib.Core.Path.{sym, ◌∙◌}
use Rattle.forms.specs.Form.{ascii}
use Rattle.format.specs.Rule.{exclusion_at}
use Rattle.text_write.specs.Lost.{exclusion_lost}
use Rattle.text_write.specs.Pieces.{members_lost}
use Rattle.text_write.proofs.Texts.{exclusion-words, members-alike, lost-alike}
use Rattle.text_write.proofs.Laying.{and_then, told}
use Rattle.text_write.proofs.exclusion.put_exclusion.Goals as goal

pub returns : goal.returns
unfolding exclusion_lost members_lost ascii
returns c =
    let a = c.args in
    let x = rw c.from-n.ensures at c.put_members-members.ensures in
    let l = a.names.now.list.now in
    let e = exclusion_at a.b.now a.e in
    let same = c.kind_of-kind.ensures in
    record {
      lays =
          told (and_then (and_then c.put_opening-first.ensures x.lays) c.put.ensures)
          (rw (c.by_kind.ensures.0, same, members-alike l _ _ e.member e.n same) (sym (exclusion-words l e))) (omega arith);
      named = x.named ∙ rw (lost-alike l _ _ e.member e.n same);
    }
