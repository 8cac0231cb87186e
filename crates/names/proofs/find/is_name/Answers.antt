use native.Mathlib.Omega.{arith}
use Prim.Native.Nat.{◌+◌, ◌*◌}
use mathlib.Core.Path.{◌≡◌, sym, ap, ◌∙◌}
use lib.ListN.{length}
use borrow.Author.Tests.{ne_eqb}
use Rattle.words.specs.Lists.{same_list}
use Rattle.words.specs.Bytes.{u16_at}
use Rattle.word_laws.proofs.Parts.{part-to}
use Rattle.names.proofs.GoodEntries.{good-entry}
use Rattle.names.proofs.Keys.{other_key, same_key}
use Rattle.names.proofs.find.is_name.Goals.{Start}
use Rattle.names.proofs.find.is_name.Goals as goal

pub returns-then-u16_at-from : goal.returns-then-u16_at-from
returns-then-u16_at-from c =
    let a = c.args in
    let w = a.name.now in
    let good = good-entry a.list.now a.i c.requires.i_bound.1 in
    let e : u16_at a.list.now (64 * a.i) ≡ a.kind + 256 * length w = omega arith in
    c.same_bytes.ensures
    ∙ ap (λ s. same_list s w) (part-to a.list.now (64 * a.i + 4) (length w))
    ∙ sym (same_key a.list.now a.i (omega arith) good a.kind (omega arith) w e)

pub returns-else-u16_at-from : goal.returns-else-u16_at-from
returns-else-u16_at-from c =
    let a = c.args in
    let good = good-entry a.list.now a.i c.requires.i_bound.1 in
    ne_eqb _ _ c.if-u16_at-from.false
    ∙ sym (other_key a.list.now a.i (omega arith) good a.kind (omega arith) a.name.now (λ e. c.if-u16_at-from.false (omega arith)))
