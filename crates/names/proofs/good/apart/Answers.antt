use Prim.Native.Nat.{◌+◌, ◌*◌}
use native.Mathlib.Omega.{arith}
use native.Mathlib.Omega.{arith}
use mathlib.Core.Path.{◌≡◌, sym, ap, ◌∙◌}
use mathlib.Core.Bool.{not}
use Rattle.words.specs.Lists.{same_list}
use Rattle.words.specs.Bytes.{part}
use Rattle.xml.specs.Names.{Name, length_of, name_in, apart}
use Rattle.word_laws.proofs.Parts.{part-to, part_length}
use Rattle.names.proofs.Apart.{other-kinds, same_numbers, by-texts}
use Rattle.names.proofs.SameParts.{other_length}
use Rattle.names.proofs.good.apart.Goals.{Else-u16_at}
use Rattle.names.proofs.good.apart.Goals as goal

abbrev names_of : (c : Else-u16_at) → Name × Name
names_of c = let a = c.args in (name_in a.list.now a.j, name_in a.list.now a.i)

-- of one kind with two numbers, the bytes of their names decide
texts-decide : (c : Else-u16_at) → apart (names_of c).0 (names_of c).1 ≡ not (same_list (names_of c).0.bytes (names_of c).1.bytes)
unfolding name_in
texts-decide c =
    by-texts (names_of c).0 (names_of c).1 c.if-list-x.false
    (λ e. c.if-u16_at.false (c.u16_at.ensures.0 ∙ e ∙ sym c.u16_at-2.ensures.0))

pub returns-then-list-x : goal.returns-then-list-x
unfolding name_in
returns-then-list-x c = sym (other-kinds _ _ c.if-list-x.true)

pub returns-then-u16_at : goal.returns-then-u16_at
unfolding name_in
returns-then-u16_at c =
    sym
    (same_numbers _ _ c.if-list-x.false
    (sym c.u16_at.ensures.0 ∙ c.if-u16_at.true ∙ c.u16_at-2.ensures.0))

pub returns-then-n-from : goal.returns-then-n-from
unfolding name_in
returns-then-n-from c =
    let a = c.args in
    let l = a.list.now in
    let x = part_length l (64 * a.j + 4) (length_of l a.j) (omega arith) in
    let y = part_length l (64 * a.i + 4) (length_of l a.i) (omega arith) in
    let e = other_length (part l (64 * a.j + 4) (length_of l a.j)) (part l (64 * a.i + 4) (length_of l a.i)) (λ m. c.if-n-from.true (omega arith)) in
    sym (texts-decide (goal.at.returns-then-n-from c).Else-u16_at ∙ rw e)

pub returns : goal.returns
unfolding name_in
returns c =
    let a = c.args in
    let l = a.list.now in
    let n : c.from-n.result ≡ length_of l a.j = omega arith in
    let m : c.from-n.result ≡ length_of l a.i = omega arith in
    let e = rw (part-to l (64 * a.j + 4) c.from-n.result, part-to l (64 * a.i + 4) c.from-n.result) at c.same_bytes.ensures in
    sym (texts-decide (goal.at.returns c).Else-u16_at ∙ rw (← n, ← m) (ap not (sym e)))
