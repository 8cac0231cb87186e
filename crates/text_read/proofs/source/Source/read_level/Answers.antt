use Prim.Native.Nat.{ℕ}
use mathlib.Core.Path.{◌≡◌, refl, sym, ap, ◌∙◌}
use mathlib.Core.Bool.{cond}
use mathlib.Core.Option.{none}
use borrow.Author.Tests.{eq-eqb, ne_eqb}
use lib.Dec.{eqb}
use mathlib.Core.List.{List, [], ◌∷◌, ◌++◌}
use Rattle.std.specs.Result.{result_unwrap_or}
use Rattle.format.specs.Code.{text_fault_of}
use Rattle.format.specs.Rule.{Level}
use Rattle.fields.specs.Code.{mark_code}
use Rattle.xml.specs.Names.{type_names, value_names, number_of}
use Rattle.xml.specs.Tags.{parted}
use Rattle.xml.specs.Read.{or_zero, listed, is_every, is_each, level_fault}
use Rattle.tags.specs.Code.{value_at}
use Rattle.drafts.specs.Draft.{draft_block}
use Rattle.text_read.specs.Levels.{mark_of}
use Rattle.text_read.proofs.LookLaws.{looked-or-zero, both-looked}
use Rattle.text_read.proofs.LevelPieces.{type-text, value-text}
use Rattle.text_read.proofs.LevelMarks.{level-made, name-fault, no-name-fault, other-code}
use Rattle.text_read.proofs.source.Source.read_level.Goals.{After-put_level, in-Fixed, in_default}
use Rattle.text_read.proofs.source.Source.read_level.Goals as goal

-- the value's name is looked up where it is one
number-fault :
    (c : After-put_level) → let v = value_at c.args.self.now.text.now c.next-value.result in
    text_fault_of c.match-mark.number ≡ cond (is_every v) none (cond (is_each v) none (listed (number_of c.args.self.now.names.list.now value_names v)))
number-fault c =
    let v = value_at c.args.self.now.text.now c.next-value.result in
    elim c.match-mark.branch [
      | in-Fixed w ↦
          ap text_fault_of w.number-is ∙ w.number_in-number.ensures.fault ∙ sym (name-fault v _ (sym c.mark_of-mark.ensures ∙ ap mark_code w.in-Fixed.is))
      | in_default w ↦
          ap text_fault_of w.number-is ∙ sym (no-name-fault v _ (λ e. other-code c.mark_of-mark.result w.in_default.not-Fixed (c.mark_of-mark.ensures ∙ e)))
    ]

number_is :
    (c : After-put_level)
    → result_unwrap_or c.match-mark.number 0
    ≡ cond (eqb (mark_code c.mark_of-mark.result) 1) (or_zero (number_of c.args.self.now.names.list.now value_names (value_at c.args.self.now.text.now c.next-value.result))) 0
number_is c =
    let m = c.mark_of-mark.result in
    elim c.match-mark.branch [
      | in-Fixed w ↦
          ap (λ r. result_unwrap_or r 0) w.number-is
          ∙ looked-or-zero w.number_in-number.result _ w.number_in-number.ensures.fault w.number_in-number.ensures.number
          ∙ rw (eq-eqb (mark_code m) 1 (ap mark_code w.in-Fixed.is)) refl
      | in_default w ↦
          ap (λ r. result_unwrap_or r 0) w.number-is ∙ rw (ne_eqb (mark_code m) 1 (other-code m w.in_default.not-Fixed)) refl
    ]

pub returns-clause-fault : goal.returns-clause-fault
unfolding level_fault
returns-clause-fault c =
    let a = c.args in
    let t = a.self.now.text.now in
    let v = c.next-value.result in
    let type = type-text t a.s c.requires.1 c.until-sign.result c.until-sign.ensures.0 in
    let value = value-text t a.s c.requires.1 c.until-sign.result c.until-sign.ensures.0 v c.next-value.ensures in
    rw (← type, ← value, ← c.number_in-kind.ensures.fault, ← number-fault (goal.at.returns-clause-fault c).After-put_level)
    (both-looked c.number_in-kind.result c.match-mark.number c.and-named.ensures c.and.ensures)

pub returns-clause-level : goal.returns-clause-level
returns-clause-level c =
    let a = c.args in
    let t = a.self.now.text.now in
    let l = a.self.now.names.list.now in
    let v = c.next-value.result in
    let m = mark_code c.mark_of-mark.result in
    let type = type-text t a.s c.requires.1 c.until-sign.result c.until-sign.ensures.0 in
    let value = value-text t a.s c.requires.1 c.until-sign.result c.until-sign.ensures.0 v c.next-value.ensures in
    let kind =
    c.unwrap_or.ensures
    ∙ looked-or-zero c.number_in-kind.result _ c.number_in-kind.ensures.fault c.number_in-kind.ensures.number
    ∙ ap (λ (w : List ℕ). or_zero (number_of l type_names w)) type in
    let mark = c.mark_of-mark.ensures ∙ ap (λ (w : List ℕ). mark_of w) value in
    let number =
    c.unwrap_or-2.ensures
    ∙ number_is (goal.at.returns-clause-level c).After-put_level ∙ ap (λ (w : List ℕ). cond (eqb m 1) (or_zero (number_of l value_names w)) 0) value in
    λ ls dr n e.
    c.put_level.ensures ls dr n e
    ∙ ap (λ (x : Level). draft_block (ls ++ x ∷ []) dr)
    (level-made l (parted 61 (value_at t a.s)) c.unwrap_or.result m c.unwrap_or-2.result kind mark number)
