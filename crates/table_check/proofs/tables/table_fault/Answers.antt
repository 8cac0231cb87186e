use Prim.Native.Nat.{ℕ, ◌*◌, ◌≤◌}
use native.Mathlib.Omega.{arith}
use mathlib.Core.Path.{◌≡◌, sym, ◌∙◌}
use mathlib.Core.Bool.{true}
use lib.ListN.{length}
use Rattle.word_laws.proofs.First.{test-fails, test-passes}
use Rattle.word_laws.proofs.Tests.{all_below-at}
use Rattle.format.specs.Answer.{refusal}
use Rattle.format.specs.Layout.{block_bytes, table_blocks}
use Rattle.format.specs.Block.{good_length}
use Rattle.format.specs.Policy.{policy_of}
use Rattle.format.specs.Table.{table_length_fault, table_fault}
use Rattle.format_laws.proofs.Accepted.{blocked}
use Rattle.rule_tests.specs.Shapes.{plain}
use Rattle.table_check.proofs.tables.table_fault.Goals.{Else-not-good_length}
use Rattle.table_check.proofs.tables.table_fault.Goals as goal

sized : (c : Else-not-good_length) → good_length table_blocks c.args.table.now ≡ true
sized c = sym c.good_length.ensures ∙ c.if-not-good_length.false

short : (c : Else-not-good_length) → length c.args.table.now ≤ block_bytes * table_blocks
short c = let b = blocked table_blocks c.args.table.now (sized c) in omega (arith, b.whole-blocks, b.not-over)

pub returns-then-not-good_length : goal.returns-then-not-good_length
unfolding table_fault table_length_fault
returns-then-not-good_length c = sym (test-fails (refusal 11 0 0) _ (sym c.good_length.ensures ∙ c.if-not-good_length.true))

pub ranged_fault-requires : goal.ranged_fault-requires
ranged_fault-requires c = short (goal.at.ranged_fault-requires c).Else-not-good_length

pub returns-then-not-are_plain : goal.returns-then-not-are_plain
unfolding table_fault table_length_fault
returns-then-not-are_plain c =
    (rw c.requires at c.ranged_fault.ensures) ∙ sym (test-passes (refusal 11 0 0) _ (sized (goal.at.returns-then-not-are_plain c).Else-not-good_length))

pub invariant_of-tests : goal.invariant_of-tests
invariant_of-tests c =
    let policy = c.args.policy.now in
    let all = sym c.are_plain.ensures ∙ c.if-not-are_plain.false in
    record { made = ∣ (c.shapes_of.ensures, λ i h. all_below-at policy.rules i (λ (j : ℕ). plain ((policy_of policy.image.now).rule j)) all h) ∣₁ }

pub blocks_fault-requires : goal.blocks_fault-requires
blocks_fault-requires c = short (goal.at.blocks_fault-requires c).Else-not-good_length

pub returns : goal.returns
unfolding table_fault table_length_fault
returns c = (rw c.requires at c.blocks_fault.ensures) ∙ sym (test-passes (refusal 11 0 0) _ (sized (goal.at.returns c).Else-not-good_length))
