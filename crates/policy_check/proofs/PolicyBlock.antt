-- The fault of a policy's block, step by step: its check, its header, and then the rule or the permissions. And what is carried
-- from block to block: whether a permission block came, and how many rules.
-- Assumes nothing.
use Prim.Native.Nat.{ℕ, ◌+◌, ◌-◌, ◌*◌}
use mathlib.Core.Path.{◌≡◌, refl, sym, ◌∙◌}
use mathlib.Core.Bool.{Bool, true, false, cond, ◌||◌}
use mathlib.Core.List.{List}
use mathlib.Core.Option.{some}
use native.Mathlib.Numerals.{add-one}
use native.Mathlib.Omega.{arith}
use lib.ListN.{take, drop}
use lib.Dec.{eqb}
use borrow.Author.Tests.{eq-eqb, ne_eqb}
use Rattle.words.specs.Lists.{any_below, sum_below}
use Rattle.word_laws.proofs.First.{test-passes, test-fails}
use Rattle.format.specs.Answer.{refusal}
use Rattle.format.specs.Layout.{permission_kind}
use Rattle.format.specs.Block.{block, blocks, kind, good_check}
use Rattle.format.specs.Rule.{rule_fault}
use Rattle.format.specs.Policy.{permission_fault, good_policy_header, policy_block_fault}
use Rattle.policy_check.specs.Parts.{permission_before, rules_before, good_header, block_fault}

module _ (k n : ℕ) (seen : Bool) (b : List ℕ) where
  past-header : good_check b ≡ true → good_header k n seen b ≡ true → block_fault k n seen b ≡ cond (eqb (kind b) 1) (rule_fault k b) (permission_fault k b)
  unfolding block_fault
  past-header c h = test-passes _ _ c ∙ test-passes _ _ h

  pub bad-check : good_check b ≡ false → some (refusal 2 k 0) ≡ block_fault k n seen b
  unfolding block_fault
  bad-check c = sym (test-fails _ _ c)

  pub bad-header : good_check b ≡ true → good_header k n seen b ≡ false → some (refusal 3 k 0) ≡ block_fault k n seen b
  unfolding block_fault
  bad-header c h = sym (test-passes _ _ c ∙ test-fails _ _ h)

  pub rule-block : good_check b ≡ true → good_header k n seen b ≡ true → kind b ≡ 1 → rule_fault k b ≡ block_fault k n seen b
  rule-block c h e = sym (past-header c h ∙ rw (eq-eqb (kind b) 1 e))

  pub permission-block : good_check b ≡ true → good_header k n seen b ≡ true → (kind b ≡ 1 → ⊥) → permission_fault k b ≡ block_fault k n seen b
  permission-block c h e = sym (past-header c h ∙ rw (ne_eqb (kind b) 1 e))

module _ (s : List ℕ) (k : ℕ) where
  -- block k, as a part that ends 512 bytes on
  pub block-part : take (512 * k + 512 - 512 * k) (drop (512 * k) s) ≡ block s k
  block-part = let e : 512 * k + 512 - 512 * k ≡ 512 = omega arith in rw e

  -- the fault of block k of an image
  pub fault-of-block : block_fault k (blocks s) (permission_before s k) (block s k) ≡ policy_block_fault s k
  unfolding policy_block_fault good_policy_header block_fault good_header
  fault-of-block = refl

  -- what the next block has before it
  pub permission-more : permission_before s k || eqb (kind (block s k)) permission_kind ≡ permission_before s (k + 1)
  unfolding any_below
  permission-more = rw (add-one k)

  -- one rule more, or none
  pub rule-more : kind (block s k) ≡ 1 → rules_before s k + 1 ≡ rules_before s (k + 1)
  unfolding sum_below
  rule-more e = rw (add-one k, eq-eqb (kind (block s k)) 1 e)

  pub rule-none : (kind (block s k) ≡ 1 → ⊥) → rules_before s k ≡ rules_before s (k + 1)
  unfolding sum_below
  rule-none e = rw (add-one k, ne_eqb (kind (block s k)) 1 e) (omega arith)
