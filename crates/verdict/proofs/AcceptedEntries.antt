-- What acceptance says of a policy's blocks: the entries of a permission block, and the exclusions of a rule.
-- Assumes nothing.
use Prim.Native.Nat.{ℕ, ◌*◌, ◌≤◌, ◌<◌}
use native.Mathlib.Omega.{arith}
use mathlib.Core.Path.{◌≡◌, sym, ap, ◌∙◌}
use mathlib.Core.Bool.{true, cond, ◌&&◌}
use mathlib.Core.List.{List}
use mathlib.Core.Option.{none}
use borrow.Author.Tests.{leb-true}
use lib.Dec.{eqb, leb}
use lib.ListN.{length}
use Rattle.words.specs.Bytes.{byte_at}
use Rattle.word_laws.proofs.First.{none_first, none-second, passes-unless, none-at}
use Rattle.word_laws.proofs.Tests.{both_first, both-second}
use Rattle.word_laws.proofs.Parts.{part_length}
use Rattle.format.specs.Layout.{block_bytes, rule_kind, permission_kind, highest_role, most_entries, most_exclusions, exclusions_at}
use Rattle.format.specs.Block.{blocks, block, kind}
use Rattle.format.specs.Rule.{Rule, exclusion_at, rule_at, good_rule, good_exclusion, rule_fault}
use Rattle.format.specs.Policy.{Permission, policy_fault, policy_block_fault, permission_fault, permission_at, good_permission, good_permission_bytes, entries, rule_count}
use Rattle.format_laws.proofs.AcceptedPolicy.{rule-inside, rule-good, exclusion-good}
use Rattle.verdict.specs.Code.{EntriesFit}

-- an entry's role is 1 to 32
module _ (x : Permission) (good : good_permission x ≡ true) where
  role-range : leb 1 x.role && leb x.role highest_role ≡ true
  unfolding good_permission
  role-range = both_first _ _ (both_first _ _ (both_first _ _ good))

  role-low : 1 ≤ x.role
  role-low = leb-true 1 x.role (both_first (leb 1 x.role) (leb x.role highest_role) role-range)

  role-high : x.role ≤ highest_role
  role-high = leb-true x.role highest_role (both-second (leb 1 x.role) (leb x.role highest_role) role-range)

-- the number of a rule's exclusions
rule-exclusions : (r : Rule) → good_rule r ≡ true → r.exclusions ≤ most_exclusions
unfolding good_rule
rule-exclusions r good =
    leb-true r.exclusions most_exclusions (both-second (leb r.depth 4 && leb 1 r.exclusions) _ (both_first _ _ (both_first _ _ good)))

module _ (s : List ℕ) (accepted : policy_fault s ≡ none) where
  block-passes : (k : ℕ) → k < blocks s → policy_block_fault s k ≡ none
  unfolding policy_fault
  block-passes k h = none-at (policy_block_fault s) 0 (blocks s) k (none-second _ _ accepted) (omega arith) (omega arith)

  entries-pass : (k : ℕ) → k < blocks s → kind (block s k) ≡ permission_kind → permission_fault k (block s k) ≡ none
  unfolding policy_block_fault
  entries-pass k h e =
      sym (ap (λ (n : ℕ). cond (eqb n rule_kind) (rule_fault k (block s k)) (permission_fault k (block s k))) e)
      ∙ none-second _ _ (none-second _ _ (block-passes k h))

  entry-passes : (k : ℕ) → k < blocks s → kind (block s k) ≡ permission_kind → (i : ℕ) → i < entries (block s k) → good_permission (permission_at (block s k) i) ≡ true
  unfolding permission_fault
  entry-passes k h e i l = passes-unless _ _ (none-at _ 0 (entries (block s k)) i (none-second _ _ (entries-pass k h e)) (omega arith) (omega arith))

  pub entries_fit : (k : ℕ) → k < blocks s → kind (block s k) ≡ permission_kind → EntriesFit (block s k)
  unfolding permission_fault good_permission_bytes
  entries_fit k h e =
      record {
        most = leb-true (entries (block s k)) most_entries (both_first _ _ (both_first _ _ (passes-unless _ _ (none_first _ _ (entries-pass k h e)))));
        low = λ i l. role-low (permission_at (block s k) i) (entry-passes k h e i l);
        high = λ i l. role-high (permission_at (block s k) i) (entry-passes k h e i l);
      }

  -- what the tally asks of exclusion e of rule i, whose block is b
  pub exclusion-ready :
      (b : List ℕ) (i e n : ℕ) → i < rule_count s → b ≡ block s i → n ≡ byte_at b exclusions_at → e < n
      → (length b ≡ block_bytes) × (e < most_exclusions) × (good_exclusion (exclusion_at b e) ≡ true)
  unfolding rule_at
  exclusion-ready b i e n h f g l =
      let g' = rw f at g in
      rw f (
        part_length s (512 * i) 512 (rule-inside s accepted i h),
        omega (arith, rule-exclusions (rule_at (block s i)) (rule-good s accepted i h)),
        exclusion-good s accepted i h e (omega arith),
      )
