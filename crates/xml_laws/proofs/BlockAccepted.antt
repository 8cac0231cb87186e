-- What acceptance says of each block of a policy: its check, its number, its total, its kind by where it stands, and what it is as that kind.
-- Assumes nothing.
use Prim.Native.Nat.{ℕ, ◌*◌, ◌<◌, ◌≤◌}
use native.Mathlib.Omega.{arith}
use mathlib.Core.Path.{◌≡◌, refl}
use mathlib.Core.Bool.{Bool, true, false, not, ◌&&◌, ◌||◌}
use mathlib.Core.List.{List}
use mathlib.Core.Option.{none}
use borrow.Author.Tests.{eqb-true, not-true}
use lib.Dec.{eqb, ltb}
use lib.ListN.{length, drop, length-drop}
use lib.Seq.{length-take-le}
use Rattle.words.specs.Lists.{any_below}
use Rattle.words.specs.Bytes.{zero_from}
use Rattle.word_laws.proofs.First.{none_first, none-second, passes-unless}
use Rattle.word_laws.proofs.Tests.{both_first, both-second, any_below-at}
use Rattle.format.specs.Layout.{block_bytes, most_rules, rule_kind, permission_kind, rule_spare_at, rule_spare_bytes, rule_tail_at, rule_tail_bytes}
use Rattle.format.specs.Block.{blocks, block, kind, number, total, good_check}
use Rattle.format.specs.Rule.{rule_at, good_rule, good_rule_bytes, rule_fault}
use Rattle.format.specs.Policy.{policy_fault, policy_block_fault, permission_fault, good_policy_header, rule_count}
use Rattle.format_laws.proofs.AcceptedPolicy.{block-accepted, header-accepted, rule-accepted, policy-blocked}
use Rattle.xml_laws.proofs.BlockCount.{none-behind}

-- three tests that pass
pub three : (a b c : Bool) → a && b && c ≡ true → (a ≡ true) × (b ≡ true) × (c ≡ true)
three a b c t =
    let f = both_first (a && b) c t in
    (both_first a b f, both-second a b f, both-second (a && b) c t)

module _ (s : List ℕ) (accepted : policy_fault s ≡ none) where
  -- each block is whole
  pub block-sized : (k : ℕ) → k < blocks s → length (block s k) ≡ block_bytes
  block-sized k h = length-take-le block_bytes (drop (block_bytes * k) s) (rw length-drop (omega (arith, (policy-blocked s accepted).whole-blocks)))

  -- each block passes its check
  pub check-is : (k : ℕ) → k < blocks s → good_check (block s k) ≡ true
  unfolding policy_block_fault
  check-is k h = passes-unless _ _ (none_first _ _ (block-accepted s accepted k h))

  -- what the test of a block's kind says, by where it stands
  good_kind : ℕ → Bool
  good_kind k =
      eqb (kind (block s k)) permission_kind
      || (eqb (kind (block s k)) rule_kind && ltb k most_rules && not (any_below k (λ j. eqb (kind (block s j)) permission_kind)))

  header-said : (k : ℕ) → k < blocks s → (eqb (number (block s k)) k ≡ true) × (eqb (total (block s k)) (blocks s) ≡ true) × (good_kind k ≡ true)
  unfolding good_policy_header good_kind
  header-said k h = three (eqb (number (block s k)) k) (eqb (total (block s k)) (blocks s)) (good_kind k) (header-accepted s accepted k h)

  -- each block has its own number and the number of all
  pub number_is : (k : ℕ) → k < blocks s → number (block s k) ≡ k
  number_is k h = eqb-true (number (block s k)) k (header-said k h).0

  pub total-is : (k : ℕ) → k < blocks s → total (block s k) ≡ blocks s
  total-is k h = eqb-true (total (block s k)) (blocks s) (header-said k h).1

  -- a block that is no rule block is a permission block
  other-kind : (k : ℕ) → k < blocks s → eqb (kind (block s k)) rule_kind ≡ false → kind (block s k) ≡ permission_kind
  unfolding good_kind
  other-kind k h no-rule =
      eqb-true (kind (block s k)) permission_kind
      (go (eqb (kind (block s k)) permission_kind) (eqb (kind (block s k)) rule_kind) (ltb k most_rules) _ no-rule (header-said k h).2)
    where
      go : (p r a b : Bool) → r ≡ false → p || (r && a && b) ≡ true → p ≡ true
      go true r a b e t = refl
      go false true a b e t = cc
      go false false a b e t = t

  -- and one that is not a permission block is a rule block
  no-permission : (k : ℕ) → k < blocks s → eqb (kind (block s k)) permission_kind ≡ false → eqb (kind (block s k)) rule_kind ≡ true
  unfolding good_kind
  no-permission k h other = go (eqb (kind (block s k)) permission_kind) (eqb (kind (block s k)) rule_kind) (ltb k most_rules) _ other (header-said k h).2
    where
      go : (p r a b : Bool) → p ≡ false → p || (r && a && b) ≡ true → r ≡ true
      go true r a b e t = cc
      go false r a b e t = both_first r a (both_first (r && a) b t)

  -- a rule block stands behind rule blocks alone
  rules-first : (k : ℕ) → k < blocks s → eqb (kind (block s k)) rule_kind ≡ true → (j : ℕ) → j < k → eqb (kind (block s j)) rule_kind ≡ true
  unfolding good_kind
  rules-first k h rule j lt =
      no-permission j (omega arith)
      (any_below-at k j (λ i. eqb (kind (block s i)) permission_kind)
      (go (kind (block s k)) (eqb-true (kind (block s k)) rule_kind rule) (ltb k most_rules) _ (header-said k h).2) lt)
    where
      go : (n : ℕ) → n ≡ rule_kind → (a b : Bool) → eqb n permission_kind || (eqb n rule_kind && a && not b) ≡ true → b ≡ false
      go n m a b u = not-true b (both-second a (not b) (rw m at u))

  -- from the number of the rules on, the blocks are permission blocks
  pub permission-from : (k : ℕ) → rule_count s ≤ k → k < blocks s → kind (block s k) ≡ permission_kind
  unfolding rule_count
  permission-from k lo hi = other-kind k hi (none-behind (λ j. eqb (kind (block s j)) rule_kind) (blocks s) rules-first k lo hi)

  -- and have no fault as such
  pub permission-accepted : (k : ℕ) → rule_count s ≤ k → k < blocks s → permission_fault k (block s k) ≡ none
  unfolding policy_block_fault
  permission-accepted k lo hi = rw (permission-from k lo hi) at (none-second _ _ (none-second _ _ (block-accepted s accepted k hi)))

  -- the bytes of a rule block that are not named are zero
  rule-bytes : (k : ℕ) → k < rule_count s
      → (good_rule (rule_at (block s k)) ≡ true)
      × (zero_from (block s k) rule_spare_at rule_spare_bytes ≡ true)
      × (zero_from (block s k) rule_tail_at rule_tail_bytes ≡ true)
  unfolding rule_fault good_rule_bytes
  rule-bytes k h =
      three (good_rule (rule_at (block s k))) (zero_from (block s k) rule_spare_at rule_spare_bytes) (zero_from (block s k) rule_tail_at rule_tail_bytes)
      (passes-unless _ _ (none_first _ _ (rule-accepted s accepted k h)))

  pub spare-zero : (k : ℕ) → k < rule_count s → zero_from (block s k) rule_spare_at rule_spare_bytes ≡ true
  spare-zero k h = (rule-bytes k h).1

  pub tail-zero : (k : ℕ) → k < rule_count s → zero_from (block s k) rule_tail_at rule_tail_bytes ≡ true
  tail-zero k h = (rule-bytes k h).2
