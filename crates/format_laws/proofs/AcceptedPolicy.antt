-- What acceptance says of a policy's rules: the rule blocks come first and stand in the image, and each rule keeps document 01's limits.
-- Assumes nothing.
use Prim.Native.Nat.{ℕ, zero, suc, ◌+◌, ◌*◌, ◌<◌, ◌≤◌}
use mathlib.Core.Path.{◌≡◌, refl}
use mathlib.Core.Bool.{Bool, true, false, cond, not, ◌&&◌, ◌||◌}
use mathlib.Core.List.{List}
use mathlib.Core.Option.{none}
use native.Mathlib.Decide.{dec_lt}
use native.Mathlib.Omega.{arith}
use borrow.Author.Tests.{eqb-true, leb-true, ltb-true, not-true, lt-ltb}
use lib.Dec.{eqb, ltb, leb}
use lib.ListN.{length}
use Rattle.words.specs.Lists.{all_below, any_below, sum_below}
use Rattle.words.specs.Bytes.{byte_at}
use Rattle.word_laws.proofs.First.{none_first, none-second, passes-unless, none-at}
use Rattle.word_laws.proofs.Below.{sum-most}
use Rattle.word_laws.proofs.Tests.{both_first, both-second, any_below-at}
use Rattle.format.specs.Layout.{block_bytes, policy_blocks, rule_kind, permission_kind, most_rules}
use Rattle.format.specs.Block.{blocks, block, kind, number, total}
use Rattle.format.specs.Rule.{Rule, Exclusion, rule_at, good_level, blank_level, good_steps, good_rule, good_roles, good_privileges, blank_privilege, good_exclusion, good_rule_bytes, good_exclusion_at, rule_fault}
use Rattle.format.specs.Policy.{policy_fault, policy_block_fault, good_policy_header, rule_count}
use Rattle.format_laws.proofs.Accepted.{Blocked, blocked}

-- ---- what comes first stands at the front

-- each of the first n is of one kind, f, or of the other, g, and none of kind f stands behind one of kind g: then those of kind f are the first
front :
    (f g : ℕ → Bool) (n : ℕ) → ((k : ℕ) → k < n → g k ≡ false → f k ≡ true) → ((k : ℕ) → k < n → f k ≡ true → any_below k g ≡ false)
    → (i : ℕ) → i < sum_below n (λ k. cond (f k) 1 0) → f i ≡ true
unfolding sum_below
front f g zero some order i h = absurd (omega arith)
front f g (suc n) some order i h = go (f n) refl h (front f g n (λ k j. some k (omega arith)) (λ k j. order k (omega arith)) i)
  where
    go :
        (b : Bool) → f n ≡ b → i < sum_below n (λ k. cond (f k) 1 0) + cond b 1 0
        → (i < sum_below n (λ k. cond (f k) 1 0) → f i ≡ true) → f i ≡ true
    go false e j ih = ih (omega arith)
    go true e j ih = here (dec_lt i n)
      where
        here : Dec (i < n) → f i ≡ true
        here (yes l) = some i (omega arith) (any_below-at n i g (order n (omega arith) e) l)
        here (no l) = let s : i ≡ n = omega (arith, sum-most n f) in rw s e

-- ---- the blocks of an accepted policy

module _ (s : List ℕ) (accepted : policy_fault s ≡ none) where
  pub block-accepted : (k : ℕ) → k < blocks s → policy_block_fault s k ≡ none
  unfolding policy_fault
  block-accepted k h = none-at (policy_block_fault s) 0 (blocks s) k (none-second _ _ accepted) (omega arith) (omega arith)

  pub header-accepted : (k : ℕ) → k < blocks s → good_policy_header s k ≡ true
  unfolding policy_block_fault
  header-accepted k h = passes-unless _ _ (none_first _ _ (none-second _ _ (block-accepted k h)))

  is_rule : ℕ → Bool
  is_rule k = eqb (kind (block s k)) rule_kind

  is_permission : ℕ → Bool
  is_permission k = eqb (kind (block s k)) permission_kind

  kind-accepted : (k : ℕ) → k < blocks s → is_permission k || (is_rule k && ltb k most_rules && not (any_below k is_permission)) ≡ true
  unfolding good_policy_header is_rule is_permission
  kind-accepted k h =
      both-second (eqb (number (block s k)) k && eqb (total (block s k)) (blocks s))
      (is_permission k || (is_rule k && ltb k most_rules && not (any_below k is_permission))) (header-accepted k h)

  -- a block is a permission block or a rule block, and a rule block stands behind no permission block
  kinds : (k : ℕ) → k < blocks s → is_permission k ≡ false → is_rule k ≡ true
  kinds k h e = go (is_permission k) e (is_rule k) (ltb k most_rules) (not (any_below k is_permission)) (kind-accepted k h)
    where
      go : (p : Bool) → p ≡ false → (r a b : Bool) → p || (r && a && b) ≡ true → r ≡ true
      go true e r a b t = cc
      go false e r a b t = both_first r a (both_first (r && a) b t)

  order : (k : ℕ) → k < blocks s → is_rule k ≡ true → any_below k is_permission ≡ false
  unfolding is_rule is_permission
  order k h e = go (kind (block s k)) (eqb-true (kind (block s k)) rule_kind e) (any_below k is_permission) (ltb k most_rules) (kind-accepted k h)
    where
      go : (n : ℕ) → n ≡ rule_kind → (a b : Bool) → eqb n permission_kind || (eqb n rule_kind && b && not a) ≡ true → a ≡ false
      go n m a b u = not-true a (both-second b (not a) (rw m at u))

  -- the blocks of the rules are rule blocks
  pub rule-block : (i : ℕ) → i < rule_count s → eqb (kind (block s i)) rule_kind ≡ true
  unfolding rule_count is_rule
  rule-block i h = front is_rule is_permission (blocks s) kinds order i h

  pub rules-few : rule_count s ≤ blocks s
  unfolding rule_count
  rules-few = sum-most (blocks s) (λ k. eqb (kind (block s k)) rule_kind)

  -- "0 to 32 rule blocks"
  rule-below : (i : ℕ) → i < rule_count s → i < most_rules
  unfolding is_rule is_permission
  rule-below i h =
      ltb-true i most_rules
      (go (kind (block s i)) (eqb-true (kind (block s i)) rule_kind (rule-block i h)) (ltb i most_rules) (not (any_below i is_permission)) (kind-accepted i (omega (arith, rules-few))))
    where
      go : (n : ℕ) → n ≡ rule_kind → (a b : Bool) → eqb n permission_kind || (eqb n rule_kind && a && b) ≡ true → a ≡ true
      go n m a b t = both_first a b (rw m at t)

  pub rules-most : rule_count s ≤ most_rules
  rules-most = go (dec_lt most_rules (rule_count s))
    where
      go : Dec (most_rules < rule_count s) → rule_count s ≤ most_rules
      go (yes h) = absurd (omega (arith, rule-below most_rules h))
      go (no h) = omega arith

  -- where a rule's block stands
  pub policy-blocked : Blocked policy_blocks s
  unfolding policy_fault
  policy-blocked = blocked policy_blocks s (passes-unless _ _ (none_first _ _ accepted))

  pub rule-inside : (i : ℕ) → i < rule_count s → block_bytes * i + block_bytes ≤ length s
  rule-inside i h = omega (arith, rules-few, policy-blocked.whole-blocks)

  pub rule-accepted : (i : ℕ) → i < rule_count s → rule_fault i (block s i) ≡ none
  unfolding policy_block_fault
  rule-accepted i h =
      rw (rule-block i h) at (none-second _ _ (none-second _ _ (block-accepted i (omega (arith, rules-few)))))

  -- each rule keeps the limits of a rule, and each of its exclusions those of an exclusion
  pub rule-good : (i : ℕ) → i < rule_count s → good_rule (rule_at (block s i)) ≡ true
  unfolding rule_fault good_rule_bytes
  rule-good i h = both_first _ _ (both_first _ _ (passes-unless _ _ (none_first _ _ (rule-accepted i h))))

  -- a rule's depth, by its byte
  pub depth-few : (i : ℕ) → i < rule_count s → byte_at (block s i) 8 ≤ 4
  unfolding good_rule rule_at
  depth-few i h = leb-true (byte_at (block s i) 8) 4 (both_first _ _ (both_first _ _ (both_first _ _ (both_first _ _ (rule-good i h)))))

  pub exclusions-few : (i : ℕ) → i < rule_count s → (rule_at (block s i)).exclusions ≤ 8
  unfolding good_rule
  exclusions-few i h = leb-true (rule_at (block s i)).exclusions 8 (go (leb r.depth 4) (leb 1 r.exclusions) (leb r.exclusions 8) levels (good_steps r.first_step r.last_step) (rule-good i h))
    where
      r : Rule
      r = rule_at (block s i)

      levels : Bool
      levels = all_below 4 (λ j. cond (ltb j r.depth) (good_level (r.level j)) (blank_level (r.level j)))

      go : (a b c d e : Bool) → a && b && c && d && e ≡ true → c ≡ true
      go a b c d e t = both-second (a && b) c (both_first (a && b && c) d (both_first (a && b && c && d) e t))

  -- at each of the eight places: past a rule's number an exclusion is zero
  pub exclusion-place : (i : ℕ) → i < rule_count s → (e : ℕ) → e < 8 → good_exclusion_at (rule_at (block s i)) e ≡ true
  unfolding rule_fault
  exclusion-place i h e k = passes-unless _ _ (none-at _ 0 8 e (none-second _ _ (rule-accepted i h)) (omega arith) (omega arith))

  pub exclusion-good : (i : ℕ) → i < rule_count s → (e : ℕ) → e < (rule_at (block s i)).exclusions → good_exclusion ((rule_at (block s i)).exclusion e) ≡ true
  unfolding good_exclusion_at
  exclusion-good i h e k =
      rw (lt-ltb e (rule_at (block s i)).exclusions k) at (exclusion-place i h e (omega (arith, exclusions-few i h)))

  -- so m is at least 2
  pub m-two : (i : ℕ) → i < rule_count s → (e : ℕ) → e < (rule_at (block s i)).exclusions → 2 ≤ ((rule_at (block s i)).exclusion e).m
  unfolding good_exclusion
  m-two i h e k = leb-true 2 ((rule_at (block s i)).exclusion e).m (go (eqb x.pad 0) (leb 2 x.m) (leb x.m x.n) (leb x.n 8) members rest (exclusion-good i h e k))
    where
      x : Exclusion
      x = (rule_at (block s i)).exclusion e

      members : Bool
      members = (eqb x.kind 1 && good_roles x) || (eqb x.kind 2 && good_privileges x)

      rest : Bool
      rest = all_below 8 (λ j. ltb j x.n || blank_privilege (x.member j))

      go : (a b c d f g : Bool) → a && b && c && d && f && g ≡ true → b ≡ true
      go a b c d f g t = both-second a b (both_first (a && b) c (both_first (a && b && c) d (both_first (a && b && c && d) f (both_first (a && b && c && d && f) g t))))
