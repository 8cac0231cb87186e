-- The image of proper rules and of an accepted policy's permission blocks is an accepted policy, and its rules are these.
-- Assumes nothing.
use Prim.Native.Nat.{ℕ, ◌+◌, ◌-◌, ◌≤◌, ◌<◌}
use native.Mathlib.Decide.{dec_lt}
use native.Mathlib.Omega.{arith}
use mathlib.Core.Path.{◌≡◌, refl, sym, ap, ◌∙◌}
use mathlib.Core.Bool.{Bool, true, cond, not, ◌&&◌, ◌||◌}
use mathlib.Core.List.{List, []}
use mathlib.Core.Option.{Option, none}
use lib.ListN.{length, get_or}
use lib.Dec.{eqb, ltb}
use borrow.Author.Tests.{eq-eqb, le-leb, lt-ltb, le-ltb}
use Rattle.words.specs.Lists.{any_below}
use Rattle.word_laws.proofs.Every.{Every, every-get_d}
use Rattle.word_laws.proofs.Tests.{both, any_below-false}
use Rattle.word_laws.proofs.First.{unless-passes, or_else-none, first-none}
use Rattle.format.specs.Answer.{Refusal, refusal}
use Rattle.format.specs.Layout.{check_at, rule_kind, permission_kind, policy_blocks, most_rules, most_exclusions}
use Rattle.format.specs.Block.{blocks, block, kind, number, total, good_length}
use Rattle.format.specs.Rule.{Rule, rule_at, good_rule, good_exclusion_at, rule_fault}
use Rattle.format.specs.Policy.{policy_fault, policy_block_fault, permission_fault, good_policy_header, rule_count}
use Rattle.xml.specs.Blocks.{numbered_anew, rules_image}
use Rattle.xml_laws.proofs.BlockAccepted.{block-sized, permission-accepted}
use Rattle.xml_laws.proofs.BlockAnew.{anew-check, anew-number, anew-total, anew-byte}
use Rattle.xml_laws.proofs.BlockPermission.{permission-same}
use Rattle.xml_laws.proofs.ImageFits.{Fits}
use Rattle.xml_laws.proofs.ImageAlike.{SameRule}
use Rattle.xml_laws.proofs.ImageRule.{image-rule, image-faultless}
use Rattle.xml_laws.proofs.ImageBlocks.{permissions, parts, parts-length, rule-part, each, inside, long, many, block-is}
use Rattle.xml_laws.proofs.ImageBlocks.{kind-of-rule, kind-of-permission, rule-or-not, image-blocks, image-length}

-- a rule that fits its bytes and keeps document 01's limits, its exclusions too
pub record Proper (r : Rule) : Type 0 where
  pub fits : Fits r
  pub good : good_rule r ≡ true
  pub exclusions-good : (e : ℕ) → e < most_exclusions → good_exclusion_at r e ≡ true

module _ (rs : List Rule) (second : List ℕ) (accepted : policy_fault second ≡ none) (proper : Every Proper rs) where
  N : ℕ
  N = length (parts rs second)

  proper-at : (k : ℕ) → k < length rs → Proper (get_or rs k (rule_at []))
  proper-at k h = every-get_d (rule_at []) k proper h

  -- the rule of block k is rule k
  pub image-says : (k : ℕ) → k < length rs → SameRule (rule_at (block (rules_image rs second) k)) (get_or rs k (rule_at []))
  unfolding N
  image-says k h =
      rw (block-is rs second accepted k (omega (arith, parts-length rs second accepted)), rule-part rs second accepted k h)
      (image-rule N k (get_or rs k (rule_at [])) (proper-at k h).fits)

  -- ---- the check

  -- a block's fault as the block of a rule or of permissions
  fault : ℕ → List ℕ → Option Refusal
  fault k b = cond (ltb k (length rs)) (rule_fault k b) (permission_fault k b)

  content-passes : (k : ℕ) → k < N → fault k (numbered_anew N k (get_or (parts rs second) k [])) ≡ none
  unfolding N fault
  content-passes =
      each rs second accepted (λ k b. fault k (numbered_anew N k b) ≡ none)
      (λ k h.
      rw (lt-ltb k (length rs) h)
      (image-faultless N k (get_or rs k (rule_at [])) (proper-at k h).fits (proper-at k h).good (proper-at k h).exclusions-good))
      (λ k lo hi.
      let j : ℕ = rule_count second + (k - length rs) in
      rw (le-ltb k (length rs) lo)
      (permission-same (numbered_anew N k (block second j)) (block second j)
      (anew-byte N k (block second j) (omega (arith, block-sized second accepted j (inside rs second accepted k lo hi)))) j k
      (permission-accepted second accepted j (omega arith) (inside rs second accepted k lo hi))))

  module _ (few : length rs ≤ most_rules) (some : 1 ≤ length rs + permissions second) (most : length rs + permissions second ≤ policy_blocks) where
    S : List ℕ
    S = rules_image rs second

    good_kind : ℕ → Bool
    good_kind k =
        eqb (kind (block S k)) permission_kind
        || (eqb (kind (block S k)) rule_kind && ltb k most_rules && not (any_below k (λ j. eqb (kind (block S j)) permission_kind)))

    kind-passes : (k : ℕ) → k < N → good_kind k ≡ true
    unfolding N S good_kind
    kind-passes k h = go (dec_lt k (length rs))
      where
        go : Dec (k < length rs) → good_kind k ≡ true
        go (yes l) =
            rw (
              kind-of-rule rs second accepted k l,
              lt-ltb k most_rules (omega arith),
              any_below-false k (λ j. eqb (kind (block S j)) permission_kind) (λ j i. rw (kind-of-rule rs second accepted j (omega arith))),
            )
        go (no l) = rw (kind-of-permission rs second accepted k (omega arith) h)

    header-passes : (k : ℕ) → k < N → good_policy_header S k ≡ true
    unfolding good_policy_header N S good_kind
    header-passes k h =
        let b : List ℕ = get_or (parts rs second) k [] in
        let e : block S k ≡ numbered_anew N k b = block-is rs second accepted k h in
        let l : check_at ≤ length b = long rs second accepted k h in
        let m : N < 65536 = omega (arith, parts-length rs second accepted) in
        both
        (both (eq-eqb (number (block S k)) k (ap number e ∙ anew-number N k b l (omega arith)))
        (eq-eqb (total (block S k)) (blocks S) (ap total e ∙ anew-total N k b l m ∙ sym (many rs second accepted))))
        (kind-passes k h)

    block-passes : (k : ℕ) → k < N → policy_block_fault S k ≡ none
    unfolding policy_block_fault N S fault
    block-passes k h =
        let e = block-is rs second accepted k h in
        or_else-none (unless-passes (refusal 2 k 0) (rw e (anew-check N k (get_or (parts rs second) k []) (long rs second accepted k h))))
        (or_else-none (unless-passes (refusal 3 k 0) (header-passes k h)) (rw (rule-or-not rs second accepted k h, e) (content-passes k h)))

    -- no block has a fault, and the length is good
    pub image-accepted : policy_fault (rules_image rs second) ≡ none
    unfolding policy_fault good_length N S
    image-accepted =
        or_else-none
        (unless-passes (refusal 1 0 0)
        (rw (
          image-blocks rs second accepted,
          image-length rs second accepted,
          eq-eqb _ _ refl,
          le-leb 1 (length rs + permissions second) some,
          le-leb (length rs + permissions second) policy_blocks most,
        )))
        (rw (many rs second accepted) (first-none (policy_block_fault (rules_image rs second)) 0 N (λ k lo hi. block-passes k (omega arith))))
