-- The round trip of an image: an accepted policy's blocks are those of its own rules and permission blocks, numbered anew, and so is the policy.
-- Assumes nothing.
use Prim.Native.Nat.{ℕ, ◌+◌, ◌-◌, ◌*◌, ◌≤◌, ◌<◌}
use native.Mathlib.Nat.{zero-add}
use native.Mathlib.Omega.{arith}
use mathlib.Core.Path.{◌≡◌, ap, ◌∙◌}
use mathlib.Core.List.{List, [], flatten}
use mathlib.Core.Option.{none}
use borrow.Author.Tests.{eqb-true}
use lib.ListN.{length, get_or}
use lib.Seq.{take_all}
use Rattle.words.specs.Lists.{tab}
use Rattle.word_laws.proofs.Every.{Every, every_take, every_drop}
use Rattle.word_laws.proofs.Lists.{length-tab, get_d-tab, tab-cong, flatten-parts}
use Rattle.word_laws.proofs.Bytes.{Byte}
use Rattle.format.specs.Layout.{block_bytes, rule_kind}
use Rattle.format.specs.Block.{blocks, block, kind}
use Rattle.format.specs.Rule.{Rule, rule_at}
use Rattle.format.specs.Policy.{policy_fault, rule_count}
use Rattle.format_laws.proofs.AcceptedPolicy.{rules-few, policy-blocked, rule-block as rule-kind}
use Rattle.xml.specs.Blocks.{rule_image, numbered_anew, image_of, rules_image}
use Rattle.xml_laws.proofs.BlockAccepted.{block-sized, check-is, number_is, total-is, spare-zero, tail-zero}
use Rattle.xml_laws.proofs.BlockAnew.{anew-again}
use Rattle.xml_laws.proofs.BlockRule.{image-numbered}
use Rattle.xml_laws.proofs.ImageBlocks.{parts, parts-length, each}

-- an image's own rules
abbrev pub rules_of : List ℕ → List Rule
rules_of s = tab (λ k. rule_at (block s k)) 0 (rule_count s)

module _ (s : List ℕ) (accepted : policy_fault s ≡ none) (bytes : Every Byte s) where
  block-bytes : (k : ℕ) → Every Byte (block s k)
  block-bytes k = every_take block_bytes (every_drop (block_bytes * k) bytes)

  -- a block of an accepted policy, numbered anew as it is
  pub own_block : (k : ℕ) → k < blocks s → numbered_anew (blocks s) k (block s k) ≡ block s k
  own_block k h =
      anew-again (blocks s) k (block s k) (block-bytes k) (block-sized s accepted k h) (check-is s accepted k h)
      (number_is s accepted k h) (total-is s accepted k h)

  -- a rule block is the image of its rule
  pub rule-block : (k : ℕ) → k < rule_count s → numbered_anew (blocks s) k (rule_image (rule_at (block s k))) ≡ block s k
  rule-block k h =
      image-numbered (block s k) (block-bytes k) (block-sized s accepted k (omega (arith, rules-few s accepted))) (blocks s) k
      (eqb-true (kind (block s k)) rule_kind (rule-kind s accepted k h)) (spare-zero s accepted k h) (tail-zero s accepted k h)
      ∙ own_block k (omega (arith, rules-few s accepted))

  -- a permission block stays as it is
  pub permission-block : (k : ℕ) → rule_count s ≤ k → k < blocks s → numbered_anew (blocks s) k (block s k) ≡ block s k
  permission-block k lo hi = own_block k hi

  own-count : length (rules_of s) ≡ rule_count s
  own-count = length-tab (λ k. rule_at (block s k)) 0 (rule_count s)

  own-blocks : length (parts (rules_of s) s) ≡ blocks s
  own-blocks = parts-length (rules_of s) s accepted ∙ omega (arith, own-count, rules-few s accepted)

  part-again : (k : ℕ) → k < length (parts (rules_of s) s) → numbered_anew (blocks s) k (get_or (parts (rules_of s) s) k []) ≡ block s k
  part-again =
      each (rules_of s) s accepted (λ k b. numbered_anew (blocks s) k b ≡ block s k)
      (λ k h.
      ap (λ (r : Rule). numbered_anew (blocks s) k (rule_image r))
      (get_d-tab (λ j. rule_at (block s j)) 0 (rule_count s) k (rule_at []) (omega (arith, own-count)) ∙ ap (λ j. rule_at (block s j)) (zero-add k))
      ∙ rule-block k (omega (arith, own-count)))
      (λ k lo hi.
      let e : rule_count s + (k - length (rules_of s)) ≡ k = omega (arith, own-count) in
      rw e (permission-block k (omega (arith, own-count)) (omega (arith, own-blocks))))

  -- the image of its own rules and of itself is the image
  pub same-image : rules_image (rules_of s) s ≡ s
  unfolding rules_image image_of
  same-image =
      rw own-blocks
      (ap flatten (tab-cong (λ k. numbered_anew (blocks s) k (get_or (parts (rules_of s) s) k [])) (block s) 0 (blocks s)
      (λ k lo hi. part-again k (omega (arith, own-blocks))))
      ∙ flatten-parts block_bytes s 0 (blocks s)
      ∙ take_all (block_bytes * blocks s) s (omega (arith, (policy-blocked s accepted).whole-blocks)))
