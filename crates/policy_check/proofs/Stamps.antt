-- The stamp of an accepted policy from the checks of its blocks: a good check is the sums over the words before it, so the sums over a block go on from it.
-- Assumes nothing.
use Prim.Native.Nat.{ℕ, suc, ◌+◌, ◌*◌, ◌≤◌, ◌<◌}
use mathlib.Core.Path.{◌≡◌, sym, ap, ap₂, ◌∙◌}
use mathlib.Core.Bool.{Bool, true}
use mathlib.Core.List.{List, [], ◌∷◌, ◌++◌, append_assoc}
use mathlib.Core.Option.{none}
use native.Mathlib.Omega.{arith}
use native.Mathlib.Nat.{mul-suc}
use borrow.Author.Tests.{eqb-true}
use lib.ListN.{length}
use lib.Seq.{take-add}
use lib.Dec.{eqb}
use Rattle.words.specs.Bytes.{u32_at, part}
use Rattle.words.specs.Sums.{Sums, add_word, add_words, sums, words}
use Rattle.word_laws.proofs.First.{none_first, none-second, none-at, passes-unless}
use Rattle.word_laws.proofs.Tests.{both_first, both-second}
use Rattle.word_laws.proofs.Parts.{part-whole, part_length}
use Rattle.word_laws.proofs.Sums.{Fit, words_append, words_more, add_words-append, length-words, more-words}
use Rattle.format.specs.Block.{blocks, block, check_of, good_check}
use Rattle.format.specs.Policy.{policy_fault, policy_block_fault, stamp}
use Rattle.sums.specs.Code.{go_on}
use Rattle.policy_check.proofs.Lengths.{policy-blocked}

-- ---- one block

module _ (b : List ℕ) (sized : length b ≡ 512) (good : good_check b ≡ true) where
  abbrev check : Sums
  check = record { a = u32_at b 504; b = u32_at b 508 }

  -- the check is the sums over the 126 words before it
  check-is : sums (words (part b 0 504)) ≡ check
  unfolding good_check check_of
  check-is =
      let t : Sums = sums (words (part b 0 504)) in
      let a : Bool = eqb t.a (u32_at b 504) in
      let c : Bool = eqb t.b (u32_at b 508) in
      ap₂ (λ (x y : ℕ). record { a = x; b = y }) (eqb-true t.a (u32_at b 504) (both_first a c good)) (eqb-true t.b (u32_at b 508) (both-second a c good))

  before-check : (s : Sums) → Fit s → add_words s (words (part b 0 504)) ≡ go_on s 126 check
  unfolding go_on
  before-check s f =
      let n : length (words (part b 0 504)) ≡ 126 = length-words 126 (part b 0 504) (part_length b 0 504 (omega (arith, sized))) in
      rw (more-words s f (words (part b 0 504)), n, check-is)

  block_words : words b ≡ words (part b 0 504) ++ (u32_at b 504 ∷ u32_at b 508 ∷ [])
  block_words =
      ap words (sym (part-whole b 512 sized))
      ∙ words_more b 0 127 (omega (arith, sized))
      ∙ ap (λ (ws : List ℕ). ws ++ (u32_at b 508 ∷ [])) (words_more b 0 126 (omega (arith, sized)))
      ∙ append_assoc (words (part b 0 504)) (u32_at b 504 ∷ []) (u32_at b 508 ∷ [])

  pub block-sums : (s : Sums) → Fit s → add_words s (words b) ≡ add_word (add_word (go_on s 126 check) (u32_at b 504)) (u32_at b 508)
  unfolding add_words
  block-sums s f = rw (block_words) (add_words-append s (words (part b 0 504)) _ ∙ ap (λ (t : Sums). add_word (add_word t (u32_at b 504)) (u32_at b 508)) (before-check s f))

-- ---- all blocks

-- each block of an accepted policy has a good check
pub accepted-check : (s : List ℕ) → policy_fault s ≡ none → (k : ℕ) → k < blocks s → good_check (block s k) ≡ true
unfolding policy_fault policy_block_fault
accepted-check s e k h = passes-unless _ _ (none_first _ _ (none-at (policy_block_fault s) 0 (blocks s) k (none-second _ _ e) (omega arith) (omega arith)))

-- the sums over one block more
pub stamp-more : (s : List ℕ) (k : ℕ) → 512 * k + 512 ≤ length s
    → sums (words (part s 0 (512 * suc k))) ≡ add_words (sums (words (part s 0 (512 * k)))) (words (block s k))
unfolding sums
stamp-more s k h =
    rw (mul-suc 512 k, take-add (512 * k) 512 s, words_append (128 * k) (part s 0 (512 * k)) (block s k) (part_length s 0 (512 * k) (omega arith) ∙ omega arith))
    (add_words-append (record { a = 1; b = 0 }) (words (part s 0 (512 * k))) (words (block s k)))

pub stamp-all : (s : List ℕ) → policy_fault s ≡ none → sums (words (part s 0 (512 * blocks s))) ≡ stamp s
unfolding stamp
stamp-all s e = ap (λ (l : List ℕ). sums (words l)) (part-whole s (512 * blocks s) (sym (policy-blocked s e).0))
