-- The fields of a request, read as words of the bytes that it is a part of.
-- Assumes nothing.
use Prim.Native.Nat.{ℕ, ◌+◌, ◌*◌, ◌/◌, ◌%◌, ◌<◌}
use native.Mathlib.Nat.{add-zero, add_assoc}
use native.Mathlib.Omega.{arith}
use mathlib.Core.Path.{◌≡◌, refl, sym, ap, ◌∙◌}
use mathlib.Core.Bool.{Bool, true, false, not, cond, ◌&&◌, ◌||◌, and-true, or-true}
use mathlib.Core.List.{List}
use lib.ListN.{get_or}
use lib.Dec.{eqb}
use borrow.Author.Tests.{eq-eqb, ne_eqb, eqb-true, eqb-false}
use Rattle.words.specs.Lists.{all_below, sum_below}
use Rattle.words.specs.Bytes.{u16_at, u32_at, part}
use Rattle.word_laws.proofs.Bytes.{Byte}
use Rattle.word_laws.proofs.Parts.{part-part, u16_at-part}
use Rattle.format.specs.Rule.{full_privilege}
use Rattle.fields.specs.Code.{done_by}
use Rattle.format.specs.Request.{Request, user, roles, operation, target, context_of, level_type, level_value, used_level, blank_level, depth_of, good_context, good_request}
use Rattle.request_check.specs.RequestWords.{used_word, good_last_words, good_level_words, used_words}

-- ---- a word is two fields

low_half : (a b c d : ℕ) → Byte a → Byte b → (a + 256 * b + 65536 * c + 16777216 * d) % 65536 ≡ a + 256 * b
low_half a b c d ha hb = omega arith

high_half : (a b c d : ℕ) → Byte a → Byte b → (a + 256 * b + 65536 * c + 16777216 * d) / 65536 ≡ c + 256 * d
high_half a b c d ha hb = omega arith

-- two are the same where both their halves are
pub halves-same : (x y : ℕ) → eqb (x % 65536) (y % 65536) && eqb (x / 65536) (y / 65536) ≡ eqb x y
halves-same x y = go (eqb (x % 65536) (y % 65536)) refl (eqb (x / 65536) (y / 65536)) refl
  where
    go : (p : Bool) → eqb (x % 65536) (y % 65536) ≡ p → (q : Bool) → eqb (x / 65536) (y / 65536) ≡ q → p && q ≡ eqb x y
    go true e true f = sym (eq-eqb x y (omega (arith, eqb-true (x % 65536) (y % 65536) e, eqb-true (x / 65536) (y / 65536) f)))
    go true e false f = sym (ne_eqb x y (λ z. eqb-false (x / 65536) (y / 65536) f (ap (λ (n : ℕ). n / 65536) z)))
    go false e q f = sym (ne_eqb x y (λ z. eqb-false (x % 65536) (y % 65536) e (ap (λ (n : ℕ). n % 65536) z)))

module _ (s : List ℕ) (bytes : (i : ℕ) → Byte (get_or s i 0)) where
  pub low : (i : ℕ) → u32_at s i % 65536 ≡ u16_at s i
  low i = low_half (get_or s i 0) (get_or s (i + 1) 0) (get_or s (i + 2) 0) (get_or s (i + 3) 0) (bytes i) (bytes (i + 1))

  pub high : (i : ℕ) → u32_at s i / 65536 ≡ u16_at s (i + 2)
  high i =
      high_half (get_or s i 0) (get_or s (i + 1) 0) (get_or s (i + 2) 0) (get_or s (i + 3) 0) (bytes i) (bytes (i + 1))
      ∙ ap (λ (j : ℕ). get_or s (i + 2) 0 + 256 * get_or s j 0) (omega arith)

  -- ---- the context at a byte

  module _ (at i : ℕ) (four : i < 4) where
    pub level-type : level_type (part s at 16) i ≡ u32_at s (at + 4 * i) % 65536
    level-type = u16_at-part s at 16 (4 * i) (omega arith) ∙ sym (low (at + 4 * i))

    pub level-value : level_value (part s at 16) i ≡ u32_at s (at + 4 * i) / 65536
    level-value = u16_at-part s at 16 (4 * i + 2) (omega arith) ∙ rw (← add_assoc at (4 * i) 2) (sym (high (at + 4 * i)))

    used-level : used_level (part s at 16) i ≡ used_word (u32_at s (at + 4 * i))
    unfolding used_level used_word
    used-level = rw (level-type, level-value)

    blank-level : blank_level (part s at 16) i ≡ eqb (u32_at s (at + 4 * i)) 0
    unfolding blank_level
    blank-level = rw (level-type, level-value) (halves-same (u32_at s (at + 4 * i)) 0)

  pub context-words : (at : ℕ) → good_context (part s at 16) ≡ good_level_words (u32_at s at) (u32_at s (at + 4)) (u32_at s (at + 8)) (u32_at s (at + 12))
  unfolding good_context good_level_words all_below
  context-words at =
      rw (used-level at 0 (omega arith), used-level at 1 (omega arith), used-level at 2 (omega arith), used-level at 3 (omega arith))
      (rw (blank-level at 0 (omega arith), blank-level at 1 (omega arith), blank-level at 2 (omega arith), blank-level at 3 (omega arith))
      (rw (add-zero at, and-true (used_word (u32_at s at)))))

  pub depth-words : (at : ℕ) → depth_of (part s at 16) ≡ used_words (u32_at s at) (u32_at s (at + 4)) (u32_at s (at + 8)) (u32_at s (at + 12))
  unfolding depth_of used_words sum_below
  depth-words at =
      rw (used-level at 0 (omega arith), used-level at 1 (omega arith), used-level at 2 (omega arith), used-level at 3 (omega arith))
      (rw (add-zero at) (ap (λ (x : ℕ). x + cond (used_word (u32_at s (at + 4))) 1 0 + cond (used_word (u32_at s (at + 8))) 1 0 + cond (used_word (u32_at s (at + 12))) 1 0) (omega arith)))

-- ---- the four words of a context, word by word: a zero one, or one that is neither zero nor used, decides

not-used : used_word 0 ≡ false
unfolding used_word
not-used = refl

or-none : (a b : Bool) → a || (b && false) ≡ a
or-none true b = refl
or-none false true = refl
or-none false false = refl

pub last_none : (y z : ℕ) → y ≡ 0 → eqb z 0 ≡ good_last_words y z
unfolding good_last_words
last_none y z e = rw (e, not-used, or-none (eqb z 0) (used_word z))

pub last-half : (y z : ℕ) → (y ≡ 0 → ⊥) → used_word y ≡ false → false ≡ good_last_words y z
unfolding good_last_words
last-half y z n u = rw (ne_eqb y 0 n, u)

pub last_one : (y z : ℕ) → used_word y ≡ true → eqb z 0 || used_word z ≡ good_last_words y z
unfolding good_last_words
last_one y z u = rw (u, or-true (eqb y 0), and-true (used_word z))

module _ (w x y z : ℕ) where
  pub levels-none : w ≡ 0 → eqb x 0 && eqb y 0 && eqb z 0 ≡ good_level_words w x y z
  unfolding good_level_words
  levels-none e = rw (e, not-used, or-none (eqb x 0) (used_word x), or-none (eqb y 0) (used_word y), or-none (eqb z 0) (used_word z))

  pub levels-half : (w ≡ 0 → ⊥) → used_word w ≡ false → false ≡ good_level_words w x y z
  unfolding good_level_words
  levels-half n u = rw (ne_eqb w 0 n, u)

  module _ (one : used_word w ≡ true) where
    pub levels-one : x ≡ 0 → eqb y 0 && eqb z 0 ≡ good_level_words w x y z
    unfolding good_level_words
    levels-one e = rw (one, or-true (eqb w 0), e, not-used, or-none (eqb y 0) (used_word y), or-none (eqb z 0) (used_word z))

    pub levels-one-half : (x ≡ 0 → ⊥) → used_word x ≡ false → false ≡ good_level_words w x y z
    unfolding good_level_words
    levels-one-half n u = rw (one, or-true (eqb w 0), ne_eqb x 0 n, u)

    pub levels-two : used_word x ≡ true → good_last_words y z ≡ good_level_words w x y z
    unfolding good_level_words good_last_words
    levels-two u = rw (one, or-true (eqb w 0), u, or-true (eqb x 0), and-true (used_word y))

-- ---- the request at a byte

pub context-at : (s : List ℕ) (at : ℕ) → context_of (part s at 28) ≡ part s (at + 12) 16
context-at s at = part-part s at 28 12 16 (omega arith)

module _ (s : List ℕ) (at i : ℕ) (four : i < 4) (bytes : (j : ℕ) → Byte (get_or s j 0)) where
  pub type-word : level_type (context_of (part s at 28)) i ≡ u32_at s (at + 12 + 4 * i) % 65536
  type-word = rw (context-at s at) (level-type s bytes (at + 12) i four)

  pub value-word : level_value (context_of (part s at 28)) i ≡ u32_at s (at + 12 + 4 * i) / 65536
  value-word = rw (context-at s at) (level-value s bytes (at + 12) i four)

-- the tests of a request one after the other, where they are the outcomes of these parts
pub request-parts : (q : Request)
    → good_request q
    ≡ not (eqb (user q) 0) && (not (eqb (roles q) 0) && (full_privilege (done_by q) && good_context (context_of q)))
unfolding good_request
request-parts q = grouped (not (eqb (user q) 0)) (not (eqb (roles q) 0)) (not (eqb (operation q) 0)) (not (eqb (target q) 0)) (good_context (context_of q))
  where
    grouped : (u r o t c : Bool) → u && r && o && t && c ≡ u && (r && ((o && t) && c))
    grouped false r o t c = refl
    grouped true false o t c = refl
    grouped true true o t c = refl
