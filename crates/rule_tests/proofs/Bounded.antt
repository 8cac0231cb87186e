-- The bounds of a rule say which contexts the rule is about: a good request lies within them exactly where its context fits the rule.
-- Assumes nothing.
use Rattle.std.proofs.Common.{◌≡◌, ℕ, ◌+◌, ◌-◌, ◌*◌, ◌/◌, ◌%◌, ◌<◌, ◌≤◌, Bool, true, false, cond, not, ◌&&◌, ◌||◌, eqb, ltb, leb, List, get_or, sym, refl, ap, ◌∙◌, ap₂, arith, le-ltb, lt-ltb, ne_eqb, eqb-true, le-leb}
use native.Mathlib.Decide.{dec_le, dec_lt}
use mathlib.Core.Bool.{and_assoc, and-true, and-false}
use borrow.Author.Tests.{eqb-false, lt-leb}
use native.Mathlib.Nat.{zero-add}
use Rattle.words.specs.Lists.{all_below, tab}
use Rattle.words.specs.Bytes.{part}
use Rattle.word_laws.proofs.Bytes.{Byte}
use Rattle.word_laws.proofs.Lists.{get_d-tab}
use Rattle.format.specs.Request.{good_request}
use Rattle.format.specs.Rule.{Rule, Level, low, high, good_level, good_rule, blank_level}
use Rattle.format.specs.Fits.{level_fits, fits}
use Rattle.rule_tests.specs.Bounds.{level_number, level_first, mark_span, level_span, bound_of, reached, pair_fits, bound_fits}
use Rattle.rule_tests.specs.Shapes.{paired, levels_of, Narrow}
use Rattle.rule_tests.proofs.GoodLevels.{asks, blank-parts, range-rises, no_value, level-stands, level_word, word_small, words-fit}

-- ---- numbers from a first to a last

leb-same : (a b c d : ℕ) → (a ≤ b → c ≤ d) → (c ≤ d → a ≤ b) → leb a b ≡ leb c d
leb-same a b c d there back = go (dec_le a b) (dec_le c d)
  where
    go : Dec (a ≤ b) → Dec (c ≤ d) → leb a b ≡ leb c d
    go (yes h) k = le-leb a b h ∙ sym (le-leb c d (there h))
    go (no h) (yes k) = absurd (h (back k))
    go (no h) (no k) = lt-leb a b (omega arith) ∙ sym (lt-leb c d (omega arith))

-- a span that does not go past the highest number is reached from the first number to the last
from-to : (n f s : ℕ) → n < 4294967296 → f + s < 4294967296 → reached n f s ≡ leb f n && leb n (f + s)
unfolding reached
from-to n f s small room = go (dec_le f n)
  where
    go : Dec (f ≤ n) → leb ((n + (4294967296 - f)) % 4294967296) s ≡ leb f n && leb n (f + s)
    go (yes h) =
        let e : (n + (4294967296 - f)) % 4294967296 ≡ n - f = omega arith in
        rw (e, le-leb f n h) (leb-same (n - f) s n (f + s) (λ k. omega arith) (λ k. omega arith))
    go (no h) = rw (lt-leb f n (omega arith)) (lt-leb ((n + (4294967296 - f)) % 4294967296) s (omega arith))

-- from a to b within one type
in-type : (t w type a b : ℕ) → w < 65536 → a < 65536 → b < 65536
    → leb (a + 65536 * type) (w + 65536 * t) && leb (w + 65536 * t) (b + 65536 * type) ≡ eqb t type && (leb a w && leb w b)
in-type t w type a b sw sa sb = go (eqb t type) refl (dec_lt t type)
  where
    go : (e : Bool) → eqb t type ≡ e → Dec (t < type)
        → leb (a + 65536 * type) (w + 65536 * t) && leb (w + 65536 * t) (b + 65536 * type) ≡ e && (leb a w && leb w b)
    go true e h =
        let same = eqb-true t type e in
        ap₂ ◌&&◌ (leb-same (a + 65536 * type) (w + 65536 * t) a w (λ k. omega arith) (λ k. omega arith))
        (leb-same (w + 65536 * t) (b + 65536 * type) w b (λ k. omega arith) (λ k. omega arith))
    go false e (yes h) = rw (lt-leb (a + 65536 * type) (w + 65536 * t) (omega arith))
    go false e (no h) =
        let other = eqb-false t type e in
        let above : type < t = omega (arith, other) in
        rw (lt-leb (w + 65536 * t) (b + 65536 * type) (omega arith)) (and-false (leb (a + 65536 * type) (w + 65536 * t)))

one_value : (a w : ℕ) → leb a w && leb w a ≡ eqb w a
one_value a w = go (eqb w a) refl (dec_le a w)
  where
    go : (e : Bool) → eqb w a ≡ e → Dec (a ≤ w) → leb a w && leb w a ≡ e
    go true e h = let same = eqb-true w a e in ap₂ ◌&&◌ (le-leb a w (omega arith)) (le-leb w a (omega arith))
    go false e (yes h) = let other = eqb-false w a e in rw (lt-leb w a (omega (arith, other))) (and-false (leb a w))
    go false e (no h) = rw (lt-leb a w (omega arith))

-- ---- one level

module _ (v : Level) (x : ℕ) (small : x < 4294967296) where
  used-bound : good_level v ≡ true → (v.type < 65536) × (v.value < 65536) × (v.tail < 65536)
      → reached (level_number x) (v.value + 65536 * v.type) (mark_span v) ≡ level_fits v (x % 65536) (x / 65536)
  unfolding level_fits
  used-bound e narrow = go (eqb v.mark 1) refl (eqb v.mark 4) refl
    where
      t : ℕ
      t = x % 65536

      w : ℕ
      w = x / 65536

      inside : Bool
      inside = leb (low v) w && leb w (high v)

      -- the numbers of the type from one value to another
      values : (b span : ℕ) → b < 65536 → v.value + 65536 * v.type + span ≡ b + 65536 * v.type
          → reached (level_number x) (v.value + 65536 * v.type) span ≡ eqb t v.type && (leb v.value w && leb w b)
      values b span short last =
          from-to (level_number x) (v.value + 65536 * v.type) span (omega arith) (omega (arith, narrow.0))
          ∙ ap (λ (n : ℕ). leb (v.value + 65536 * v.type) (level_number x) && leb (level_number x) n) last
          ∙ in-type t w v.type v.value b (omega arith) narrow.1 short

      go : (m : Bool) → eqb v.mark 1 ≡ m → (k : Bool) → eqb v.mark 4 ≡ k
          → reached (level_number x) (v.value + 65536 * v.type) (cond m 0 (cond k (v.tail - v.value) 65535))
          ≡ eqb t v.type && ((not m || eqb w v.value) && (not k || inside))
      go true m true k = absurd (omega (arith, eqb-true v.mark 1 m, eqb-true v.mark 4 k))
      go true m false k =
          values v.value 0 narrow.1 (omega arith)
          ∙ ap (λ (b : Bool). eqb t v.type && b) (one_value v.value w ∙ sym (and-true (eqb w v.value)))
      go false m true k = let rises = range-rises v e (eqb-true v.mark 4 k) in values v.tail (v.tail - v.value) narrow.2 (omega (arith, rises.1))
      go false m false k =
          let zero = no_value v e (eqb-false v.mark 1 m) (eqb-false v.mark 4 k) in
          values 65535 65535 (omega arith) (omega (arith, zero))
          ∙ ap (λ (b : Bool). eqb t v.type && b) (ap₂ ◌&&◌ (le-leb v.value w (omega (arith, zero))) (le-leb w 65535 (omega arith)))

  blank-bound : blank_level v ≡ true → reached (level_number x) (v.value + 65536 * v.type) 4294967295 ≡ true
  blank-bound e =
      let b = blank-parts v e in
      rw (b.0, b.2) (from-to (level_number x) 0 4294967295 (omega arith) (omega arith) ∙ ap₂ ◌&&◌ (le-leb 0 (level_number x) (omega arith)) (le-leb (level_number x) 4294967295 (omega arith)))

-- ---- the four levels

-- the two levels of a pair
first_of : (x y : ℕ) → x < 4294967296 → (x + 4294967296 * y) % 4294967296 ≡ x
first_of x y h = omega arith

second-of : (x y : ℕ) → x < 4294967296 → (x + 4294967296 * y) / 4294967296 ≡ y
second-of x y h = omega arith

module _ (r : Rule) (good : good_rule r ≡ true) (narrow : Narrow r)
    (word : ℕ → ℕ) (small : (l : ℕ) → word l < 4294967296)
  where
    level-bound : (l : ℕ) → l < 4 → reached (level_number (word l)) (level_first r l) (level_span r l) ≡ asks r word l
    unfolding level_first level_span
    level-bound l h = go (ltb l r.depth) (level-stands r good l h)
      where
        v : Level
        v = r.level l

        go : (b : Bool) → cond b (good_level v) (blank_level v) ≡ true
            → reached (level_number (word l)) (v.value + 65536 * v.type) (cond b (mark_span v) 4294967295) ≡ not b || level_fits v (word l % 65536) (word l / 65536)
        go true e = used-bound v (word l) (small l) e (narrow l h)
        go false e = blank-bound v (word l) (small l) e

    pair-bound : (l : ℕ) → l + 1 < 4 → pair_fits (bound_of r) l (paired word l) ≡ asks r word l && asks r word (l + 1)
    unfolding pair_fits bound_of
    pair-bound l h =
        rw (
          first_of (word l) (word (l + 1)) (small l),
          second-of (word l) (word (l + 1)) (small l),
          at (level_first r) l (omega arith),
          at (level_span r) l (omega arith),
          at (level_first r) (l + 1) h,
          at (level_span r) (l + 1) h,
        )
        (ap₂ ◌&&◌ (level-bound l (omega arith)) (level-bound (l + 1) h))
      where
        at : (f : ℕ → ℕ) (k : ℕ) → k < 4 → get_or (tab f 0 4) k 0 ≡ f k
        at f k b = get_d-tab f 0 4 k 0 b ∙ ap f (zero-add k)

    bound-fits : bound_fits (bound_of r) (levels_of word) ≡ all_below 4 (asks r word)
    unfolding bound_fits all_below
    bound-fits =
        ap₂ ◌&&◌ (pair-bound 0 (omega arith)) (pair-bound 2 (omega arith)) ∙ sym (and_assoc (asks r word 0 && asks r word 1) (asks r word 2) (asks r word 3))

-- ---- how far the last number of a level lies behind the first

module _ (r : Rule) (l : ℕ) where
  pub span-past : r.depth ≤ l → 4294967295 ≡ level_span r l
  unfolding level_span
  span-past h = rw (le-ltb l r.depth h)

  module _ (used : l < r.depth) where
    pub span-fixed : (r.level l).mark ≡ 1 → 0 ≡ level_span r l
    unfolding level_span
    span-fixed e = rw (lt-ltb l r.depth used, e)

    pub span-range : (r.level l).mark ≡ 4 → (r.level l).tail - (r.level l).value ≡ level_span r l
    unfolding level_span
    span-range e = rw (lt-ltb l r.depth used, e)

    pub span-type : ((r.level l).mark ≡ 1 → ⊥) → ((r.level l).mark ≡ 4 → ⊥) → 65535 ≡ level_span r l
    unfolding level_span
    span-type one four = rw (lt-ltb l r.depth used, ne_eqb (r.level l).mark 1 one, ne_eqb (r.level l).mark 4 four)

    pub span-rises : good_rule r ≡ true → l < 4 → (r.level l).mark ≡ 4 → (r.level l).value ≤ (r.level l).tail
    span-rises good h e = (range-rises (r.level l) (rw (lt-ltb l r.depth used) at (level-stands r good l h)) e).1

-- ---- a record beside the bounds of a rule

-- a good request lies within the bounds of just the rules that it fits
pub bounded : (r : Rule) → good_rule r ≡ true → Narrow r → (s : List ℕ) (at : ℕ) → ((j : ℕ) → Byte (get_or s j 0)) → good_request (part s at 28) ≡ true
    → bound_fits (bound_of r) (levels_of (level_word s at)) ≡ fits r (part s at 28)
bounded r good narrow s at bytes request =
    bound-fits r good narrow (level_word s at) (word_small s at bytes) ∙ words-fit s at bytes r good request
