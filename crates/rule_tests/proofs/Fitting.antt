-- The shape of a rule says which contexts the rule is about, if it has no range: a context of a good request has the shape exactly where it fits the rule.
-- Assumes nothing.
use Rattle.std.proofs.Common.{◌≡◌, ℕ, ◌+◌, ◌*◌, ◌/◌, ◌%◌, ◌^◌, ◌<◌, Bool, true, false, cond, not, ◌&&◌, ◌||◌, eqb, ltb, List, get_or, sym, refl, ap, ◌∙◌, ap₂, arith, eq-eqb, ne_eqb, eqb-true}
use mathlib.Core.Bool.{and_assoc, and-true}
use lib.Arith.{digits_div, digits_mod}
use lib.Bits.{bit_and, and_mask, and_block, and_zero_r, and_le_l}
use borrow.Author.Tests.{eqb-false, not-true}
use Rattle.words.specs.Lists.{all_below}
use Rattle.words.specs.Bytes.{part}
use Rattle.word_laws.proofs.Bytes.{Byte}
use Rattle.word_laws.proofs.Tests.{all_below-at}
use Rattle.format.specs.Request.{good_request}
use Rattle.format.specs.Rule.{Rule, Level, is_range, good_level, good_rule, blank_level}
use Rattle.format.specs.Fits.{level_fits, fits}
use Rattle.rule_tests.specs.Shapes.{level_want, level_mask, paired, levels_of, shape_of, plain, Narrow, shape_fits}
use Rattle.rule_tests.proofs.GoodLevels.{LevelStands, asks, blank-parts, no_value, level-stands, level_word, word_small, words-fit}

-- ---- numbers of two parts

-- they are the same where both parts are
two-parts : (w a b u v : ℕ) → a < w → u < w → eqb (b * w + a) (v * w + u) ≡ eqb a u && eqb b v
two-parts w a b u v ha hu = go (eqb a u) refl (eqb b v) refl
  where
    go : (p : Bool) → eqb a u ≡ p → (q : Bool) → eqb b v ≡ q → eqb (b * w + a) (v * w + u) ≡ p && q
    go true e true f = eq-eqb (b * w + a) (v * w + u) (ap₂ (λ (x y : ℕ). x * w + y) (eqb-true b v f) (eqb-true a u e))
    go true e false f = ne_eqb (b * w + a) (v * w + u) (λ h. eqb-false b v f (sym (digits_div b ha) ∙ ap (λ (n : ℕ). n / w) h ∙ digits_div v hu))
    go false e q f = ne_eqb (b * w + a) (v * w + u) (λ h. eqb-false a u e (sym (digits_mod b ha) ∙ ap (λ (n : ℕ). n % w) h ∙ digits_mod v hu))

pair-test : (x y m n u v : ℕ) → x < 4294967296 → m < 4294967296 → u < 4294967296
    → eqb (bit_and (x + 4294967296 * y) (m + 4294967296 * n)) (u + 4294967296 * v) ≡ eqb (bit_and x m) u && eqb (bit_and y n) v
pair-test x y m n u v hx hm hu =
    ap₂ {C = Bool} (λ (a b : ℕ). eqb a b)
    (ap₂ bit_and (turned x y) (turned m n) ∙ and_block 32 y n x m hx hm) (turned u v)
    ∙ two-parts 4294967296 (bit_and x m) (bit_and y n) u v (omega (arith, and_le_l x m)) hu
  where
    turned : (a b : ℕ) → a + 4294967296 * b ≡ b * 4294967296 + a
    turned a b = omega arith

-- ---- one level

mask-small : (r : Rule) (l : ℕ) → level_mask r l < 4294967296
unfolding level_mask
mask-small r l = go (ltb l r.depth) (eqb (r.level l).mark 1)
  where
    go : (b m : Bool) → cond b (cond m 4294967295 65535) 0 < 4294967296
    go true true = omega arith
    go true false = omega arith
    go false m = omega arith

-- a used level that has no range asks of a word what its mark says
used-test : (v : Level) (x : ℕ) → good_level v ≡ true → is_range v ≡ false → v.type < 65536 → x < 4294967296
    → eqb (bit_and x (cond (eqb v.mark 1) 4294967295 65535)) (v.type + 65536 * v.value) ≡ level_fits v (x % 65536) (x / 65536)
unfolding level_fits
used-test v x e flat narrow small = rw flat (go (eqb v.mark 1) refl)
  where
    go : (m : Bool) → eqb v.mark 1 ≡ m
        → eqb (bit_and x (cond m 4294967295 65535)) (v.type + 65536 * v.value) ≡ eqb (x % 65536) v.type && ((not m || eqb (x / 65536) v.value) && true)
    go true m =
        let h : x % 2 ^ 32 ≡ x / 65536 * 65536 + x % 65536 = omega arith in
        let w : v.type + 65536 * v.value ≡ v.value * 65536 + v.type = omega arith in
        rw (and_mask x 32, h, w, and-true (eqb (x / 65536) v.value)) (two-parts 65536 (x % 65536) (x / 65536) v.type v.value (omega arith) narrow)
    go false m =
        let w : v.type + 65536 * v.value ≡ v.type = omega (arith, no_value v e (eqb-false v.mark 1 m) (eqb-false v.mark 4 flat)) in
        rw (and_mask x 16, w, and-true (eqb (x % 65536) v.type))

module _ (r : Rule) (flat : plain r ≡ true) (l : ℕ) (four : l < 4) (stands : LevelStands r l) (narrow : (r.level l).type < 65536) where
  level-test : (word : ℕ → ℕ) → word l < 4294967296 → eqb (bit_and (word l) (level_mask r l)) (level_want r l) ≡ asks r word l
  unfolding level_mask level_want plain
  level-test word small = go (ltb l r.depth) stands
    where
      v : Level
      v = r.level l

      go : (b : Bool) → cond b (good_level v) (blank_level v) ≡ true
          → eqb (bit_and (word l) (cond b (cond (eqb v.mark 1) 4294967295 65535) 0)) (v.type + 65536 * v.value)
          ≡ not b || level_fits v (word l % 65536) (word l / 65536)
      go true e = used-test v (word l) e (not-true (is_range v) (all_below-at 4 l (λ i. not (is_range (r.level i))) flat four)) narrow small
      go false e = let b = blank-parts v e in rw (and_zero_r (word l), b.0, b.2)

-- ---- the four levels

module _ (r : Rule) (flat : plain r ≡ true) (good : good_rule r ≡ true)
    (narrow : Narrow r)
    (word : ℕ → ℕ) (small : (l : ℕ) → word l < 4294967296)
  where
    pair-asks : (l : ℕ) → l + 1 < 4 → eqb (bit_and (paired word l) (paired (level_mask r) l)) (paired (level_want r) l) ≡ asks r word l && asks r word (l + 1)
    unfolding level_want
    pair-asks l h =
        let n = narrow l (omega arith) in
        pair-test (word l) (word (l + 1)) (level_mask r l) (level_mask r (l + 1)) (level_want r l) (level_want r (l + 1)) (small l) (mask-small r l) (omega (arith, n.0, n.1))
        ∙ ap₂ ◌&&◌ (level-test r flat l (omega arith) (level-stands r good l (omega arith)) n.0 word (small l))
        (level-test r flat (l + 1) h (level-stands r good (l + 1) h) (narrow (l + 1) h).0 word (small (l + 1)))

    shape-fits : shape_fits (shape_of r) (levels_of word) ≡ all_below 4 (asks r word)
    unfolding shape_fits all_below
    shape-fits = ap₂ ◌&&◌ (pair-asks 0 (omega arith)) (pair-asks 2 (omega arith)) ∙ sym (and_assoc (asks r word 0 && asks r word 1) (asks r word 2) (asks r word 3))

-- ---- a record beside the shape of a rule

-- a good request has the shapes of just the rules that it fits, among those that have no range
pub shaped : (r : Rule) → plain r ≡ true → good_rule r ≡ true → Narrow r → (s : List ℕ) (at : ℕ) → ((j : ℕ) → Byte (get_or s j 0)) → good_request (part s at 28) ≡ true
    → shape_fits (shape_of r) (levels_of (level_word s at)) ≡ fits r (part s at 28)
shaped r flat good narrow s at bytes request =
    shape-fits r flat good narrow (level_word s at) (word_small s at bytes) ∙ words-fit s at bytes r good request
