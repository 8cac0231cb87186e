-- The levels of a rule that has passed its check, and the contexts that it is about: what a good level's mark says of its values, and that a good
-- context fits a rule where its levels do.
-- Assumes nothing.
use Rattle.std.proofs.Common.{◌≡◌, ℕ, zero, suc, ◌+◌, ◌*◌, ◌/◌, ◌%◌, ◌<◌, ◌≤◌, Bool, true, false, cond, not, ◌&&◌, ◌||◌, eqb, ltb, leb, List, get_or, sym, refl, ◌∙◌, arith, le-ltb, lt-ltb, ne_eqb, eqb-true, le-leb, leb-true}
use native.Mathlib.Decide.{dec_le}
use mathlib.Core.Bool.{and-true, and-false}
use borrow.Author.Tests.{eqb-false, not-true}
use Rattle.words.specs.Lists.{all_below, sum_below}
use Rattle.words.specs.Bytes.{u16_at, u32_at, part}
use Rattle.word_laws.proofs.Bytes.{Byte}
use Rattle.word_laws.proofs.Tests.{both_first, both-second, all_below-at, all_below-same}
use Rattle.format.specs.Request.{Request, user, roles, operation, target, context_of, level_type, level_value, used_level, blank_level, depth_of, good_context, good_request}
use Rattle.format.specs.Rule.{Rule, Level, good_mark, good_values, good_level, good_steps, good_rule, rule_at, blank_level as blank_rule_level}
use Rattle.format.specs.Fits.{fits_at, level_fits, fits}
use Rattle.rule_tests.specs.Shapes.{Narrow}
use Rattle.request_check.proofs.RequestWords.{type-word, value-word}

-- ---- one level

-- a level of an accepted rule: as the rule's depth has it
abbrev pub LevelStands : Rule → ℕ → Type 0
LevelStands r l = cond (ltb l r.depth) (good_level (r.level l)) (blank_rule_level (r.level l)) ≡ true

-- what a rule asks of the word of level l: nothing past the depth
abbrev pub asks : Rule → (ℕ → ℕ) → ℕ → Bool
asks r word l = not (ltb l r.depth) || level_fits (r.level l) (word l % 65536) (word l / 65536)

-- a level past the depth has neither type, nor mark, nor value
pub blank-parts : (v : Level) → blank_rule_level v ≡ true → (v.type ≡ 0) × (v.mark ≡ 0) × (v.value ≡ 0)
unfolding blank_rule_level
blank-parts v e =
    let up_to = both_first (eqb v.type 0 && eqb v.mark 0 && eqb v.pad 0 && eqb v.value 0) (eqb v.tail 0) e in
    let front = both_first (eqb v.type 0 && eqb v.mark 0 && eqb v.pad 0) (eqb v.value 0) up_to in
    let two = both_first (eqb v.type 0 && eqb v.mark 0) (eqb v.pad 0) front in (
      eqb-true v.type 0 (both_first (eqb v.type 0) (eqb v.mark 0) two),
      eqb-true v.mark 0 (both-second (eqb v.type 0) (eqb v.mark 0) two),
      eqb-true v.value 0 (both-second (eqb v.type 0 && eqb v.mark 0 && eqb v.pad 0) (eqb v.value 0) up_to),
    )

good-parts : (v : Level) → good_level v ≡ true → not (eqb v.type 0) && good_values v.mark v.value v.tail ≡ true
unfolding good_level
good-parts v e = both_first _ _ e

good-type : (v : Level) → good_level v ≡ true → eqb v.type 0 ≡ false
good-type v e = not-true (eqb v.type 0) (both_first (not (eqb v.type 0)) (good_values v.mark v.value v.tail) (good-parts v e))

good-values : (v : Level) → good_level v ≡ true → good_values v.mark v.value v.tail ≡ true
good-values v e = both-second (not (eqb v.type 0)) (good_values v.mark v.value v.tail) (good-parts v e)

-- a range rises from a low value that is not 0
pub range-rises : (v : Level) → good_level v ≡ true → v.mark ≡ 4 → (0 < v.value) × (v.value ≤ v.tail)
unfolding good_mark
range-rises v e m =
    let values = rw m at (good-values v e) in
    let some = eqb-false v.value 0 (not-true (eqb v.value 0) (both_first (not (eqb v.value 0)) (leb v.value v.tail) values)) in
    (omega (arith, some), leb-true v.value v.tail (both-second (not (eqb v.value 0)) (leb v.value v.tail) values))

-- only a fixed value and a range have a value
pub no_value : (v : Level) → good_level v ≡ true → (v.mark ≡ 1 → ⊥) → (v.mark ≡ 4 → ⊥) → v.value ≡ 0
unfolding good_mark
no_value v e one four =
    let values = rw (ne_eqb v.mark 1 one, ne_eqb v.mark 4 four) at (good-values v e) in
    eqb-true v.value 0 (go (eqb v.mark 2 || eqb v.mark 3) (eqb v.value 0) (eqb v.tail 0) values)
  where
    go : (b x y : Bool) → (b && x && y) || false ≡ true → x ≡ true
    go true true y t = refl
    go true false y t = cc
    go false x y t = cc

-- ---- the four levels

-- the numbers of a rule's levels, as its block has them
pub rule-narrow : (b : List ℕ) → ((j : ℕ) → Byte (get_or b j 0)) → Narrow (rule_at b)
unfolding rule_at
rule-narrow b bytes l h = (field (16 + 8 * l), field (20 + 8 * l), field (22 + 8 * l))
  where
    field : (f : ℕ) → u16_at b f < 65536
    field f = omega (arith, bytes f, bytes (f + 1))

-- a test up to a depth, as one at each of n
pub within : (n d : ℕ) (f : ℕ → Bool) → d ≤ n → all_below n (λ l. not (ltb l d) || f l) ≡ all_below d f
unfolding all_below
within zero zero f h = refl
within zero (suc d) f h = absurd (omega arith)
within (suc n) d f h = go (dec_le d n) (within n d f)
  where
    go : Dec (d ≤ n) → (d ≤ n → all_below n (λ l. not (ltb l d) || f l) ≡ all_below d f)
        → all_below n (λ l. not (ltb l d) || f l) && (not (ltb n d) || f n) ≡ all_below d f
    go (yes k) ih = rw (le-ltb n d k) (and-true _ ∙ ih k)
    go (no k) ih =
        let e : d ≡ suc n = omega arith in
        all_below-same (suc n) (λ l. not (ltb l d) || f l) f (λ l b. rw (lt-ltb l d (omega arith))) ∙ rw e

-- levels that are used from the first on make a depth
front-used : (n d : ℕ) (f : ℕ → Bool) → d ≤ n → ((l : ℕ) → l < d → f l ≡ true) → d ≤ sum_below n (λ l. cond (f l) 1 0)
unfolding sum_below
front-used zero d f h u = omega arith
front-used (suc n) d f h u = go (dec_le d n) (λ k. front-used n d f k u) (λ k. front-used n n f (omega arith) (λ l b. u l (omega arith)))
  where
    go : Dec (d ≤ n) → (d ≤ n → d ≤ sum_below n (λ l. cond (f l) 1 0)) → (n < d → n ≤ sum_below n (λ l. cond (f l) 1 0)) → d ≤ sum_below n (λ l. cond (f l) 1 0) + cond (f n) 1 0
    go (yes k) less all = omega (arith, less k)
    go (no k) less all = rw (u n (omega arith)) (omega (arith, all (omega arith)))

module _ (r : Rule) (good : good_rule r ≡ true) where
  pub depth-few : r.depth ≤ 4
  unfolding good_rule
  depth-few = leb-true r.depth 4 (both_first _ _ (both_first _ _ (both_first _ _ (both_first _ _ good))))

  pub level-stands : (l : ℕ) → l < 4 → LevelStands r l
  unfolding good_rule
  level-stands l h =
      let counts = leb r.depth 4 && leb 1 r.exclusions && leb r.exclusions 8 in
      let levels = all_below 4 (λ i. cond (ltb i r.depth) (good_level (r.level i)) (blank_rule_level (r.level i))) in
      all_below-at 4 l (λ i. cond (ltb i r.depth) (good_level (r.level i)) (blank_rule_level (r.level i)))
      (both-second counts levels (both_first (counts && levels) (good_steps r.first_step r.last_step) good)) h

  -- at a level of the rule, a word of that type is a used one
  fits-used : (q : Request) → good_context (context_of q) ≡ true
      → all_below r.depth (fits_at r q) ≡ true
      → (l : ℕ) → l < r.depth → used_level (context_of q) l ≡ true
  unfolding good_context blank_level level_fits
  fits-used q context fit l h =
      go (used_level (context_of q) l) (all_below l (used_level (context_of q))) (eqb (level_value (context_of q) l) 0) (eqb (level_type (context_of q) l) 0)
      (rw (eqb-true (level_type (context_of q) l) (r.level l).type same) (good-type (r.level l) (rw (lt-ltb l r.depth h) at (level-stands l (omega (arith, depth-few))))))
      (all_below-at 4 l (λ i. blank_level (context_of q) i || (used_level (context_of q) i && all_below i (used_level (context_of q)))) context (omega (arith, depth-few)))
    where
      same : eqb (level_type (context_of q) l) (r.level l).type ≡ true
      same = both_first _ _ (all_below-at r.depth l (fits_at r q) fit h)

      go : (u b v t : Bool) → t ≡ false → (t && v) || (u && b) ≡ true → u ≡ true
      go u b v true f e = cc
      go u b v false f e = both_first u b e

  -- so a good context fits where its levels do
  pub fits-levels : (q : Request) → good_context (context_of q) ≡ true
      → fits r q ≡ all_below r.depth (fits_at r q)
  unfolding fits depth_of
  fits-levels q context = go (all_below r.depth (fits_at r q)) refl
    where
      go : (b : Bool) → all_below r.depth (fits_at r q) ≡ b → leb r.depth (depth_of (context_of q)) && b ≡ b
      go true e = rw (le-leb r.depth (depth_of (context_of q)) (front-used 4 r.depth (used_level (context_of q)) depth-few (fits-used q context e)))
      go false e = and-false (leb r.depth (depth_of (context_of q)))

-- ---- the context of the request at a byte

-- its level l
abbrev pub level_word : List ℕ → ℕ → ℕ → ℕ
level_word s at l = u32_at s (at + 12 + 4 * l)

module _ (s : List ℕ) (at : ℕ) (bytes : (j : ℕ) → Byte (get_or s j 0)) where
  pub word_small : (l : ℕ) → level_word s at l < 4294967296
  word_small l =
      let i = at + 12 + 4 * l in omega (arith, bytes i, bytes (i + 1), bytes (i + 2), bytes (i + 3))

  good-context : good_request (part s at 28) ≡ true → good_context (context_of (part s at 28)) ≡ true
  unfolding good_request
  good-context good =
      let q = part s at 28 in
      both-second (not (eqb (user q) 0) && not (eqb (roles q) 0) && not (eqb (operation q) 0) && not (eqb (target q) 0)) (good_context (context_of q)) good

  -- it fits a rule that has the words which the rule asks for
  pub words-fit : (r : Rule) → good_rule r ≡ true → good_request (part s at 28) ≡ true → all_below 4 (asks r (level_word s at)) ≡ fits r (part s at 28)
  words-fit r good request =
      within 4 r.depth (λ l. level_fits (r.level l) (level_word s at l % 65536) (level_word s at l / 65536)) (depth-few r good)
      ∙ all_below-same r.depth (λ l. level_fits (r.level l) (level_word s at l % 65536) (level_word s at l / 65536)) (fits_at r (part s at 28))
      (λ l b. let four : l < 4 = omega (arith, depth-few r good) in rw (type-word s at l four bytes, value-word s at l four bytes))
      ∙ sym (fits-levels r good (part s at 28) (good-context request))
