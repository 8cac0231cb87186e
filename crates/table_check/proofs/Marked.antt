-- The marks of a record, each tested by a test of its rule: they are good exactly where the test passes, if it says which rules the context fits. The
-- bounds of rules are such a test, and so are the shapes of rules without a range.
-- Assumes nothing.
use Prim.Native.Nat.{ℕ, ◌+◌, ◌*◌, ◌<◌}
use native.Mathlib.Omega.{arith}
use mathlib.Core.Path.{◌≡◌, refl, sym, ap, ap₂, ◌∙◌}
use mathlib.Core.Bool.{Bool, Bool-set, true, false, not, ◌&&◌, ◌||◌, and-true, and-false}
use mathlib.Core.List.{List}
use mathlib.Core.Option.{none}
use Rattle.std.proofs.Math.Logic.{∥∥₁_elim}
use Rattle.std.specs.Borrow.{Bor}
use lib.ListN.{length, get_or}
use lib.Dec.{eqb, ltb}
use borrow.Author.Tests.{ltb-true}
use Rattle.words.specs.Bytes.{u32_at, part, bit}
use Rattle.word_laws.proofs.Bytes.{Byte}
use Rattle.word_laws.proofs.Tests.{all_below-at, all_below-true, all_below-same}
use Rattle.format.specs.Request.{good_request}
use Rattle.format.specs.Fits.{fits}
use Rattle.format.specs.Rule.{good_rule}
use Rattle.format.specs.Policy.{Policy, policy_fault, policy_of, rule_count}
use Rattle.format_laws.proofs.AcceptedPolicy.{rule-good}
use Rattle.format.specs.Table.{good_marks, good_record}
use Rattle.format.specs.Records.{record_from}
use Rattle.rule_tests.specs.declared.shapes.Shape.{Shape}
use Rattle.rule_tests.specs.declared.bounds.Bound.{Bound}
use Rattle.rule_tests.specs.declared.tests.By.TheVariants.{Shapes as ByShapes, Bounds as ByBounds}
use Rattle.rule_tests.specs.Shapes.{paired, levels_of, no_shape, shape_fits, marks_within, marks_pass}
use Rattle.rule_tests.specs.Bounds.{no_bound, bound_fits}
use Rattle.rule_tests.specs.Tests.{Made}
use Rattle.rule_tests.proofs.GoodLevels.{level_word}
use Rattle.rule_tests.proofs.Fitting.{shaped}
use Rattle.rule_tests.proofs.Bounded.{bounded}

module _ (p : Policy) (rules : ℕ) (count : rules ≡ p.rules) (s : List ℕ) (at : ℕ) where
  abbrev m : ℕ
  m = u32_at s (at + 28)

  abbrev fit : ℕ → Bool
  fit i = fits (p.rule i) (part s at 28)

  -- a mark for a rule that there is not
  pub marks-outside : marks_within rules m ≡ false → good_marks p (record_from s at) ≡ false
  unfolding marks_within good_marks
  marks-outside outside = go (good_marks p (record_from s at)) refl
    where
      of-rule : (b l f : Bool) → not b || (l && f) ≡ true → not b || l ≡ true
      of-rule false l f h = refl
      of-rule true true f h = refl
      of-rule true false f h = h

      go : (g : Bool) → good_marks p (record_from s at) ≡ g → g ≡ false
      go true e =
          sym (all_below-true 32 (λ i. not (bit i m) || ltb i rules)
          (λ i h. ap (λ (n : ℕ). not (bit i m) || ltb i n) count ∙ of-rule (bit i m) (ltb i p.rules) (fit i) (all_below-at 32 i (λ j. not (bit j m) || (ltb j p.rules && fit j)) e h)))
          ∙ outside
      go false e = refl

  module _ (within : marks_within rules m ≡ true) (test : ℕ → Bool) where
    -- a mark that is set is for a rule that there is
    is-rule : (i : ℕ) → i < 32 → bit i m ≡ true → ltb i rules ≡ true
    unfolding marks_within
    is-rule i h e = rw e at (all_below-at 32 i (λ j. not (bit j m) || ltb j rules) within h)

    pub marks-same : ((i : ℕ) → i < rules → test i ≡ fit i) → marks_pass test m ≡ good_marks p (record_from s at)
    unfolding good_marks
    marks-same same = all_below-same 32 (λ i. not (bit i m) || test i) (λ i. not (bit i m) || (ltb i p.rules && fit i)) (λ i h. go i h (bit i m) refl)
      where
        go : (i : ℕ) → i < 32 → (b : Bool) → bit i m ≡ b → not b || test i ≡ not b || (ltb i p.rules && fit i)
        go i h true e = let l = is-rule i h e in rw (← count, l) (same i (ltb-true i rules l))
        go i h false e = refl

-- ---- a whole record

module _ (p : Policy) (s : List ℕ) (at : ℕ) where
  pub unmarked : eqb (u32_at s (at + 28)) 0 ≡ true → false ≡ good_record p (record_from s at)
  unfolding good_record
  unmarked e = rw e (sym (and-false (good_request (part s at 28) && good_marks p (record_from s at))))

  pub bad-request : good_request (part s at 28) ≡ false → false ≡ good_record p (record_from s at)
  unfolding good_record
  bad-request e = rw e

  pub has-a-mark : eqb (u32_at s (at + 28)) 0 ≡ false → good_request (part s at 28) && good_marks p (record_from s at) ≡ good_record p (record_from s at)
  unfolding good_record
  has-a-mark e = rw e (sym (and-true (good_request (part s at 28) && good_marks p (record_from s at))))

  pub by-marks : eqb (u32_at s (at + 28)) 0 ≡ false → good_request (part s at 28) ≡ true → good_marks p (record_from s at) ≡ good_record p (record_from s at)
  unfolding good_record
  by-marks some good = rw (some, good) (sym (and-true (good_marks p (record_from s at))))

-- ---- by shapes and by bounds

-- two levels of the context at a byte, in one number
abbrev pub levels_at : List ℕ → ℕ → ℕ → ℕ
levels_at s at l = paired (level_word s at) l

pub paired-levels : (s : List ℕ) (at from l : ℕ) → from ≡ at + 12 + 4 * l → u32_at s from + 4294967296 * u32_at s (from + 4) ≡ levels_at s at l
paired-levels s at from l e = ap₂ (λ (i j : ℕ). u32_at s i + 4294967296 * u32_at s j) e (omega arith)

-- a test of two pairs of levels, as they were read
pub pass-as : (test : ℕ → ℕ → ℕ → Bool) (low high marks low' high' marks' : ℕ) → low ≡ low' → high ≡ high' → marks ≡ marks'
    → marks_pass (test low high) marks ≡ marks_pass (test low' high') marks'
pass-as test low high marks low' high' marks' e f g = rw (e, f, g)

module _ (image : List ℕ) (accepted : policy_fault image ≡ none) (rules : ℕ) (counted : rules ≡ rule_count image)
    (s : List ℕ) (at : ℕ) (bytes : (j : ℕ) → Byte (get_or s j 0)) (request : good_request (part s at 28) ≡ true)
    (within : marks_within rules (u32_at s (at + 28)) ≡ true)
  where
    abbrev p : Policy
    p = policy_of image

    good : (i : ℕ) → i < rules → good_rule (p.rule i) ≡ true
    unfolding policy_of
    good i h = rule-good image accepted i (omega (arith, counted))

    same : (test : ℕ → Bool) → ((i : ℕ) → i < rules → test i ≡ fits (p.rule i) (part s at 28)) → marks_pass test (u32_at s (at + 28)) ≡ good_marks p (record_from s at)
    unfolding policy_of
    same test e = marks-same p rules counted s at within test e

    -- without a range the shapes tell all
    pub by-shapes : (shapes : Bor (List Shape)) → ∥ Made p rules (ByShapes shapes) ∥₁
        → marks_pass (λ i. shape_fits (get_or shapes.now i no_shape) (levels_of (level_word s at))) (u32_at s (at + 28)) ≡ good_marks p (record_from s at)
    by-shapes shapes made =
        ∥∥₁_elim made (Bool-set _ _)
        (λ (of, flat). same _ (λ i h. rw (of.shape i h) (shaped (p.rule i) (flat i h) (good i h) (of.narrow i h) s at bytes request)))

    -- and with a range the bounds do
    pub by-bounds : (bounds : Bor (List Bound)) → ∥ Made p rules (ByBounds bounds) ∥₁
        → marks_pass (λ i. bound_fits (get_or bounds.now i no_bound) (levels_of (level_word s at))) (u32_at s (at + 28)) ≡ good_marks p (record_from s at)
    by-bounds bounds made =
        ∥∥₁_elim made (Bool-set _ _)
        (λ of. same _ (λ i h. rw (of.bound i h) (bounded (p.rule i) (good i h) (of.narrow i h) s at bytes request)))
