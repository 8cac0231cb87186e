-- Two names that are apart: of two kinds, or with neither number nor text in common.
-- Assumes nothing.
use mathlib.Core.Path.{◌≡◌, sym, ap, ◌∙◌}
use mathlib.Core.Bool.{true, false, not, ◌&&◌, false≢true}
use lib.Dec.{eqb}
use borrow.Author.Tests.{eq-eqb, ne_eqb, not-true}
use Rattle.words.specs.Lists.{same_list}
use Rattle.word_laws.proofs.Tests.{both-second}
use Rattle.word_laws.proofs.Same.{same_refl}
use Rattle.xml.specs.Names.{Name, apart}

module _ (x y : Name) where
  -- names of two kinds are
  pub other-kinds : (x.kind ≡ y.kind → ⊥) → apart x y ≡ true
  unfolding apart
  other-kinds d = rw (ne_eqb x.kind y.kind d)

  module _ (k : x.kind ≡ y.kind) where
    -- of one kind, number and text decide
    by_both : apart x y ≡ not (eqb x.number y.number) && not (same_list x.bytes y.bytes)
    unfolding apart
    by_both = rw (eq-eqb x.kind y.kind k)

    -- one number: they are not
    pub same_numbers : x.number ≡ y.number → apart x y ≡ false
    same_numbers e = by_both ∙ rw (eq-eqb x.number y.number e)

    -- two numbers: the texts decide
    pub by-texts : (x.number ≡ y.number → ⊥) → apart x y ≡ not (same_list x.bytes y.bytes)
    by-texts d = by_both ∙ rw (ne_eqb x.number y.number d)

    -- names that are apart have two numbers and two texts
    pub two-numbers : apart x y ≡ true → x.number ≡ y.number → ⊥
    two-numbers a e = false≢true (sym (same_numbers e) ∙ a)

    pub two-texts : apart x y ≡ true → x.bytes ≡ y.bytes → ⊥
    two-texts a e =
        let differ = both-second (not (eqb x.number y.number)) (not (same_list x.bytes y.bytes)) (sym by_both ∙ a) in
        false≢true (sym (not-true (same_list x.bytes y.bytes) differ) ∙ ap (λ w. same_list w y.bytes) e ∙ same_refl y.bytes)
