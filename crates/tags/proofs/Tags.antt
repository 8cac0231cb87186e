-- The tags of a span, one after the other.
-- Assumes nothing.
use Prim.Native.Nat.{ℕ, suc, ◌+◌, ◌≤◌, ◌<◌}
use native.Mathlib.Omega.{arith}
use mathlib.Core.Path.{◌≡◌, refl, ◌∙◌}
use mathlib.Core.List.{List, [], ◌∷◌, map}
use lib.ListN.{length}
use Rattle.forms.specs.Form.{is_of}
use Rattle.xml.specs.Tags.{squeezed, ended, parted, tags_in, tag_of}
use Rattle.tags.specs.Cut.{span, until}
use Rattle.tags.proofs.Spans.{span-length}
use Rattle.tags.proofs.SpanPieces.{cut-span}
use Rattle.tags.proofs.Pieces.{ended-more, ended-none, ended-squeezed}

module _ (t : List ℕ) (a b : ℕ) (k : b ≤ length t) (e : ℕ) (end : e ≡ a + until 62 (span t a b)) where
  -- up to the first `>` stands a tag, behind it the others
  pub ended-span : e < b → ended 62 (squeezed (span t a b)) ≡ squeezed (span t a e) ∷ ended 62 (squeezed (span t (suc e) b))
  unfolding is_of
  ended-span = cut-span 62 t a b k e end (ended 62) (ended-squeezed 62 refl) (ended-more 62)

  -- without a `>` there is none
  pub ended-span-none : b ≤ e → ended 62 (squeezed (span t a b)) ≡ []
  unfolding is_of
  ended-span-none h =
      ended-squeezed 62 refl (span t a b) ∙ rw (ended-none 62 (span t a b) (rw (span-length t a b k) (omega arith)))

  -- so what the tags say goes on tag by tag
  pub tags-more : e < b → map tag_of (tags_in (span t a b)) ≡ tag_of (parted 34 (squeezed (span t a e))) ∷ map tag_of (tags_in (span t (suc e) b))
  unfolding tags_in
  tags-more h = rw (ended-span h)

  pub tags-none : b ≤ e → map tag_of (tags_in (span t a b)) ≡ []
  unfolding tags_in
  tags-none h = rw (ended-span-none h)
