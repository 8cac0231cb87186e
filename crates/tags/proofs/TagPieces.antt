-- The pieces of a tag that stands in a span, and what they say.
-- Assumes nothing.
use Prim.Native.Nat.{ℕ, ◌+◌, ◌≤◌}
use mathlib.Core.Path.{◌≡◌, refl, sym, ◌∙◌}
use mathlib.Core.List.{List}
use lib.ListN.{length}
use Rattle.forms.specs.Form.{is_of}
use Rattle.xml.specs.Tags.{squeezed, parted, tag_of}
use Rattle.tags.specs.Cut.{span, until}
use Rattle.tags.specs.Rows.{row_of, said_by}
use Rattle.tags.specs.Code.{value_at, NextPiece}
use Rattle.tags.specs.declared.span.Span.{Span}
use Rattle.tags.proofs.SpanPieces.{piece-first, piece-next, piece-squeezed}
use Rattle.tags.proofs.RowLaws.{saying-row}

module _ (t : List ℕ) (b : ℕ) (k : b ≤ length t) where
  -- a tag says what its first piece's row says with the second and the fourth
  pub tag-said :
      (a quote : ℕ) (one between two : Span) → quote ≡ a + until 34 (span t a b)
      → NextPiece 34 t quote b one → NextPiece 34 t one.to b between → NextPiece 34 t between.to b two
      → said_by (row_of (squeezed (span t a quote))) (value_at t one) (value_at t two) ≡ tag_of (parted 34 (squeezed (span t a b)))
  unfolding tag_of is_of
  tag-said a quote one between two first p q r =
      let first_piece = piece-first 34 t b k in
      let next-piece = piece-next 34 t b k in
      let squeezed-piece = piece-squeezed 34 refl (span t a b) in
      let head = first_piece a quote first in
      let value = next-piece a quote 0 one first p ∙ first_piece one.from one.to p.ends in
      let other =
      next-piece a quote 2 one first p
      ∙ next-piece one.from one.to 1 between p.ends q
      ∙ next-piece between.from between.to 0 two q.ends r
      ∙ first_piece two.from two.to r.ends in
      rw (squeezed-piece 0, squeezed-piece 1, squeezed-piece 3, head, value, other)
      (sym (saying-row (squeezed (span t a quote)) (value_at t one) (value_at t two)))
