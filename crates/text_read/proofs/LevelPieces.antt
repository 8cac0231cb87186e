-- A level's text in a span: its type before the equals sign, its value behind it.
-- Assumes nothing.
use Prim.Native.Nat.{ℕ, ◌+◌, ◌≤◌}
use mathlib.Core.Path.{◌≡◌, refl, ◌∙◌}
use mathlib.Core.List.{List, []}
use lib.ListN.{length, get_or}
use Rattle.forms.specs.Form.{is_of}
use Rattle.xml.specs.Tags.{squeezed, parted}
use Rattle.tags.specs.Cut.{span, until}
use Rattle.tags.specs.Code.{value_at, NextPiece}
use Rattle.tags.specs.declared.span.Span.{Span}
use Rattle.tags.proofs.SpanPieces.{piece-first, piece-next, piece-squeezed}

module _ (t : List ℕ) (s : Span) (k : s.to ≤ length t) (sign : ℕ) (first : sign ≡ s.from + until 61 (span t s.from s.to)) where
  -- the type
  pub type-text : squeezed (span t s.from sign) ≡ get_or (parted 61 (value_at t s)) 0 []
  unfolding is_of
  type-text = rw (piece-squeezed 61 refl (span t s.from s.to) 0, piece-first 61 t s.to k s.from sign first)

  -- the value
  pub value-text : (value : Span) → NextPiece 61 t sign s.to value → value_at t value ≡ get_or (parted 61 (value_at t s)) 1 []
  unfolding is_of
  value-text value next =
      rw (
        piece-squeezed 61 refl (span t s.from s.to) 1,
        piece-next 61 t s.to k s.from sign 0 value first next ∙ piece-first 61 t s.to k value.from value.to next.ends,
      )
