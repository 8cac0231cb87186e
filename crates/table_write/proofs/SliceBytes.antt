-- The elements of a slice of bytes are bytes.
-- Assumes nothing.
use Prim.Native.Nat.{ℕ, suc}
use mathlib.Core.List.{List, [], ◌∷◌}
use lib.ListN.{get_or}
use mir.Syntax.{w8}
use mir.Val.{Fits}
use Rattle.word_laws.proofs.Every.{Every, empty, more}
use Rattle.word_laws.proofs.Bytes.{Byte}

-- from what the borrow checker knows of a slice, `c.slice-known.given` or `c.shared-slice-known.given`
pub slice-bytes : (s : List ℕ) → ((i : ℕ) → Fits w8 (get_or s i 0)) → Every Byte s
slice-bytes [] h = empty
slice-bytes (x ∷ s) h = more (h 0).fits (slice-bytes s (λ i. h (suc i)))
