-- A tag's text by its pieces, parted by double quotes and ended by `>`: looking for its tags gives these pieces.
-- Assumes nothing.
use Prim.Native.Nat.{ℕ}
use mathlib.Core.Path.{◌≡◌, refl, sym, ap, ◌∙◌}
use mathlib.Core.Bool.{false, not}
use mathlib.Core.List.{List, [], ◌∷◌, ◌++◌, map, append_assoc, append-nil}
use borrow.Author.Tests.{eq-eqb}
use lib.Dec.{eqb}
use Rattle.words.specs.Lists.{keep, any_of}
use Rattle.word_laws.proofs.Every.{Every, empty, more}
use Rattle.word_laws.proofs.Tests.{neither-first, neither-second}
use Rattle.word_laws.proofs.Keep.{keep_append, any_of-append}
use Rattle.forms.specs.Form.{Kind, space, is_of}
use Rattle.xml.specs.Tags.{on_first, ended, parted, squeezed, tags_in}
use Rattle.xml_laws.proofs.TextNames.{EachOf, other_byte}

-- pieces with double quotes between them, and e behind them
unfoldable pub quoted : List ℕ → List ℕ → List (List ℕ) → List ℕ
quoted e p [] = p ++ e
quoted e p (q ∷ qs) = p ++ 34 ∷ quoted e q qs

-- the text of a tag
abbrev pub closed : List ℕ → List (List ℕ) → List ℕ
closed p qs = quoted (62 ∷ []) p qs

-- what stands behind the end stands behind the whole
pub quoted-end : (e u p : List ℕ) (qs : List (List ℕ)) → quoted e p qs ++ u ≡ quoted (e ++ u) p qs
unfolding quoted
quoted-end e u p [] = append_assoc p e u
quoted-end e u p (q ∷ qs) = append_assoc p (34 ∷ quoted e q qs) u ∙ ap {B = List ℕ} (λ t. p ++ 34 ∷ t) (quoted-end e u q qs)

-- ---- looking for a byte

-- the byte is not in the text
abbrev pub Lacks : ℕ → List ℕ → Type 0
Lacks c t = any_of (λ b. eqb b c) t ≡ false

pub lacks-append : (c : ℕ) (t u : List ℕ) → Lacks c t → Lacks c u → Lacks c (t ++ u)
lacks-append c t u g h = any_of-append (λ b. eqb b c) t u ∙ rw (g, h)

-- a text of one kind lacks every byte of another
pub lacks-other : (q : Kind) (c : ℕ) {t : List ℕ} → is_of q c ≡ false → EachOf q t → Lacks c t
unfolding any_of
lacks-other q c e empty = refl
lacks-other q c e (more {x = b} h r) = rw (other_byte q b c h e) (lacks-other q c e r)

-- up to the byte it is the first of the pieces that the byte ends, or parts
pub ended-first : (c : ℕ) (t u : List ℕ) → Lacks c t → ended c (t ++ c ∷ u) ≡ t ∷ ended c u
unfolding ended on_first any_of
ended-first c [] u h = rw (eq-eqb c c refl)
ended-first c (b ∷ t) u h =
    rw (neither-first (eqb b c) (any_of (λ x. eqb x c) t) h, ended-first c t u (neither-second (eqb b c) (any_of (λ x. eqb x c) t) h))

pub parted-first : (c : ℕ) (t u : List ℕ) → Lacks c t → parted c (t ++ c ∷ u) ≡ t ∷ parted c u
unfolding parted on_first any_of
parted-first c [] u h = rw (eq-eqb c c refl)
parted-first c (b ∷ t) u h =
    rw (neither-first (eqb b c) (any_of (λ x. eqb x c) t) h, parted-first c t u (neither-second (eqb b c) (any_of (λ x. eqb x c) t) h))

-- without the byte there is one piece
pub parted-last : (c : ℕ) (t : List ℕ) → Lacks c t → parted c t ≡ t ∷ []
unfolding parted on_first any_of
parted-last c [] h = refl
parted-last c (b ∷ t) h =
    rw (neither-first (eqb b c) (any_of (λ x. eqb x c) t) h, parted-last c t (neither-second (eqb b c) (any_of (λ x. eqb x c) t) h))

-- ---- the pieces of a tag

-- neither a double quote nor `>` is in a piece
abbrev pub Plain : List ℕ → Type 0
Plain p = Lacks 34 p × Lacks 62 p

-- double quotes part the pieces
parted-quoted : (p : List ℕ) (qs : List (List ℕ)) → Plain p → Every Plain qs → parted 34 (quoted [] p qs) ≡ p ∷ qs
unfolding quoted
parted-quoted p [] h empty = rw (append-nil p) (parted-last 34 p h.0)
parted-quoted p (q ∷ qs) h (more g r) = parted-first 34 p (quoted [] q qs) h.0 ∙ ap {B = List (List ℕ)} (λ l. p ∷ l) (parted-quoted q qs g r)

-- `>` ends them
quoted-lacks : (p : List ℕ) (qs : List (List ℕ)) → Plain p → Every Plain qs → Lacks 62 (quoted [] p qs)
unfolding quoted any_of
quoted-lacks p [] h empty = rw (append-nil p) h.1
quoted-lacks p (q ∷ qs) h (more g r) = lacks-append 62 p (34 ∷ quoted [] q qs) h.1 (quoted-lacks q qs g r)

-- squeezing squeezes each piece
squeezed-quoted : (p : List ℕ) (qs : List (List ℕ)) → squeezed (closed p qs) ≡ closed (squeezed p) (map squeezed qs)
unfolding quoted squeezed keep is_of
squeezed-quoted p [] = keep_append (λ b. not (is_of space b)) p (62 ∷ [])
squeezed-quoted p (q ∷ qs) =
    keep_append (λ b. not (is_of space b)) p (34 ∷ closed q qs) ∙ ap {B = List ℕ} (λ t. squeezed p ++ 34 ∷ t) (squeezed-quoted q qs)

-- so the first of a text's tags is in the pieces that it was made of, squeezed
pub tag-first : (p : List ℕ) (qs : List (List ℕ)) (u : List ℕ) → Plain (squeezed p) → Every Plain (map squeezed qs)
    → tags_in (closed p qs ++ u) ≡ map squeezed (p ∷ qs) ∷ tags_in u
unfolding tags_in squeezed
tag-first p qs u h r =
    let v = squeezed u in
    let sp = squeezed p in
    let sq = map squeezed qs in
    let whole : squeezed (closed p qs ++ u) ≡ quoted [] sp sq ++ 62 ∷ v =
    keep_append (λ b. not (is_of space b)) (closed p qs) u
    ∙ rw (squeezed-quoted p qs, quoted-end (62 ∷ []) v sp sq) (sym (quoted-end [] (62 ∷ v) sp sq)) in
    rw (whole, ended-first 62 (quoted [] sp sq) v (quoted-lacks sp sq h r), parted-quoted sp sq h r)
