-- Squeezing a span into a buffer, byte by byte.
-- Assumes nothing.
use Prim.Native.Nat.{ℕ, suc, ◌+◌, ◌≤◌, ◌<◌}
use native.Mathlib.Omega.{arith}
use native.Mathlib.Numerals.{add-one}
use mathlib.Core.Path.{◌≡◌, refl, sym, ◌∙◌}
use mathlib.Core.Bool.{Bool, true, false, cond, not}
use mathlib.Core.List.{List, [], ◌∷◌, ◌++◌, append-nil, append_assoc}
use borrow.Author.Tests.{ltb-true, ltb-false}
use lib.Dec.{ltb}
use lib.ListN.{length, get_or, take, drop, set, length-append, length-take, length-drop, drop_of_length-le}
use lib.Seq.{take_all, take-nil, drop-cons, take-append-le, set_at, set_out, take_at}
use Rattle.words.specs.Lists.{keep}
use Rattle.word_laws.proofs.Keep.{keep-more}
use Rattle.forms.specs.Form.{space, is_of}
use Rattle.xml.specs.Tags.{squeezed}
use Rattle.tags.specs.Cut.{span, laid}
use Rattle.tags.proofs.Spans.{span_more, span_none}

-- ---- a text at the front of a buffer

-- no text leaves the buffer as it is
pub laid_none : (d : List ℕ) → laid [] d ≡ d
laid_none d = rw (take-nil {A = ℕ} (length d))

-- the buffer keeps its length
pub laid-length : (t d : List ℕ) → length (laid t d) ≡ length d
laid-length t d = simp (length-append, length-take, length-drop) (omega arith)

-- one byte more: stored if there is room
pub laid_more : (t d : List ℕ) (b : ℕ) → set (laid t d) (length t) b ≡ laid (t ++ b ∷ []) d
laid_more t d b = go (ltb (length t) (length d)) refl
  where
    long : length (t ++ b ∷ []) ≡ suc (length t)
    long = rw (length-append t (b ∷ [])) (omega arith)

    go : (x : Bool) → ltb (length t) (length d) ≡ x → set (laid t d) (length t) b ≡ laid (t ++ b ∷ []) d
    go true e =
        let h : length t < length d = ltb-true (length t) (length d) e in
        let rest = drop (suc (length t)) d in
        let stored = set_at t (get_or d (length t) 0) rest b (length t) refl in
        rw (take_all (length d) t (omega arith), drop-cons d (length t) 0 h, stored, long, take_all (length d) (t ++ b ∷ []) (rw long h))
        (sym (append_assoc t (b ∷ []) rest))
    go false e =
        let h : length d ≤ length t = ltb-false (length t) (length d) e in
        set_out (laid t d) (length t) b (rw (laid-length t d) h)
        ∙ rw (take-append-le (length d) t (b ∷ []) h, drop_of_length-le d h, long, drop_of_length-le d {i = suc (length t)} (omega arith))

-- what was laid is read back where there is room
pub laid-front : (d : List ℕ) {t buffer : List ℕ} {n : ℕ} → n ≡ length t → buffer ≡ laid t d → n ≤ length d → take n buffer ≡ t
laid-front d {t} {buffer} {n} e f h = rw (f, e, take_all (length d) t (rw e at h)) (take_at t (drop (length t) d) (length t) refl)

-- ---- the turns of the loop

-- before the first byte nothing is laid
pub squeeze-start : (t d : List ℕ) (a : ℕ) → (0 ≡ length (squeezed (span t a a))) × (d ≡ laid (squeezed (span t a a)) d)
unfolding squeezed keep
squeeze-start t d a = rw (span_none t a) (refl, sym (laid_none d))

module _ (t d : List ℕ) (a i : ℕ) (h : a ≤ i) (k : i < length t) where
  -- the byte behind a span, with its white space left out
  squeezed-more : squeezed (span t a (i + 1)) ≡ squeezed (span t a i) ++ cond (not (is_of space (get_or t i 0))) (get_or t i 0 ∷ []) []
  unfolding squeezed
  squeezed-more = rw (add-one i, span_more t a i h k) (keep-more (λ b. not (is_of space b)) (span t a i) (get_or t i 0))

  -- a byte more is counted and laid, unless it is white space
  pub squeeze-more :
      (n : ℕ) (buffer : List ℕ) → n ≡ length (squeezed (span t a i)) → buffer ≡ laid (squeezed (span t a i)) d
      → (cond (is_of space (get_or t i 0)) n (n + 1) ≡ length (squeezed (span t a (i + 1))))
      × (cond (is_of space (get_or t i 0)) buffer (set buffer n (get_or t i 0)) ≡ laid (squeezed (span t a (i + 1))) d)
  squeeze-more n buffer e f = rw squeezed-more (go (is_of space (get_or t i 0)))
    where
      go :
          (w : Bool)
          → (cond w n (n + 1) ≡ length (squeezed (span t a i) ++ cond (not w) (get_or t i 0 ∷ []) []))
          × (cond w buffer (set buffer n (get_or t i 0)) ≡ laid (squeezed (span t a i) ++ cond (not w) (get_or t i 0 ∷ []) []) d)
      go true = rw (append-nil (squeezed (span t a i))) (e, f)
      go false = (
        rw (length-append (squeezed (span t a i)) (get_or t i 0 ∷ []), e) refl,
        rw (e, f) (laid_more (squeezed (span t a i)) d (get_or t i 0)),
      )
