-- How far a text goes in one manner, as the library counts it; no count passes the end, and one more byte that fits is still within it.
-- Assumes nothing.
use Prim.Native.Nat.{ℕ, suc, ◌+◌, ◌-◌, ◌≤◌, ◌<◌}
use native.Mathlib.Omega.{arith}
use mathlib.Core.Path.{◌≡◌, refl, sym, ap, ◌∙◌}
use mathlib.Core.Bool.{cond, false≢true, true≢false}
use mathlib.Core.List.{List, [], ◌∷◌}
use borrow.Author.Tests.{ltb-true, ltb-false}
use lib.Dec.{eqb, ltb}
use lib.ListN.{length, take, drop, get_or, length-drop}
use lib.Seq.{drop-drop, drop-cons, get_or-drop, get_or-take}
use Rattle.std.proofs.Common.{take_all}
use Rattle.std.specs.Prelude.{Bool, true, false, not, Option, Some, None, unwrap_or, zip, Ok}
use Rattle.std.specs.List.{prefix_len, position_or_len}
use Rattle.forms.specs.Form.{Kind, is_of}
use Rattle.forms.specs.Run.{run, common}
use Rattle.forms.proofs.Runs.{run-stops, run-all, run_fits, common-fits, common-fits-text, common-same, common-stops}
use Rattle.reader.specs.Scan.{run_end, RunsOn}

-- a slice up to the end is all that is left
pub behind_all : (t : List ℕ) (a : ℕ) → take (length t - a) (drop a t) ≡ drop a t
behind_all t a = take_all (length t - a) (drop a t) (let m = length-drop a t in omega arith)

-- what isn't below n, and not above it, is it
at_most : (i n : ℕ) → i ≤ n → (i < n → ⊥) → i ≡ n
at_most i n l h = go (ltb i n) refl
  where
    go : (x : Bool) → ltb i n ≡ x → i ≡ n
    go true e = absurd (h (ltb-true i n e))
    go false e = let m = ltb-false i n e in omega arith

-- and a count that is not at the end may go on
below : (i n : ℕ) → i ≤ n → (i ≡ n → ⊥) → i + 1 ≤ n
below i n l h = go (ltb i n) refl
  where
    go : (x : Bool) → ltb i n ≡ x → i + 1 ≤ n
    go true e = let m = ltb-true i n e in omega arith
    go false e = absurd (h (let m = ltb-false i n e in omega arith))

-- ---- bytes of a kind

-- the place of the first that is of another, or the length
abbrev place : Kind → List ℕ → ℕ
place q t = position_or_len (λ b. not (is_of q b)) t

place-run : (q : Kind) (t : List ℕ) → place q t ≡ run q t
unfolding run
place-run q [] = refl
place-run q (b ∷ t) = go (is_of q b) (place-run q t)
  where
    go : (x : Bool) → place q t ≡ run q t → cond (not (not x)) (1 + place q t) 0 ≡ cond x (suc (run q t)) 0
    go true h = omega (arith, h)
    go false h = refl

-- as the library finds it
pub run-found : (q : Kind) (t : List ℕ) (r : Option ℕ) → r ≡ cond (ltb (place q t) (length t)) (Some (place q t)) None → unwrap_or r (length t) ≡ run q t
run-found q t r e = rw e (go (ltb (place q t) (length t)) refl)
  where
    go : (x : Bool) → ltb (place q t) (length t) ≡ x → unwrap_or (cond x (Some (place q t)) None) (length t) ≡ run q t
    go true d = place-run q t
    go false d = let l = ltb-false _ _ d in let m = run_fits q t in omega (arith, place-run q t)

pub end_fits : (q : Kind) (t : List ℕ) (a : ℕ) → a ≤ length t → run_end q t a ≤ length t
end_fits q t a fit = let l = run_fits q (drop a t) in let m = length-drop a t in omega arith

pub some_fits : (q : Kind) (t : List ℕ) (a b : ℕ) → a ≤ length t → RunsOn q t a (Ok b) → b ≤ length t
some_fits q t a b fit p = rw p.some.0 (end_fits q t a fit)

module _ (q : Kind) (t : List ℕ) (a : ℕ) where
  -- the byte at the end is not of the kind
  pub end-stops : run_end q t a < length t → is_of q (get_or t (run_end q t a) 0) ≡ false
  end-stops l =
      run-stops q (drop a t) (get_or t (run_end q t a) 0) (drop (suc (run_end q t a)) t)
      (drop-drop (run q (drop a t)) a t ∙ drop-cons t (run_end q t a) 0 l)

  module _ (i : ℕ) (up : a ≤ i) (l : i ≤ run_end q t a) where
    -- bytes before the end are
    end-all : i < run_end q t a → is_of q (get_or t i 0) ≡ true
    end-all h =
        let e : a + (i - a) ≡ i = omega arith in
        rw (get_or-drop, e) at (run-all q (drop a t) (i - a) (omega arith))

    pub end_more : i < length t → is_of q (get_or t i 0) ≡ true → i + 1 ≤ run_end q t a
    end_more h e = below i (run_end q t a) l (λ d. false≢true (sym (end-stops (rw (← d) h)) ∙ rw (← d) e))

    pub end-here : a ≤ length t → (i < length t → is_of q (get_or t i 0) ≡ false) → i ≡ run_end q t a
    end-here fit e = at_most i (run_end q t a) l (λ h. true≢false (sym (end-all h) ∙ e (let m = end_fits q t a fit in omega arith)))

-- ---- bytes of a word

pub common-prefix : (w t : List ℕ) → prefix_len (λ p. eqb p.0 p.1) (zip t w) ≡ common w t
unfolding common
common-prefix [] [] = refl
common-prefix [] (b ∷ t) = refl
common-prefix (c ∷ w) [] = refl
common-prefix (c ∷ w) (b ∷ t) =
    let e : 1 + prefix_len (λ p. eqb p.0 p.1) (zip t w) ≡ suc (common w t) = omega (arith, common-prefix w t) in ap (λ n. cond (eqb b c) n 0) e

pub common-end : (w t : List ℕ) (a : ℕ) → a ≤ length t → a + common w (drop a t) ≤ length t
common-end w t a fit = let n = common-fits-text w (drop a t) in let long = length-drop a t in omega arith

pub common-more : (w t : List ℕ) (a i : ℕ) → i ≤ common w (drop a t) → i < length w → i < length t - a → get_or t (a + i) 0 ≡ get_or w i 0
    → i + 1 ≤ common w (drop a t)
common-more w t a i l h g e =
    let other : i ≡ common w (drop a t) → ⊥ = λ d. common-stops w (drop a t) (rw (← d) h) (rw (← d, length-drop a t) g) (rw (← d, get_or-drop a t i 0) e) in
    omega arith

-- a count that cannot go on is there
module _ (w t : List ℕ) (a i : ℕ) (l : i ≤ common w (drop a t)) where
  pub common-here : (i < length w → i < length t - a → get_or t (a + i) 0 ≡ get_or w i 0 → ⊥) → i ≡ common w (drop a t)
  common-here e =
      let u = drop a t in
      at_most i (common w u) l
      (λ h.
      let m = common-fits w u in
      let n = common-fits-text w u in
      let long = length-drop a t in
      let same : get_or u i 0 ≡ get_or w i 0 =
      sym (get_or-take (common w u) u i 0 h) ∙ ap (λ v. get_or v i 0) (common-same w u) ∙ get_or-take (common w u) w i 0 h in
      e (omega arith) (omega arith) (rw (← get_or-drop a t i 0) same))
