-- The steps that scanners are made of: bytes of a kind, a word, one byte.
-- Assumes nothing.
use Prim.Native.Nat.{ℕ, suc, ◌+◌, ◌-◌, ◌≤◌, ◌<◌}
use native.Mathlib.Omega.{arith}
use mathlib.Core.Path.{◌≡◌, refl, sym, ap, subst, ◌∙◌}
use mathlib.Core.Bool.{Bool, true, false}
use mathlib.Core.List.{List, [], ◌∷◌, ◌++◌}
use borrow.Author.Tests.{eq-eqb, ltb-true, ltb-false}
use lib.Dec.{ltb}
use lib.ListN.{length, take, drop, get_or, take-append-drop, length-drop, drop_of_length-le}
use lib.Seq.{drop-drop, drop-cons}
use Rattle.std.specs.Prelude.{Result, Ok, Err}
use Rattle.forms.specs.Form.{Kind, is_of, Form, nothing, one, many, may_end, hopeless, joined, bytes, left, lefts, is_of_form, reach}
use Rattle.forms.specs.Run.{run, common}
use Rattle.forms.proofs.Laws.{hopeless-goes-on, hopeless-left, lefts-++, reach-took}
use Rattle.forms.proofs.Sequence.{left_one}
use Rattle.forms.proofs.Runs.{run-stops, run-all, run_fits, run-induction, many-past, many-same, run-reach, common-induction, common-fits-text, common-same, common-reach, left_word}
use Rattle.xml.specs.Grammar.{◌▸◌}
use Rattle.reader.specs.Scan.{run_end, RunsOn, Goes, Stops, Found}
use Rattle.reader.specs.declared.misfit.Misfit.{Misfit}
use Rattle.reader.proofs.Scans.{took, stopped, goes_on}

-- bytes after which there is hope
pub goes_after : (f : Form) (w : List ℕ) {t : List ℕ} {a : ℕ} → a + length w ≤ length t → take (length w) (drop a t) ≡ w → hopeless (lefts f w) ≡ false
    → Goes f t a (lefts f w) (a + length w)
unfolding is_of_form
goes_after f w {t} {a} fit front hope =
    let u = drop a t in
    let whole : u ≡ w ++ drop (a + length w) t = sym (take-append-drop (length w) u) ∙ rw (front, drop-drop (length w) a t) in
    let r : reach f u ≡ length w + reach (lefts f w) (drop (a + length w) t) = ap (reach f) whole ∙ reach-took f w (drop (a + length w) t) hope in
    record {
      upwards = omega arith;
      fits = fit;
      reaches = rw r (omega arith);
      same = ap (λ v. may_end (lefts f v)) whole ∙ ap may_end (lefts-++ f w (drop (a + length w) t));
    }

-- the bytes of a word that is all there
pub goes-lefts : (f : Form) (w : List ℕ) {t : List ℕ} {a : ℕ} → a ≤ length t → common w (drop a t) ≡ length w → hopeless (lefts f w) ≡ false
    → Goes f t a (lefts f w) (a + length w)
goes-lefts f w {t} {a} fit e hope =
    let u = drop a t in
    let long : length u ≡ length t - a = length-drop a t in
    let m = common-fits-text w u in
    goes_after f w (omega arith) (sym (ap (λ n. take n u) e) ∙ common-same w u ∙ ap (λ n. take n w) e ∙ all w) hope
  where
    all : (w : List ℕ) → take (length w) w ≡ w
    all [] = refl
    all (c ∷ w) = ap (λ v. c ∷ v) (all w)

-- ---- the next byte

-- no text is of a hopeless form
pub hopeless-form : (f : Form) (t : List ℕ) → hopeless f ≡ true → is_of_form f t ≡ false
unfolding is_of_form lefts
hopeless-form f [] h = hopeless-goes-on f h
hopeless-form f (b ∷ t) h = hopeless-form (left f b) t (hopeless-left f b h)

module _ (f : Form) {t : List ℕ} {a : ℕ} where
  -- f and g leave the same after it
  pub goes-same-byte : (g : Form) → a < length t → left f (get_or t a 0) ≡ left g (get_or t a 0) → Goes f t a g a
  unfolding is_of_form lefts reach
  goes-same-byte g l s =
      let d = drop-cons t a 0 l in record { upwards = omega arith; fits = omega arith; reaches = rw (d, s); same = rw d (ap (λ h. may_end (lefts h (drop (suc a) t))) s) }

  -- or there is none, and both may end or not
  pub goes_same : (g : Form) → a ≤ length t → may_end f ≡ may_end g → (a < length t → left f (get_or t a 0) ≡ left g (get_or t a 0)) → Goes f t a g a
  unfolding is_of_form lefts reach
  goes_same g fit ends e = go (ltb a (length t)) refl
    where
      go : (x : Bool) → ltb a (length t) ≡ x → Goes f t a g a
      go true l = goes-same-byte g (ltb-true a (length t) l) (e (ltb-true a (length t) l))
      go false l =
          let d = drop_of_length-le t (ltb-false a (length t) l) in
          record { upwards = omega arith; fits = fit; reaches = rw d; same = rw d ends }

  -- there is none, or it leaves no hope
  pub stops-here : may_end f ≡ false → (a < length t → hopeless (left f (get_or t a 0)) ≡ true) → Stops f t a a
  unfolding is_of_form lefts reach
  stops-here ends e = go (ltb a (length t)) refl
    where
      go : (x : Bool) → ltb a (length t) ≡ x → Stops f t a a
      go true l =
          let d = drop-cons t a 0 (ltb-true a (length t) l) in
          let s = e (ltb-true a (length t) l) in
          record { stops = rw (d, s) (omega arith); never = rw d (hopeless-form (left f (get_or t a 0)) (drop (suc a) t) s) }
      go false l =
          let d = drop_of_length-le t (ltb-false a (length t) l) in
          record { stops = rw d (omega arith); never = rw d ends }

  -- it leaves g
  pub goes-past : (g : Form) (c : ℕ) → a < length t → get_or t a 0 ≡ c → left f c ≡ g → hopeless g ≡ false → Goes f t a g (a + 1)
  unfolding is_of_form lefts reach
  goes-past g c l e s hope =
      let d = drop-cons t a 0 l in
      let n : a + 1 ≡ suc a = omega arith in
      record {
        upwards = omega arith;
        fits = omega arith;
        reaches = rw (d, e, s, hope, n) (omega arith);
        same = rw (d, e, n) (ap (λ h. may_end (lefts h (drop (suc a) t))) s);
      }

-- ---- bytes of a kind

-- k begins with no byte of the kind
abbrev pub Apart : Kind → Form → Type 0
Apart q k = (b : ℕ) → is_of q b ≡ true → left k b ≡ nothing

-- a text is of any number of them and then k if it is of k behind them
run-form : (q : Kind) (k : Form) → Apart q k → (t : List ℕ) → is_of_form (many (one q) ▸ k) t ≡ is_of_form k (drop (run q t) t)
unfolding is_of_form lefts joined may_end
run-form q k other =
    run-induction q (λ t n. is_of_form (many (one q) ▸ k) t ≡ is_of_form k (drop n t)) refl
    (λ b t e. ap (λ g. may_end (lefts g t)) (many-past q k b e))
    (λ b t e h. ap (λ g. may_end (lefts g t)) (many-same q k b e (other b e)) ∙ h)

module _ (q : Kind) (k : Form) {t : List ℕ} {a : ℕ} (other : Apart q k) (hope : hopeless k ≡ false) (fit : a ≤ length t) where
  -- any number of them in front of k
  pub goes-many : Goes (many (one q) ▸ k) t a k (run_end q t a)
  goes-many =
      let u = drop a t in
      let l = run_fits q u in
      let m = length-drop a t in
      record {
        upwards = omega arith;
        fits = omega arith;
        reaches = rw (run-reach q k u other hope, drop-drop (run q u) a t) (omega arith);
        same = run-form q k other u ∙ rw (drop-drop (run q u) a t);
      }

  -- one of them at least
  pub goes_some : a < run_end q t a → Goes (one q ▸ many (one q) ▸ k) t a k (run_end q t a)
  unfolding may_end joined
  goes_some l =
      let m = length-drop a t in
      let n = run_fits q (drop a t) in
      let fit' : a < length t = omega arith in
      let e : is_of q (get_or t a 0) ≡ true = rw (drop-cons t a 0 fit') at (run-all q (drop a t) 0 (omega arith)) in
      goes_on (one q ▸ many (one q) ▸ k) (many (one q) ▸ k) k
      (goes-same-byte (one q ▸ many (one q) ▸ k) (many (one q) ▸ k) fit'
      (left_one q (many (one q) ▸ k) (get_or t a 0) ∙ rw (e, many-same q k (get_or t a 0) e (other (get_or t a 0) e))))
      goes-many

-- there is none of them
pub stops-some : (q : Kind) (k : Form) {t : List ℕ} {a : ℕ} → run_end q t a ≡ a → Stops (one q ▸ k) t a a
unfolding may_end joined hopeless
stops-some q k {t} {a} e =
    stops-here (one q ▸ k) refl (λ l. rw (left_one q k (get_or t a 0), run-stops q (drop a t) (get_or t a 0) (drop (suc a) t) (rest l)))
  where
    rest : a < length t → drop (run q (drop a t)) (drop a t) ≡ get_or t a 0 ∷ drop (suc a) t
    rest l = let z : run q (drop a t) ≡ 0 = omega arith in rw z (drop-cons t a 0 l)

-- one of them at least, or none
pub runs-none : (q : Kind) (k : Form) {t : List ℕ} {a : ℕ} {m : Misfit} → RunsOn q t a (Err m) → Stops (one q ▸ k) t a m.0
runs-none q k p = rw p.none.0 (stops-some q k p.none.1)

module _ (q : Kind) (k : Form) {t : List ℕ} {a : ℕ} (other : Apart q k) (hope : hopeless k ≡ false) (fit : a ≤ length t) where
  pub runs_some : {b : ℕ} → RunsOn q t a (Ok b) → Goes (one q ▸ many (one q) ▸ k) t a k b
  runs_some p = rw p.some.0 (goes_some q k other hope fit (rw p.some.0 at p.some.1))

  pub runs-found : {r : Result ℕ Misfit} → RunsOn q t a r → Found (one q ▸ many (one q) ▸ k) t a r k
  runs-found {r = Ok b} p = took (one q ▸ many (one q) ▸ k) k (runs_some p) p.some.1
  runs-found {r = Err m} p = stopped (one q ▸ many (one q) ▸ k) k (runs-none q (many (one q) ▸ k) p)

-- ---- a word

-- after the whole of it what stands behind it is left
lefts-word : (w : List ℕ) (k : Form) → lefts (bytes w ▸ k) w ≡ k
unfolding lefts bytes joined
lefts-word [] k = refl
lefts-word (c ∷ w) k = ap (λ g. lefts g w) (left_word c w k c ∙ rw (eq-eqb c c refl)) ∙ lefts-word w k

-- a text that has not the whole of it is none
not-word : (w : List ℕ) (k : Form) (t : List ℕ) → common w t < length w → is_of_form (bytes w ▸ k) t ≡ false
unfolding is_of_form lefts bytes joined may_end hopeless
not-word w k =
    common-induction (λ w t n. n < length w → is_of_form (bytes w ▸ k) t ≡ false) (λ t l. absurd (omega arith)) (λ c w l. refl)
    (λ c w b t d l. rw (left_word c w k b, d) (hopeless-form nothing t refl))
    (λ c w b t d h l. rw (left_word c w k b, d) (h (omega arith))) w

-- a word in front of k
pub goes-word : (w : List ℕ) (k : Form) {t : List ℕ} {a : ℕ} → a ≤ length t → common w (drop a t) ≡ length w → hopeless k ≡ false
    → Goes (bytes w ▸ k) t a k (a + length w)
goes-word w k {t} {a} fit e hope = subst (λ g. Goes (bytes w ▸ k) t a g (a + length w)) (lefts-word w k) (goes-lefts (bytes w ▸ k) w fit e (rw (lefts-word w k) hope))

-- not the whole of it
pub stops-word : (w : List ℕ) (k : Form) {t : List ℕ} {a : ℕ} → common w (drop a t) < length w → hopeless k ≡ false
    → Stops (bytes w ▸ k) t a (a + common w (drop a t))
stops-word w k {t} {a} l hope = record { stops = rw (common-reach w (drop a t) k hope l); never = not-word w k (drop a t) l }
