-- What the scanners of pieces say: a word, bytes of a kind and what stands behind them, one piece and then another.
-- Assumes nothing.
use Prim.Native.Nat.{ℕ, ◌+◌, ◌≤◌, ◌<◌}
use native.Mathlib.Omega.{arith}
use mathlib.Core.Path.{◌≡◌, refl, sym, subst, ◌∙◌}
use mathlib.Core.Bool.{false, ◌&&◌, and_assoc, false≢true}
use mathlib.Core.List.{List, [], ◌∷◌}
use borrow.Author.Tests.{ne_eqb}
use lib.ListN.{length, drop, get_or}
use Rattle.std.specs.Prelude.{Result, Ok, Err}
use Rattle.forms.specs.Form.{Kind, is_of, Form, nothing, blank, one, ◌then◌, ◌or◌, many, may_end, hopeless, joined, bytes}
use Rattle.forms.specs.Run.{common}
use Rattle.forms.proofs.Laws.{joined-assoc, hopeless-joined}
use Rattle.forms.proofs.Runs.{common-fits, left_word}
use Rattle.xml.specs.Grammar.{◌▸◌}
use Rattle.reader.specs.Scan.{run_end, RunsOn, Found, Scans}
use Rattle.reader.specs.declared.misfit.Misfit.{Misfit}
use Rattle.reader.proofs.Scans.{took, stopped, goes-found}
use Rattle.reader.proofs.Steps.{Apart, goes-many, runs_some, runs-none, goes-word, stops-word}

-- f and then g have a text if both have
pub hope-then : (f g : Form) → hopeless f ≡ false → hopeless g ≡ false → hopeless (f ▸ g) ≡ false
hope-then f g h i = hopeless-joined f g ∙ rw (h, i)

-- and may end if both may
pub ends-then : (f g : Form) → may_end (f ▸ g) ≡ may_end f && may_end g
unfolding may_end joined
ends-then nothing g = refl
ends-then blank g = refl
ends-then (one q) g = refl
ends-then (f then h) g = rw (ends-then f (joined h g), ends-then h g, and_assoc (may_end f) (may_end h) (may_end g))
ends-then (f or h) g = refl
ends-then (many f) g = refl

module _ {t : List ℕ} {a : ℕ} where
  -- ---- one piece and then another

  -- the first took
  pub scans-then : (f g : Form) {b : ℕ} {r : Result ℕ Misfit} → hopeless g ≡ false → Scans f t a (Ok b) → Scans g t b r → Scans (f ▸ g) t a r
  scans-then f g {r = r} h p q k hope =
      subst (λ s. Found s t a r k) (sym (joined-assoc f g k))
      (goes-found (f ▸ g ▸ k) (g ▸ k) k (p (g ▸ k) (hope-then g k h hope)).took.0 (q k hope))

  -- the first stopped
  pub scans-stops : (f g : Form) {m : Misfit} → hopeless g ≡ false → Scans f t a (Err m) → Scans (f ▸ g) t a (Err m)
  scans-stops f g h p k hope = rw (joined-assoc f g k) (stopped (f ▸ g ▸ k) k (p (g ▸ k) (hope-then g k h hope)).stopped)

  -- what was taken is a byte at least, and ends in the text
  pub scans-past : (f : Form) {b : ℕ} → Scans f t a (Ok b) → a < b
  unfolding hopeless
  scans-past f p = (p blank refl).took.1

  pub scans-fit : (f : Form) {b : ℕ} → Scans f t a (Ok b) → b ≤ length t
  unfolding hopeless
  scans-fit f p = (p blank refl).took.0.fits

  -- ---- a word

  module _ (w : List ℕ) (n : ℕ) (fit : a ≤ length t) (e : n ≡ common w (drop a t)) where
    pub scans-word : 1 ≤ length w → n ≡ length w → Scans (bytes w) t a (Ok (a + n))
    scans-word some whole k hope = took (bytes w ▸ k) k (rw whole (goes-word w k fit (sym e ∙ whole) hope)) (omega arith)

    pub scans-part : (n ≡ length w → ⊥) → Scans (bytes w) t a (Err (record { 0 = a + n }))
    scans-part part k hope = let l = common-fits w (drop a t) in stopped (bytes w ▸ k) k (rw e (stops-word w k (omega arith) hope))

  -- ---- bytes of a kind in front

  module _ (q : Kind) (g : Form) {r : Result ℕ Misfit} (other : (k : Form) → Apart q (g ▸ k)) (h : hopeless g ≡ false) (fit : a ≤ length t) where
    pub scans-many : Scans g t (run_end q t a) r → Scans (many (one q) ▸ g) t a r
    unfolding joined
    scans-many p k hope = goes-found (many (one q) ▸ g ▸ k) (g ▸ k) k (goes-many q (g ▸ k) (other k) (hope-then g k h hope) fit) (p k hope)

    pub scans-some : {b : ℕ} → RunsOn q t a (Ok b) → Scans g t b r → Scans (one q ▸ many (one q) ▸ g) t a r
    unfolding joined
    scans-some some p k hope =
        goes-found (one q ▸ many (one q) ▸ g ▸ k) (g ▸ k) k (runs_some q (g ▸ k) (other k) (hope-then g k h hope) fit some) (p k hope)

  -- there is none of them
  pub scans-none : (q : Kind) (g : Form) {m : Misfit} → RunsOn q t a (Err m) → Scans (one q ▸ g) t a (Err m)
  unfolding joined
  scans-none q g p k hope = stopped (one q ▸ g ▸ k) k (runs-none q (g ▸ k) p)

-- a word has a text
pub word-hope : (w : List ℕ) → hopeless (bytes w) ≡ false
unfolding hopeless bytes joined
word-hope [] = refl
word-hope (c ∷ w) = word-hope w

-- a word in front of k begins with no byte of a kind that its first is not of
pub word-apart : (q : Kind) (w : List ℕ) (k : Form) → 1 ≤ length w → is_of q (get_or w 0 0) ≡ false → Apart q (bytes w ▸ k)
word-apart q [] k l e b h = absurd (omega arith)
word-apart q (c ∷ w) k l e b h = left_word c w k b ∙ rw (ne_eqb b c (λ d. false≢true (sym e ∙ rw (← d) h)))
