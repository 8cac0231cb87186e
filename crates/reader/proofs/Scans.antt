-- Scanners one after another.
-- Assumes nothing.
use Prim.Native.Nat.{ℕ, ◌<◌}
use native.Mathlib.Omega.{arith}
use native.Mathlib.Nat.{le_trans}
use mathlib.Core.Path.{◌≡◌, ◌∙◌}
use mathlib.Core.List.{List}
use Rattle.std.specs.Prelude.{Result, Ok, Err, IsErrAnd}
use Rattle.std.proofs.lemmas.Result.{err_from_is_err_and}
use Rattle.forms.specs.Form.{Form}
use Rattle.reader.specs.Scan.{Goes, Stops, Found}
use Rattle.reader.specs.declared.misfit.Misfit.{Misfit}

-- a `?` gives on the error that it was given
pub given_on : {A : Type 0} {r : Result A Misfit} {m : Misfit} → IsErrAnd r (λ e. e ≡ m) → r ≡ Err m
given_on {r = r} h = let p = err_from_is_err_and r h in rw (p.1, p.2)

module _ {t : List ℕ} {a : ℕ} (f g : Form) where
  pub took : {b : ℕ} → Goes f t a g b → a < b → Found f t a (Ok b) g
  took p l = record { took = (p, l); stopped = tt }

  pub stopped : {m : Misfit} → Stops f t a m.0 → Found f t a (Err m) g
  stopped p = record { took = tt; stopped = p }

module _ {t : List ℕ} {a b : ℕ} where
  pub goes_on : {c : ℕ} (f g h : Form) → Goes f t a g b → Goes g t b h c → Goes f t a h c
  goes_on f g h p q =
      record { upwards = le_trans p.upwards q.upwards; fits = q.fits; reaches = p.reaches ∙ q.reaches; same = p.same ∙ q.same }

  pub goes-stops : {c : ℕ} (f g : Form) → Goes f t a g b → Stops g t b c → Stops f t a c
  goes-stops f g p q = record { stops = p.reaches ∙ q.stops; never = p.same ∙ q.never }

  pub goes-found : (f g h : Form) {r : Result ℕ Misfit} → Goes f t a g b → Found g t b r h → Found f t a r h
  goes-found f g h {r = Ok c} p q = let up = p.upwards in took f h (goes_on f g h p q.took.0) (omega (arith, q.took.1))
  goes-found f g h {r = Err m} p q = stopped f h (goes-stops f g p q.stopped)

  -- the first of two took, and the second took or not
  pub found-then : (f g h : Form) {r : Result ℕ Misfit} → Found f t a (Ok b) g → Found g t b r h → Found f t a r h
  found-then f g h p q = goes-found f g h p.took.0 q

-- what stopped, stopped whatever it would have gone on with
pub found-else : {t : List ℕ} {a : ℕ} {m : Misfit} (f g h : Form) → Found f t a (Err m) g → Found f t a (Err m) h
found-else f g h p = stopped f h p.stopped
