-- What a scanner finds in a text t from byte a on, where f is the form of all that may follow there.
-- Assumes nothing.
use Rattle.std.specs.Prelude.{ℕ, ◌+◌, ◌≤◌, ◌<◌, ◌≡◌, false, List, length, drop, Result, IfOk, IfErr}
use Rattle.forms.specs.Form.{Kind, Form, hopeless, is_of_form, reach}
use Rattle.forms.specs.Run.{run}
use Rattle.xml.specs.Grammar.{◌▸◌}
use Rattle.reader.specs.declared.misfit.Misfit.{Misfit}

-- where the bytes of a kind end that stand at a
abbrev pub run_end : Kind → List ℕ → ℕ → ℕ
run_end q t a = a + run q (drop a t)

-- the same where one stands there at least, or there is none
pub record RunsOn (q : Kind) (t : List ℕ) (a : ℕ) (r : Result ℕ Misfit) : Type 0 where
  pub some : IfOk r (λ b. (b ≡ run_end q t a) × (a < b))
  pub none : IfErr r (λ m. (m.0 ≡ a) × (run_end q t a ≡ a))

-- it may go on from b with g: from there on the same byte is the first bad one, and the text is whole or not all the same
pub record Goes (f : Form) (t : List ℕ) (a : ℕ) (g : Form) (b : ℕ) : Type 0 where
  pub upwards : a ≤ b
  pub fits : b ≤ length t
  pub reaches : a + reach f (drop a t) ≡ b + reach g (drop b t)
  pub same : is_of_form f (drop a t) ≡ is_of_form g (drop b t)

-- byte b is the first bad one, and the text from a on is none of the form
pub record Stops (f : Form) (t : List ℕ) (a b : ℕ) : Type 0 where
  pub stops : a + reach f (drop a t) ≡ b
  pub never : is_of_form f (drop a t) ≡ false

-- the one, past a byte at least, or the other
pub record Found (f : Form) (t : List ℕ) (a : ℕ) (r : Result ℕ Misfit) (g : Form) : Type 0 where
  pub took : IfOk r (λ b. Goes f t a g b × (a < b))
  pub stopped : IfErr r (λ m. Stops f t a m.0)

-- a text of f, and the form of all that may follow stands behind it, whatever it is
abbrev pub Scans : Form → List ℕ → ℕ → Result ℕ Misfit → Type 0
Scans f t a r = (k : Form) → hopeless k ≡ false → Found (f ▸ k) t a r k

-- what f begins with, and g is the rest of f
abbrev pub Leads : Form → Form → List ℕ → ℕ → Result ℕ Misfit → Type 0
Leads f g t a r = (k : Form) → hopeless k ≡ false → Found (f ▸ k) t a r (g ▸ k)
