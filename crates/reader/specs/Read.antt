-- What a reader finds of the next tag, and of a whole text.
-- Assumes nothing.
use Rattle.std.specs.Prelude.{ℕ, ◌≤◌, ◌<◌, ◌≡◌, true, false, List, length, Result, Ok, Err, ⊤}
use Rattle.forms.specs.Form.{Form, is_of_form, reach}
use Rattle.reader.specs.Table.{states, ahead}
use Rattle.reader.specs.Scan.{Goes, Stops}
use Rattle.reader.specs.declared.misfit.Misfit.{Misfit}
use Rattle.reader.specs.declared.reading.Tag.{Tag}

-- in state s, from byte a on, a tag that leads to another state, and its end
pub record Passes (s : ℕ) (t : List ℕ) (a : ℕ) (r : Tag) : Type 0 where
  pub goes : Goes (ahead s) t a (ahead r.state) r.at
  pub past : a < r.at
  pub state : r.state < states

-- such a tag; or none, and the first bad byte
abbrev pub Reads : ℕ → List ℕ → ℕ → Result Tag Misfit → Type 0
Reads s t a (Ok r) = Passes s t a r
Reads s t a (Err m) = Stops (ahead s) t a m.0

-- of a place in the text, and a state in which a tag may stand
abbrev pub ReadsTag : ℕ → List ℕ → ℕ → Result Tag Misfit → Type 0
ReadsTag s t a r = a ≤ length t → s < 7 → Reads s t a r

-- the text is of the form, which it has to its end; or it is none, and this byte is the first that the form does not have
abbrev pub Reached : Form → List ℕ → Result ⊤ Misfit → Type 0
Reached f t (Ok _) = (is_of_form f t ≡ true) × (reach f t ≡ length t)
Reached f t (Err m) = (is_of_form f t ≡ false) × (reach f t ≡ m.0)
