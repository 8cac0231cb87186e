-- Which tag begins at a place: how much of each the text has there, and what a scanner finds.
-- Assumes nothing.
use Rattle.std.specs.Prelude.{ℕ, zero, suc, ◌<◌, ◌≡◌, true, cond, max, List, Result, Ok, Err}
use Rattle.forms.specs.Run.{common}
use Rattle.xml.specs.Grammar.{◌▸◌}
use Rattle.reader.specs.Words.{word}
use Rattle.reader.specs.Table.{elements, inner, ahead, rest, next, may_stand}
use Rattle.reader.specs.Scan.{Goes, Stops}
use Rattle.reader.specs.declared.misfit.Misfit.{Misfit}
use Rattle.reader.specs.declared.element.Begun.{Begun}

-- how many bytes of tag c's word a text begins with, if the tag may stand in the state
unfoldable pub share : ℕ → List ℕ → ℕ → ℕ
share s u c = cond (may_stand s c) (common (word c) u) 0

-- the most that it has of any of the first n tags
unfoldable pub longest : ℕ → List ℕ → ℕ → ℕ
longest s u zero = 0
longest s u (suc n) = max (longest s u n) (share s u n)

-- a tag that may stand in state s begins at a, and its word ends at b.at
pub record Stands (s : ℕ) (t : List ℕ) (a : ℕ) (b : Begun) : Type 0 where
  pub goes : Goes (inner s) t a (rest b.element ▸ ahead (next s b.element)) b.at
  pub past : a < b.at
  pub tag : b.element < elements
  pub stands : may_stand s b.element ≡ true

-- one begins there; or none does, and this byte is the first bad one
abbrev pub Begins : ℕ → List ℕ → ℕ → Result Begun Misfit → Type 0
Begins s t a (Ok b) = Stands s t a b
Begins s t a (Err m) = Stops (inner s) t a m.0
