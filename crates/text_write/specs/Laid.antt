-- Text laid down in a lent output. Past the output's end nothing is written, so that a run over a short output tells how long the text is.
-- Assumes nothing.
use Rattle.std.specs.Prelude.{ℕ, ◌+◌, ◌≤◌, ◌≡◌, Bool, true, false, List, length, Result, Ok, Err, ⊤}
use Rattle.std.proofs.lemmas.List.Edits.{sets}
use Rattle.format.specs.declared.answer.TextRefusal.{TextRefusal}
use Rattle.format.specs.declared.answer.TextRefusal.TheVariants.{NotListed}
use Rattle.text_write.specs.declared.put.Placed.{Placed}

-- the output with these bytes from a byte on, as far as it goes
unfoldable pub laid : List ℕ → ℕ → List ℕ → List ℕ
laid o a w = sets o a w

-- a piece of the text was laid down at a byte: what the output is after it, and where the next byte goes
pub record Lays (most : ℕ) (before : List ℕ) (at : ℕ) (text : List ℕ) (after : List ℕ) (next : ℕ) : Type 0 where
  pub bytes : after ≡ laid before at text
  pub behind : next ≡ at + length text
  pub few : length text ≤ most

-- a name of the piece is not listed, which refuses it, or all are
abbrev pub refused_if : Bool → Result ⊤ TextRefusal
refused_if true = Err NotListed
refused_if false = Ok tt

-- a piece with names: laid down, with nothing in place of a name that is not listed, and refused if there is one, as `lost` says
pub record Puts (most : ℕ) (before : List ℕ) (at : ℕ) (text : List ℕ) (lost : Bool) (after : List ℕ) (answer : Placed) : Type 0 where
  pub lays : Lays most before at text after answer.next
  pub named : answer.named ≡ refused_if lost
