-- Cutting a text: the bytes between two places, where a byte stands first, and what a buffer holds of a text.
-- Assumes nothing.
use Rattle.std.specs.Prelude.{ℕ, suc, ◌+◌, ◌-◌, min, cond, List, [], ◌∷◌, ◌++◌, eqb, length, take, drop}
use Rattle.words.specs.Bytes.{part}

-- the bytes from a up to b
abbrev pub span : List ℕ → ℕ → ℕ → List ℕ
span t a b = part t a (b - a)

-- how many bytes stand before the first c; all, if there is none
unfoldable pub until : ℕ → List ℕ → ℕ
until c [] = 0
until c (b ∷ t) = cond (eqb b c) 0 (suc (until c t))

-- the byte behind one, or the end
abbrev pub past : ℕ → ℕ → ℕ
past at to = min (at + 1) to

-- a text at the front of a buffer, as far as there is room
abbrev pub laid : List ℕ → List ℕ → List ℕ
laid t buffer = take (length buffer) t ++ drop (length t) buffer
