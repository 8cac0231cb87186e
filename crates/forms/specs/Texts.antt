-- Which texts are of a form, in plain words, and the claims that `is_of_form` of Form.antt tells them, and that `reach` gives what the paper asks for: "the
-- first byte (from 0, its end counted) that no text of the form has after those before it". Proved in proofs/Texts.antt.
-- Assumes nothing.
use Rattle.std.specs.Prelude.{ℕ, suc, ◌<◌, ◌≡◌, true, false, List, [], ◌∷◌, ◌++◌, length, take}
use Rattle.forms.specs.Form.{Kind, is_of, Form, blank, one, ◌then◌, ◌or◌, many, hopeless, is_of_form, reach}

-- the texts of a form: no text is of `nothing`
pub data Of : Form → List ℕ → Type 0 where
  no_byte : Of blank []
  a_byte : {k : Kind} {b : ℕ} → is_of k b ≡ true → Of (one k) (b ∷ [])
  in-turn : {f g : Form} {t : List ℕ} (u v : List ℕ) → t ≡ u ++ v → Of f u → Of g v → Of (f then g) t
  by_first : {f g : Form} {t : List ℕ} → Of f t → Of (f or g) t
  by-second : {f g : Form} {t : List ℕ} → Of g t → Of (f or g) t
  no_more : {f : Form} → Of (many f) []
  one_more : {f : Form} {t : List ℕ} (u v : List ℕ) → t ≡ u ++ v → Of f u → Of (many f) v → Of (many f) t

-- `is_of_form` tells just these texts
abbrev pub Told : Type 0
Told = (f : Form) (t : List ℕ) → (is_of_form f t ≡ true → Of f t) × (Of f t → is_of_form f t ≡ true)

-- some text of the form begins with t
abbrev pub Begins : Form → List ℕ → Type 0
Begins f t = (u : List ℕ) × Of f (t ++ u)

-- Some text of the form begins with the first bytes of t, as many as `reach` says; and none with one byte more, if t has it.
pub record FirstBad (f : Form) (t : List ℕ) : Type 0 where
  pub good : Begins f (take (reach f t) t)
  pub bad : reach f t < length t → Begins f (take (suc (reach f t)) t) → ⊥

-- that is so for every form that has a text at all, and every t
abbrev pub Adequate : Type 0
Adequate = (f : Form) → hopeless f ≡ false → (t : List ℕ) → FirstBad f t
