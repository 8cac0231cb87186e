-- Contexts as they are written: levels with commas between them, each a type's name, an equals sign and a value.
-- Assumes nothing.
use Prim.Native.Nat.{ℕ, zero, suc}
use native.Mathlib.Omega.{arith}
use mathlib.Core.Path.{◌≡◌, refl, ap}
use mathlib.Core.Bool.{Bool, true, false, cond}
use mathlib.Core.List.{List, [], ◌∷◌, ◌++◌, flatten, append_assoc}
use mathlib.Core.Option.{none}
use borrow.Author.Tests.{ne_eqb}
use lib.Dec.{eqb}
use Rattle.words.specs.Lists.{tab}
use Rattle.word_laws.proofs.Every.{Every, every-tab}
use Rattle.word_laws.proofs.First.{none_first, none-second}
use Rattle.forms.specs.Form.{ascii, of_name}
use Rattle.format.specs.Rule.{Level, Rule}
use Rattle.xml.specs.Names.{type_names, value_names, good_names, name_of}
use Rattle.xml.specs.Read.{listed}
use Rattle.xml.specs.Write.{name_text, value_text, level_text, context_text}
use Rattle.xml.specs.Write.{level_names_fault}
use Rattle.xml_laws.proofs.TextNames.{SomeOf, named}
use Rattle.xml_laws.proofs.TextContexts.{ValueText, a-name, for-every, for-each, LevelText, type-value, commas, levels_text}
use Rattle.xml_laws.proofs.TextListed.{Listed}

-- levels as they are written, a comma before every one but the first
module _ (f : ℕ → List ℕ) where
  commas-row : (k n : ℕ) → flatten (tab (λ i. cond (eqb i 0) [] (ascii ",") ++ f i) (suc k) n) ≡ commas (tab f (suc k) n)
  unfolding flatten tab commas ascii
  commas-row k zero = refl
  commas-row k (suc n) =
      rw (ne_eqb (suc k) 0 (λ e. absurd (omega arith)))
      (ap {B = List ℕ} (λ t. 44 ∷ f (suc k) ++ t) (commas-row (suc k) n))

  levels-row : (n : ℕ) → flatten (tab (λ i. cond (eqb i 0) [] (ascii ",") ++ f i) 0 n) ≡ levels_text (tab f 0 n)
  unfolding flatten tab levels_text
  levels-row zero = refl
  levels-row (suc n) = ap {B = List ℕ} (λ t. f 0 ++ t) (commas-row 0 n)

module _ (l : List ℕ) (good : good_names l ≡ true) where
  -- a level whose names are listed: its type, its value and its text
  pub type-text : (x : Level) → level_names_fault l x ≡ none → SomeOf of_name (name_text l type_names x.type)
  unfolding level_names_fault
  type-text x h = named l type_names x.type good (none_first _ _ h)

  pub value-text : (x : Level) → level_names_fault l x ≡ none → ValueText (value_text l x)
  unfolding level_names_fault value_text ascii
  value-text x h = go (eqb x.mark 1) (eqb x.mark 2) (none-second (listed (name_of l type_names x.type)) _ h)
    where
      go : (one two : Bool) → cond one (listed (name_of l value_names x.value)) none ≡ none
          → ValueText (cond one (name_text l value_names x.value) (cond two (ascii "*") (ascii "!")))
      go true two e = a-name (named l value_names x.value good e)
      go false true e = for-every
      go false false e = for-each

  pub level-spelled : (x : Level) → level_text l x ≡ name_text l type_names x.type ++ 61 ∷ value_text l x
  unfolding level_text ascii
  level-spelled x = append_assoc (name_text l type_names x.type) (61 ∷ []) (value_text l x)

  pub level-text : (x : Level) → level_names_fault l x ≡ none → LevelText (level_text l x)
  level-text x h = rw (level-spelled x) (type-value (type-text x h) (value-text x h))

  -- a context's text is that of its levels, each of the form
  abbrev pub level_texts_of : Rule → List (List ℕ)
  level_texts_of r = tab (λ i. level_text l (r.level i)) 0 r.depth

  pub context-text : (r : Rule) → context_text l r ≡ levels_text (level_texts_of r)
  unfolding context_text
  context-text r = levels-row (λ i. level_text l (r.level i)) r.depth

  pub levels-texts : (r : Rule) → Listed l r → Every LevelText (level_texts_of r)
  levels-texts r h =
      every-tab {P = LevelText} (λ i. level_text l (r.level i)) 0 r.depth (λ i lo hi. level-text (r.level i) (h.level i (omega arith)))
