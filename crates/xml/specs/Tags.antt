-- What a text's tags say. White space stands in no name, so it is left out first. Neither `>` nor `"` stands in a name or a context, so a tag ends at
-- the next `>`, and its values stand between double quotes.
-- Assumes nothing.
use Rattle.std.specs.Prelude.{ℕ, cond, not, List, [], ◌∷◌, map, get_or, eqb}
use Prim.Native.String.{String}
use Rattle.words.specs.Lists.{keep, same_list}
use Rattle.forms.specs.Form.{ascii, space, is_of}

-- ---- a text in pieces

-- a byte in front of the first piece, if there is one
unfoldable pub on_first : ℕ → List (List ℕ) → List (List ℕ)
on_first b [] = []
on_first b (p ∷ ps) = (b ∷ p) ∷ ps

-- the pieces that end in c; what stands behind the last c is left out
unfoldable pub ended : ℕ → List ℕ → List (List ℕ)
ended c [] = []
ended c (b ∷ t) = cond (eqb b c) ([] ∷ ended c t) (on_first b (ended c t))

-- the pieces that c parts
unfoldable pub parted : ℕ → List ℕ → List (List ℕ)
parted c [] = [] ∷ []
parted c (b ∷ t) = cond (eqb b c) ([] ∷ parted c t) (on_first b (parted c t))

-- a text without its white space
unfoldable pub squeezed : List ℕ → List ℕ
squeezed t = keep (λ b. not (is_of space b)) t

-- the tags of a text, each in the pieces that double quotes part
unfoldable pub tags_in : List ℕ → List (List (List ℕ))
tags_in t = map (parted 34) (ended 62 (squeezed t))

-- ---- what a tag says

pub data Tag : Type 0 where
  start_set : Tag
  end_set : Tag
  start_rule : (context : List ℕ) → Tag
  end_rule : Tag
  first_step : (operation target : List ℕ) → Tag
  last_step : (operation target : List ℕ) → Tag
  start_exclusion : (kind : ℕ) (cardinality : List ℕ) → Tag
  end_exclusion : Tag
  role : (value : List ℕ) → Tag
  privilege : (operation target : List ℕ) → Tag
  other : Tag

-- a tag that begins so, up to its first double quote, says this
pub record Row : Type 0 where
  pub begins : String
  pub says : Tag

abbrev pub row : String → Tag → Row
row b s = record { begins = b; says = s }

unfoldable pub saying : List ℕ → List Row → Tag
saying p [] = other
saying p (r ∷ rs) = cond (same_list p (ascii r.begins)) r.says (saying p rs)

-- "Attributes stand in any order": where there are two, the first one's name says which value is which. MMER is kind 1 and MMEP kind 2; "A Role's type
-- attribute is read and dropped."
unfoldable pub rows : List ℕ → List ℕ → List Row
rows one two =
    row "<MSoDPolicySet" start_set
    ∷ row "</MSoDPolicySet" end_set
    ∷ row "<MSoDPolicyBusinessContext=" (start_rule one)
    ∷ row "</MSoDPolicy" end_rule
    ∷ row "<FirstStepoperation=" (first_step one two)
    ∷ row "<FirstSteptargetURI=" (first_step two one)
    ∷ row "<LastStepoperation=" (last_step one two)
    ∷ row "<LastSteptargetURI=" (last_step two one)
    ∷ row "<MMERForbiddenCardinality=" (start_exclusion 1 one)
    ∷ row "</MMER" end_exclusion
    ∷ row "<MMEPForbiddenCardinality=" (start_exclusion 2 one)
    ∷ row "</MMEP" end_exclusion
    ∷ row "<Roletype=" (role two)
    ∷ row "<Rolevalue=" (role one)
    ∷ row "<Operationvalue=" (privilege one two)
    ∷ row "<Operationtarget=" (privilege two one)
    ∷ []

-- the pieces of a tag: what it is, and its values between double quotes
unfoldable pub tag_of : List (List ℕ) → Tag
tag_of pieces = saying (get_or pieces 0 []) (rows (get_or pieces 1 []) (get_or pieces 3 []))
