-- The mark that a value says, and the level that a type, a mark and a value make.
-- Assumes nothing.
use Prim.Native.Nat.{ℕ}
use native.Mathlib.Omega.{arith}
use mathlib.Core.Path.{◌≡◌, refl}
use mathlib.Core.Bool.{Bool, true, false, cond, not, ◌&&◌, ◌||◌}
use mathlib.Core.List.{List, [], ◌∷◌}
use mathlib.Core.Option.{Option, none}
use Rattle.format.specs.Answer.{Refusal}
use borrow.Author.Tests.{ne_eqb}
use lib.ListN.{length, get_or}
use lib.Dec.{eqb}
use Rattle.words.specs.Lists.{same_list}
use Rattle.fields.specs.Code.{mark_code}
use Rattle.fields.specs.declared.kind.Mark.{Mark}
use Rattle.fields.specs.declared.kind.Mark.TheVariants.{Fixed, Every, Each, Range}
use Rattle.xml.specs.Names.{type_names, value_names, number_of}
use Rattle.xml.specs.Read.{or_zero, is_every, is_each, level_from, level_of}
use Rattle.tags.specs.Cut.{laid}
use Rattle.tags.proofs.Compared.{same-lengths}
use Rattle.text_read.specs.Levels.{mark_of, level_listed}

-- ---- a value's mark

-- a value of another length than 1 is a name
pub mark-long : (v : List ℕ) → (length v ≡ 1 → ⊥) → 1 ≡ mark_of v
mark-long v h = rw (same-lengths v (42 ∷ []) h, same-lengths v (33 ∷ []) h)

-- a value of one byte is what a buffer of one byte holds of it
pub one_byte : (v buffer : List ℕ) → length v ≡ 1 → buffer ≡ laid v (0 ∷ []) → v ≡ get_or buffer 0 0 ∷ []
one_byte [] buffer h e = absurd (omega arith)
one_byte (b ∷ []) buffer h e = rw e
one_byte (b ∷ x ∷ v) buffer h e = absurd (omega arith)

module _ {v : List ℕ} {b : ℕ} (e : v ≡ b ∷ []) where
  -- `*` by itself is mark 2, `!` mark 3, another byte mark 1
  pub mark-every : b ≡ 42 → 2 ≡ mark_of v
  unfolding same_list
  mark-every h = rw (e, h)

  pub mark-each : b ≡ 33 → 3 ≡ mark_of v
  unfolding same_list
  mark-each h = rw (e, h)

  pub mark-other : (b ≡ 42 → ⊥) → (b ≡ 33 → ⊥) → 1 ≡ mark_of v
  unfolding same_list
  mark-other h k = rw (e, ne_eqb b 42 h, ne_eqb b 33 k)

-- ---- the level

-- the numbers of its type's name and of its value's, 0 for one that is not listed
abbrev pub type_of : List ℕ → List (List ℕ) → ℕ
type_of l p = or_zero (number_of l type_names (get_or p 0 []))

abbrev pub value_of : List ℕ → List (List ℕ) → ℕ
value_of l p = or_zero (number_of l value_names (get_or p 1 []))

module _ (l : List ℕ) (p : List (List ℕ)) (kind mark number : ℕ) (k : kind ≡ type_of l p) (m : mark ≡ mark_of (get_or p 1 []))
    (n : number ≡ cond (eqb mark 1) (value_of l p) 0) where
  -- a level is made of its type, its mark, and its value where it has one by name
  pub level-made : level_from kind mark number ≡ level_of l p
  unfolding level_of
  level-made = rw (n, m, k) (go (type_of l p) (value_of l p) (is_every (get_or p 1 [])) (is_each (get_or p 1 [])))
    where
      go : (t v : ℕ) (a b : Bool)
          → level_from t (cond a 2 (cond b 3 1)) (cond (eqb (cond a 2 (cond b 3 1)) 1) v 0)
          ≡ cond a (level_from t 2 0) (cond b (level_from t 3 0) (level_from t 1 v))
      go t v true b = refl
      go t v false true = refl
      go t v false false = refl

  -- and its names are listed if its numbers are not 0
  pub level-listed : not (eqb kind 0) && (not (eqb mark 1) || not (eqb number 0)) ≡ level_listed l p
  unfolding level_listed
  level-listed = rw (← level-made)

-- ---- the fault of a value

-- no other mark than a name's has its number
pub other-code : (m : Mark) → (m ≡ Fixed → ⊥) → mark_code m ≡ 1 → ⊥
other-code Fixed h e = h refl
other-code Every h e = absurd (omega arith)
other-code Each h e = absurd (omega arith)
other-code Range h e = absurd (omega arith)

module _ (v : List ℕ) (o : Option Refusal) where
  -- only a name has one
  pub name-fault : mark_of v ≡ 1 → cond (is_every v) none (cond (is_each v) none o) ≡ o
  name-fault = go (is_every v) (is_each v)
    where
      go : (a b : Bool) → cond {A = ℕ} a 2 (cond b 3 1) ≡ 1 → cond a none (cond b none o) ≡ o
      go true b h = absurd (omega arith)
      go false true h = absurd (omega arith)
      go false false h = refl

  pub no-name-fault : (mark_of v ≡ 1 → ⊥) → cond (is_every v) none (cond (is_each v) none o) ≡ none
  no-name-fault = go (is_every v) (is_each v)
    where
      go : (a b : Bool) → (cond {A = ℕ} a 2 (cond b 3 1) ≡ 1 → ⊥) → cond a none (cond b none o) ≡ none
      go true b h = refl
      go false true h = refl
      go false false h = absurd (h refl)
