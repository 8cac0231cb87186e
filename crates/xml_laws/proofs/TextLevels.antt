-- Reading a context back: commas and equals signs part it into the types and values that were written, and those name the levels.
-- Assumes nothing.
use Prim.Native.Nat.{ℕ, zero, suc, ◌+◌, ◌≤◌, ◌<◌}
use native.Mathlib.Omega.{arith}
use mathlib.Core.Path.{◌≡◌, refl, sym, ap, ◌∙◌}
use mathlib.Core.Bool.{true, false, not, ◌&&◌, ◌||◌, false≢true}
use mathlib.Core.List.{List, [], ◌∷◌, ◌++◌, map, append-nil}
use mathlib.Core.Option.{Option, none, some, some-ne-none}
use borrow.Author.Tests.{eqb-true}
use lib.Dec.{eqb, leb}
use Rattle.words.specs.Lists.{tab, any_of, same_list}
use Rattle.words.specs.First.{◌or_else◌}
use Rattle.word_laws.proofs.Every.{Every, empty, more}
use Rattle.word_laws.proofs.First.{none_first, none-second, or_else-none}
use Rattle.word_laws.proofs.Lists.{map-tab, tab-cong}
use Rattle.word_laws.proofs.Tests.{both_first, both-second}
use Rattle.forms.proofs.Tests.{both-pass, one_passes}
use Rattle.forms.specs.Form.{ascii, of_name, name_byte, is_of}
use Rattle.format.specs.Answer.{Refusal, refusal}
use Rattle.format.specs.Rule.{Level, is_range, Rule, good_mark, good_level}
use Rattle.xml.specs.Tags.{parted}
use Rattle.xml.specs.Names.{type_names, value_names, good_names, name_of, number_of}
use Rattle.xml.specs.Read.{listed, or_zero, level_texts, level_from, level_of, level_fault, first_of}
use Rattle.xml.specs.Write.{or_blank, name_text, value_text, level_text, context_text, level_names_fault}
use Rattle.xml_laws.proofs.TextNames.{SomeOf, other_byte, named}
use Rattle.xml_laws.proofs.TextPieces.{Lacks, lacks-append, lacks-other, parted-first, parted-last}
use Rattle.xml_laws.proofs.TextListed.{Listed}
use Rattle.xml_laws.proofs.TextSpelling.{type-text, value-text, level-spelled, context-text, levels-texts}
use Rattle.xml_laws.proofs.TextContexts.{ValueText, a-name, for-every, for-each, LevelText, type-value, commas, levels_text}

-- ---- the parts of a context

value-lacks : (c : ℕ) {v : List ℕ} → is_of of_name c ≡ false → Lacks c (42 ∷ []) → Lacks c (33 ∷ []) → ValueText v → Lacks c v
value-lacks c e h g (a-name n) = lacks-other of_name c e n.1
value-lacks c e h g for-every = h
value-lacks c e h g for-each = g

level-lacks : {t : List ℕ} → LevelText t → Lacks 44 t
unfolding is_of name_byte any_of ascii
level-lacks (type-value {w} {v} h g) =
    lacks-append 44 w (61 ∷ v) (lacks-other of_name 44 refl h.1) (value-lacks 44 refl refl refl g)

-- an equals sign parts a level into its type and its value
pub parted-level : (w v : List ℕ) → SomeOf of_name w → ValueText v → parted 61 (w ++ 61 ∷ v) ≡ w ∷ v ∷ []
unfolding is_of name_byte any_of ascii
parted-level w v h g =
    parted-first 61 w v (lacks-other of_name 61 refl h.1) ∙ ap {B = List (List ℕ)} (λ t. w ∷ t) (parted-last 61 v (value-lacks 61 refl refl refl g))

-- commas part the levels
parted-commas : (t : List ℕ) (ts : List (List ℕ)) → LevelText t → Every LevelText ts → parted 44 (t ++ commas ts) ≡ t ∷ ts
unfolding commas
parted-commas t [] h empty = rw (append-nil t) (parted-last 44 t (level-lacks h))
parted-commas t (s ∷ ts) h (more g r) =
    parted-first 44 t (s ++ commas ts) (level-lacks h) ∙ ap {B = List (List ℕ)} (λ x. t ∷ x) (parted-commas s ts g r)

-- so the levels of a context are read as they were written
pub levels-parted : {ts : List (List ℕ)} → Every LevelText ts → level_texts (levels_text ts) ≡ map (parted 61) ts
unfolding level_texts levels_text
levels-parted empty = refl
levels-parted (more {x = t} {xs = ts} h r) = not-empty t (commas ts) h ∙ ap (map (parted 61)) (parted-commas t ts h r)
  where
    not-empty : (t u : List ℕ) → LevelText t → level_texts (t ++ u) ≡ map (parted 61) (parted 44 (t ++ u))
    not-empty t u (type-value {w = []} (l, n) g) = absurd (omega arith)
    not-empty t u (type-value {w = b ∷ w} (l, n) g) = refl

-- ---- levels

-- what holds of a level with a fixed value, with every and with each holds of all good ones but ranges
level-by-mark : (P : Level → Type 0) → ((t v : ℕ) → P (level_from t 1 v)) → ((t : ℕ) → P (level_from t 2 0)) → ((t : ℕ) → P (level_from t 3 0))
    → (x : Level) → good_level x ≡ true → is_range x ≡ false → P x
unfolding good_level good_mark
level-by-mark P fixed every each x good range =
    let one = eqb x.mark 1 && not (eqb x.value 0) in
    let others = eqb x.mark 2 || eqb x.mark 3 in
    let marked = one || (others && eqb x.value 0) in
    let ranged = eqb x.mark 4 && not (eqb x.value 0) && leb x.value x.tail in
    let values = (marked && eqb x.tail 0) || ranged in
    both-pass (not (eqb x.type 0) && values) (eqb x.pad 0) good
    (λ h p.
    let pad = eqb-true x.pad 0 p in
    one_passes (marked && eqb x.tail 0) ranged (both-second (not (eqb x.type 0)) values h)
    (λ g.
    let tail = eqb-true x.tail 0 (both-second marked (eqb x.tail 0) g) in
    one_passes one (others && eqb x.value 0) (both_first marked (eqb x.tail 0) g)
    (λ k. is 1 x.value (eqb-true x.mark 1 (both_first (eqb x.mark 1) (not (eqb x.value 0)) k)) refl tail pad (fixed x.type x.value))
    (λ k.
    let value = eqb-true x.value 0 (both-second others (eqb x.value 0) k) in
    one_passes (eqb x.mark 2) (eqb x.mark 3) (both_first others (eqb x.value 0) k)
    (λ m. is 2 0 (eqb-true x.mark 2 m) value tail pad (every x.type))
    (λ m. is 3 0 (eqb-true x.mark 3 m) value tail pad (each x.type))))
    (λ g.
    let low = both_first (eqb x.mark 4 && not (eqb x.value 0)) (leb x.value x.tail) g in
    absurd (false≢true (sym range ∙ both_first (eqb x.mark 4) (not (eqb x.value 0)) low))))
  where
    -- the level of these fields
    is : (m v : ℕ) → x.mark ≡ m → x.value ≡ v → x.tail ≡ 0 → x.pad ≡ 0 → P (level_from x.type m v) → P x
    is m v a b c d p = rw (a, b, c, d) p

-- a name is not a byte that is of none
not_byte : (c : ℕ) (w : List ℕ) → is_of of_name c ≡ false → SomeOf of_name w → same_list w (c ∷ []) ≡ false
unfolding same_list
not_byte c [] e (l, h) = absurd (omega arith)
not_byte c (b ∷ w) e (l, more h r) = rw (other_byte of_name b c h e)

-- no fault at any place is no fault
first_of-none : {A : Type 0} (f : A → Option Refusal) (g : ℕ → A) (k n : ℕ) → ((i : ℕ) → k ≤ i → i < k + n → f (g i) ≡ none)
    → first_of f (tab g k n) ≡ none
unfolding first_of tab
first_of-none f g k zero h = refl
first_of-none f g k (suc n) h =
    or_else-none (h k (omega arith) (omega arith)) (first_of-none f g (suc k) n (λ i lo hi. h i (omega arith) (omega arith)))

-- in a good list a number's name has that number: crate names proves it
abbrev pub Numbered : List ℕ → Type 0
Numbered l = (k n : ℕ) (w : List ℕ) → name_of l k n ≡ some w → number_of l k w ≡ some n

module _ (l : List ℕ) (good : good_names l ≡ true) (numbered : Numbered l) where
  -- so what was written as a name is read as its number
  pub found : (k n : ℕ) → listed (name_of l k n) ≡ none → number_of l k (name_text l k n) ≡ some n
  unfolding listed or_blank
  found k n h = go (name_of l k n) refl h
    where
      go : (o : Option (List ℕ)) → name_of l k n ≡ o → listed o ≡ none → number_of l k (or_blank o) ≡ some n
      go none e h = absurd (some-ne-none (refusal 42 0 0) h)
      go (some w) e h = numbered k n w e

  -- a level's text in parts
  level-pieces : (x : Level) → level_names_fault l x ≡ none → parted 61 (level_text l x) ≡ name_text l type_names x.type ∷ value_text l x ∷ []
  level-pieces x h =
      rw (level-spelled l good x) (parted-level (name_text l type_names x.type) (value_text l x) (type-text l good x h) (value-text l good x h))

  -- a level is read as it was, without fault
  level-read : (x : Level) → good_level x ≡ true → is_range x ≡ false → level_names_fault l x ≡ none
      → (level_of l (parted 61 (level_text l x)) ≡ x) × (level_fault l (parted 61 (level_text l x)) ≡ none)
  unfolding level_of level_fault level_names_fault value_text listed or_zero ◌or_else◌ ascii same_list is_of name_byte any_of
  level-read =
      level-by-mark
      (λ x. level_names_fault l x ≡ none → (level_of l (parted 61 (level_text l x)) ≡ x) × (level_fault l (parted 61 (level_text l x)) ≡ none))
      (λ t v h.
      let x = level_from t 1 v in
      let type = found type_names t (none_first _ _ h) in
      let value = found value_names v (none-second (listed (name_of l type_names t)) _ h) in
      let name = named l value_names v good (none-second (listed (name_of l type_names t)) _ h) in
      let star = not_byte 42 (name_text l value_names v) refl name in
      let mark = not_byte 33 (name_text l value_names v) refl name in
      rw (level-pieces x h, type, star, mark, value) (refl, refl))
      (λ t h. rw (level-pieces (level_from t 2 0) h, found type_names t (none_first _ _ h)) (refl, refl))
      (λ t h. rw (level-pieces (level_from t 3 0) h, found type_names t (none_first _ _ h)) (refl, refl))

  -- the levels of a rule that may be written
  module _ (r : Rule) (h : Listed l r) (levels : (i : ℕ) → i < r.depth → good_level (r.level i) ≡ true) where
    pub context-parted : level_texts (context_text l r) ≡ tab (λ i. parted 61 (level_text l (r.level i))) 0 r.depth
    context-parted =
        rw (context-text l good r) (levels-parted (levels-texts l good r h) ∙ map-tab (parted 61) (λ i. level_text l (r.level i)) 0 r.depth)

    pub levels-read : map (level_of l) (level_texts (context_text l r)) ≡ tab r.level 0 r.depth
    levels-read =
        rw context-parted
        (map-tab (level_of l) (λ i. parted 61 (level_text l (r.level i))) 0 r.depth
        ∙ tab-cong (λ i. level_of l (parted 61 (level_text l (r.level i)))) r.level 0 r.depth
        (λ i lo hi. (level-read (r.level i) (levels i (omega arith)) (h.no-range i (omega arith)) (h.level i (omega arith))).0))

    pub levels-faultless : first_of (level_fault l) (level_texts (context_text l r)) ≡ none
    levels-faultless =
        rw context-parted
        (first_of-none (level_fault l) (λ i. parted 61 (level_text l (r.level i))) 0 r.depth
        (λ i lo hi. (level-read (r.level i) (levels i (omega arith)) (h.no-range i (omega arith)) (h.level i (omega arith))).1))
