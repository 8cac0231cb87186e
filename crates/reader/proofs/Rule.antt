-- The table's rule, once for all its entries: what is left of a state's form after the beginning of a tag.
-- Assumes nothing.
use Prim.Native.Nat.{ℕ, ◌+◌, ◌<◌}
use native.Mathlib.Omega.{arith}
use mathlib.Core.Path.{◌≡◌, refl, sym, ap, ◌∙◌}
use mathlib.Core.Bool.{Bool, true, false, cond, not, ◌&&◌, ◌||◌}
use mathlib.Core.List.{List, [], ◌∷◌, ◌++◌}
use lib.ListN.{length, take, get_or}
use lib.Dec.{eqb, ltb}
use Rattle.words.specs.Lists.{any_of, tab, all_below, any_below, same_list}
use Rattle.word_laws.proofs.Tests.{all_below-at}
use Rattle.word_laws.proofs.Lists.{get_d-tab}
use Rattle.forms.specs.Form.{Kind, this, space, digit, of_name, Form, nothing, blank, one, ◌then◌, ◌or◌, many, may_end, hopeless, lefts}
use Rattle.xml.specs.Grammar.{◌▸◌}
use Rattle.reader.specs.Words.{word}
use Rattle.reader.proofs.Computed.{computed}
use Rattle.reader.specs.Table.{elements, inner, ahead, rest, table, next, may_stand}

-- the states that a tag may stand in are the first 7
abbrev pub inside : ℕ
inside = 7

-- ---- after the whole of a tag's word

-- what is left: the rest of the tag, and then what may follow in the next state
unfoldable left_by : ℕ → ℕ → Form
left_by s c = cond (may_stand s c) (rest c ▸ ahead (next s c)) (lefts (inner s) (word c))

unfoldable hopeful : ℕ → ℕ → Bool
hopeful s c = not (hopeless (rest c ▸ ahead (next s c)) && may_stand s c)

-- ---- after a part of it

-- the kinds of bytes that a text of the form may begin with
unfoldable pub firsts : Form → List Kind
firsts nothing = []
firsts blank = []
firsts (one k) = k ∷ []
firsts (f then g) = firsts f ++ cond (may_end f) (firsts g) []
firsts (f or g) = firsts f ++ firsts g
firsts (many f) = firsts f

-- a kind is one byte alone, and b is it
unfoldable pub is_this : ℕ → Kind → Bool
is_this b (this n) = eqb n b
is_this b space = false
is_this b digit = false
is_this b of_name = false

-- tag d may stand in s, has the first i bytes of tag c, and its next is of the kind alone
unfoldable pub has_next : ℕ → ℕ → ℕ → Kind → ℕ → Bool
has_next s c i k d = may_stand s d && (same_list (take i (word d)) (take i (word c)) && (ltb i (length (word d)) && is_this (get_or (word d) i 0) k))

-- after i bytes of tag c's word, more must come, and only such bytes as some tag has there
unfoldable pub goes_on : ℕ → ℕ → ℕ → Bool
goes_on s c i =
    let f = lefts (inner s) (take i (word c)) in
    (not (hopeless f) && not (may_end f)) && not (any_of (λ k. not (any_below elements (has_next s c i k))) (firsts f))

unfoldable go_on : ℕ → ℕ → Bool
go_on s c = all_below (length (word c)) (λ i. goes_on s c i || not (may_stand s c))

-- ---- computed, for every entry

opened : Unit {0}
unfolding computed lefts tab all_below any_below same_list inner ahead rest table next may_stand firsts is_this has_next goes_on go_on left_by hopeful
opened = tt

all_right : tab (λ s. tab (λ c. lefts (inner s) (word c)) 0 elements) 0 inside ≡ tab (λ s. tab (left_by s) 0 elements) 0 inside
unfolding opened
all_right = refl

all-hopeful : all_below inside (λ s. all_below elements (hopeful s)) ≡ true
unfolding opened
all-hopeful = refl

all-go-on : all_below inside (λ s. all_below elements (go_on s)) ≡ true
unfolding opened
all-go-on = refl

-- ---- so at each

-- two tables of tables that are the same have the same entries
entry : {A : Type 0} (d : A) (f g : ℕ → ℕ → A) (m n : ℕ) → tab (λ s. tab (f s) 0 n) 0 m ≡ tab (λ s. tab (g s) 0 n) 0 m → (s c : ℕ) → s < m → c < n → f s c ≡ g s c
entry {A} d f g m n e s c l k = sym (at f) ∙ ap (λ x. get_or (get_or x s []) c d) e ∙ at g
  where
    at : (h : ℕ → ℕ → A) → get_or (get_or (tab (λ s. tab (h s) 0 n) 0 m) s []) c d ≡ h s c
    at h =
        let zs : 0 + s ≡ s = omega arith in
        let zc : 0 + c ≡ c = omega arith in
        ap (λ x. get_or x c d) (get_d-tab (λ s. tab (h s) 0 n) 0 m s [] l) ∙ rw zs (get_d-tab (h s) 0 n c d k ∙ rw zc)

-- a test that passes at every entry passes at each
at_each : (f : ℕ → ℕ → Bool) → all_below inside (λ s. all_below elements (f s)) ≡ true → (s c : ℕ) → s < inside → c < elements → f s c ≡ true
at_each f e s c l k = all_below-at elements c (f s) (all_below-at inside s (λ s. all_below elements (f s)) e l) k

module _ (s c : ℕ) (l : s < inside) (k : c < elements) (stands : may_stand s c ≡ true) where
  pub right : lefts (inner s) (word c) ≡ rest c ▸ ahead (next s c)
  unfolding left_by
  right = entry nothing (λ s c. lefts (inner s) (word c)) left_by inside elements all_right s c l k ∙ rw stands

  pub right-hope : hopeless (rest c ▸ ahead (next s c)) ≡ false
  unfolding hopeful
  right-hope = go (hopeless (rest c ▸ ahead (next s c))) (may_stand s c) (at_each hopeful all-hopeful s c l k) stands
    where
      go : (x y : Bool) → not (x && y) ≡ true → y ≡ true → x ≡ false
      go true true e d = sym e
      go true false e d = sym d
      go false y e d = refl

  pub going_on : (i : ℕ) → i < length (word c) → goes_on s c i ≡ true
  unfolding go_on
  going_on i h =
      go (goes_on s c i) (may_stand s c) (all_below-at (length (word c)) i (λ i. goes_on s c i || not (may_stand s c)) (at_each go_on all-go-on s c l k) h) stands
    where
      go : (x y : Bool) → x || not y ≡ true → y ≡ true → x ≡ true
      go true y e d = refl
      go false true e d = e
      go false false e d = d
