-- Texts that may stand between double quotes in a tag: without white space, double quotes and `>`.
-- Assumes nothing.
use Prim.Native.Nat.{ℕ}
use mathlib.Core.Path.{◌≡◌, refl, ap, ap₂, ◌∙◌}
use mathlib.Core.Bool.{true, not}
use mathlib.Core.List.{List, [], ◌∷◌, ◌++◌}
use Rattle.words.specs.Lists.{keep, any_of}
use Rattle.word_laws.proofs.Every.{Every, empty, more}
use Rattle.word_laws.proofs.Keep.{keep_append}
use Rattle.forms.specs.Form.{ascii, Kind, space, digit, of_name, name_byte, is_of}
use Rattle.xml.specs.Tags.{squeezed}
use Rattle.xml_laws.proofs.TextNames.{EachOf, SomeOf}
use Rattle.xml_laws.proofs.TextPieces.{Plain, lacks-append, lacks-other}
use Rattle.xml_laws.proofs.TextContexts.{NoSpace, not-space, ValueText, a-name, for-every, for-each, LevelText, type-value, commas, levels_text}

-- a text without white space, double quotes and `>`
pub record Clean (w : List ℕ) : Type 0 where
  pub full : squeezed w ≡ w
  pub plain : Plain w

-- one clean text behind another is clean
pub clean-append : {v w : List ℕ} → Clean v → Clean w → Clean (v ++ w)
unfolding squeezed
clean-append {v} {w} p q =
    record {
      full = keep_append (λ b. not (is_of space b)) v w ∙ ap₂ {C = List ℕ} (λ x y. x ++ y) p.full q.full;
      plain = (lacks-append 34 v w p.plain.0 q.plain.0, lacks-append 62 v w p.plain.1 q.plain.1);
    }

-- no text has no white space
pub squeezed-none : squeezed [] ≡ []
unfolding squeezed keep
squeezed-none = refl

-- a text of one kind has no white space if the kind has none
squeezed-kind : (q : Kind) {w : List ℕ} → NoSpace q → EachOf q w → squeezed w ≡ w
unfolding squeezed keep
squeezed-kind q n empty = refl
squeezed-kind q n (more {x = b} e h) = rw (not-space q b n e) (ap {B = List ℕ} (λ t. b ∷ t) (squeezed-kind q n h))

-- so names and digits are clean
pub clean-name : {w : List ℕ} → SomeOf of_name w → Clean w
unfolding is_of name_byte any_of ascii
clean-name (l, h) =
    record { full = squeezed-kind of_name (refl, refl, refl, refl) h; plain = (lacks-other of_name 34 refl h, lacks-other of_name 62 refl h) }

pub clean-digit : (d : ℕ) → is_of digit d ≡ true → Clean (d ∷ [])
unfolding is_of
clean-digit d e =
    let h : EachOf digit (d ∷ []) = more e empty in
    record { full = squeezed-kind digit (refl, refl, refl, refl) h; plain = (lacks-other digit 34 refl h, lacks-other digit 62 refl h) }

-- and so are values, levels and contexts
clean-value : {v : List ℕ} → ValueText v → Clean v
unfolding squeezed keep is_of any_of
clean-value (a-name h) = clean-name h
clean-value for-every = record { full = refl; plain = (refl, refl) }
clean-value for-each = record { full = refl; plain = (refl, refl) }

clean-level : {t : List ℕ} → LevelText t → Clean t
unfolding squeezed keep is_of any_of
clean-level (type-value h g) = clean-append (clean-name h) (clean-append {v = 61 ∷ []} (record { full = refl; plain = (refl, refl) }) (clean-value g))

clean-commas : {ts : List (List ℕ)} → Every LevelText ts → Clean (commas ts)
unfolding squeezed keep is_of any_of commas
clean-commas empty = record { full = refl; plain = (refl, refl) }
clean-commas (more h r) = clean-append {v = 44 ∷ []} (record { full = refl; plain = (refl, refl) }) (clean-append (clean-level h) (clean-commas r))

pub clean-levels : {ts : List (List ℕ)} → Every LevelText ts → Clean (levels_text ts)
unfolding squeezed keep is_of any_of levels_text
clean-levels empty = record { full = refl; plain = (refl, refl) }
clean-levels (more h r) = clean-append (clean-level h) (clean-commas r)

-- what is clean stays plain without its white space
pub squeezed-plain : {w : List ℕ} → Clean w → Plain (squeezed w)
squeezed-plain h = rw h.full h.plain
