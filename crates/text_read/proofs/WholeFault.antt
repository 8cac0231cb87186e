-- Reading a text with a good list beside an accepted image: the tags of its good beginning, then its form.
-- Assumes nothing.
use Prim.Native.Nat.{ℕ, suc, ◌≤◌}
use native.Mathlib.Omega.{arith}
use mathlib.Core.Path.{◌≡◌, refl, sym, subst, ◌∙◌}
use mathlib.Core.Bool.{Bool, true, false, cond}
use mathlib.Core.List.{List, [], ◌∷◌, map}
use mathlib.Core.Option.{Option, none, some}
use lib.ListN.{length, take}
use Rattle.std.specs.Prelude.{Result}
use Rattle.words.specs.First.{◌or_else◌, unless}
use Rattle.word_laws.proofs.First.{none-or_else, unless-passes, unless-fails}
use Rattle.format.specs.Answer.{Refusal, refusal, refuse, Outcome, refusing}
use Rattle.format.specs.Policy.{policy_fault}
use Rattle.format.specs.declared.answer.TextRefusal.{TextRefusal}
use Rattle.forms.specs.Form.{Form, is_of_form, reach, hopeless, left}
use Rattle.xml.specs.Grammar.{set}
use Rattle.xml.specs.Names.{good_names, names_fault}
use Rattle.xml.specs.Tags.{tags_in, tag_of}
use Rattle.xml.specs.Read.{nothing_read, tags_fault, good_tags}
use Rattle.xml_calls.specs.Calls.{read_fault}
use Rattle.answers.specs.Code.{outcome}
use Rattle.text_read.specs.Stands.{ReadIs}
use Rattle.text_read.specs.declared.sheet.Sheet.{Sheet}

-- a good beginning lies in the text
pub reach-within : (f : Form) (t : List ℕ) → reach f t ≤ length t
unfolding reach
reach-within f [] = omega arith
reach-within f (b ∷ t) = go (hopeless (left f b)) (reach-within (left f b) t)
  where
    go : (h : Bool) → reach (left f b) t ≤ length t → cond h 0 (suc (reach (left f b) t)) ≤ suc (length t)
    go true k = omega arith
    go false k = omega arith

-- its tags are those up to the byte that was reached
pub good-beginning : {l second : List ℕ} {room : ℕ} {sheet : Sheet} {r : Result (Unit {0}) TextRefusal} (text : List ℕ) {at : ℕ} → at ≡ reach set text
    → ReadIs l second room (map tag_of (tags_in (take at text))) sheet r → ReadIs l second room (good_tags text) sheet r
unfolding good_tags
good-beginning {l} {second} {room} {sheet} {r} text e =
    subst (λ (n : ℕ). ReadIs l second room (map tag_of (tags_in (take n text))) sheet r) e

module _ (text l second : List ℕ) (room : ℕ) (accepted : policy_fault second ≡ none) (good : good_names l ≡ true) where
  form : Option Refusal
  form = unless (is_of_form set text) (refusal 41 (reach set text) 0)

  in-turn : read_fault text l second room ≡ tags_fault l second room nothing_read (good_tags text) or_else form
  unfolding read_fault names_fault form
  in-turn =
      none-or_else (policy_fault second) (names_fault l or_else tags_fault l second room nothing_read (good_tags text) or_else form) accepted
      ∙ none-or_else (names_fault l) (tags_fault l second room nothing_read (good_tags text) or_else form) (unless-passes (refusal 42 0 0) good)

  -- a tag's fault stands before the form
  pub tag-fault : {r : Refusal} → some r ≡ tags_fault l second room nothing_read (good_tags text) → read_fault text l second room ≡ some r
  unfolding ◌or_else◌
  tag-fault is = in-turn ∙ rw (← is) refl

  module _ (z : none ≡ tags_fault l second room nothing_read (good_tags text)) where
    -- then the form is tested
    pub form-fault : is_of_form set text ≡ false → read_fault text l second room ≡ some (refusal 41 (reach set text) 0)
    unfolding form
    form-fault f = in-turn ∙ none-or_else _ _ (sym z) ∙ unless-fails (refusal 41 (reach set text) 0) f

    -- without either there is no fault
    pub faultless : is_of_form set text ≡ true → read_fault text l second room ≡ none
    unfolding form
    faultless f = in-turn ∙ none-or_else _ _ (sym z) ∙ unless-passes (refusal 41 (reach set text) 0) f

-- a fault is refused
pub refused : {r : Refusal} (o : Option Refusal) → o ≡ some r → (output : List ℕ) (x : Outcome (List ℕ)) → outcome (refuse r) output ≡ refusing o output x
unfolding refusing
refused o e output x = rw e
