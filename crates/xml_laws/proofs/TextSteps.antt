-- Steps and members as they are written, and what they say.
-- Assumes nothing.
use Prim.Native.String.{String}
use Prim.Native.Nat.{ℕ}
use mathlib.Core.Path.{◌≡◌}
use mathlib.Core.Bool.{Bool, true, false, cond}
use mathlib.Core.List.{List, [], ◌∷◌, ◌++◌, append_assoc}
use mathlib.Core.Option.{Option, none}
use Rattle.words.specs.First.{◌or_else◌}
use Rattle.word_laws.proofs.First.{none_first, none-second}
use Rattle.forms.specs.Form.{ascii, of_name}
use Rattle.format.specs.Answer.{Refusal}
use Rattle.format.specs.Rule.{Privilege, Step, is_set}
use Rattle.xml.specs.Names.{role_names, operation_names, target_names, good_names, name_of}
use Rattle.xml.specs.Tags.{Tag, first_step, last_step}
use Rattle.xml.specs.Read.{listed}
use Rattle.xml.specs.Write.{name_text, attribute_text, step_text, member_text}
use Rattle.xml.specs.Write.{step_text_fault, member_fault}
use Rattle.reader.specs.Words.{words, named as name_of_word}
use Rattle.xml_laws.proofs.TextNames.{SomeOf, named}
use Rattle.xml_laws.proofs.TextPieces.{quoted}
use Rattle.xml_laws.proofs.TextSays.{Says, says_then}
use Rattle.xml_laws.proofs.TextTags.{Inside, no_step, first-step-alone, last-step-too, step_tag, first-step-says, last-step-says, last-step-behind, a-role, a-privilege}
use Rattle.xml_laws.proofs.TextRuleTags.{step_tags, member_tag}

-- two attributes with a and b before their values v and w, as they are written and in pieces
two-attributes : (x a v b w e : List ℕ)
    → x ++ (a ++ v ++ 34 ∷ []) ++ (b ++ w ++ 34 ∷ []) ++ e ≡ x ++ a ++ (v ++ 34 ∷ (b ++ (w ++ 34 ∷ e)))
two-attributes x a v b w e = simp (append_assoc)

opened : Unit {0}
unfolding ascii words name_of_word quoted
opened = tt

-- a step's text
abbrev step_body : String → List ℕ → List ℕ → List ℕ
step_body n o t = ascii "<" ++ ascii n ++ attribute_text "operation" o ++ attribute_text "targetURI" t ++ ascii "/>"

first-step-text : (o t : List ℕ) → step_body "FirstStep" o t ≡ step_tag 4 o t
unfolding opened
first-step-text o t = two-attributes (ascii "<FirstStep") (ascii " operation=\"") o (ascii " targetURI=\"") t (ascii "/>")

last-step-text : (o t : List ℕ) → step_body "LastStep" o t ≡ step_tag 5 o t
unfolding opened
last-step-text o t = two-attributes (ascii "<LastStep") (ascii " operation=\"") o (ascii " targetURI=\"") t (ascii "/>")

module _ (l : List ℕ) (good : good_names l ≡ true) where
  -- an operation's and a target's name
  both-named : (o t : ℕ) → listed (name_of l operation_names o) or_else listed (name_of l target_names t) ≡ none
      → SomeOf of_name (name_text l operation_names o) × SomeOf of_name (name_text l target_names t)
  both-named o t h =
      (named l operation_names o good (none_first _ _ h), named l target_names t good (none-second (listed (name_of l operation_names o)) _ h))

  -- a step if it is set, and then what may follow in the state behind it, and in that before it
  step-written : (n : String) (says : List ℕ → List ℕ → Tag) {s s' e : ℕ} {u : List ℕ} {ts : List Tag}
      → ((o t : List ℕ) → SomeOf of_name o → SomeOf of_name t → Says s (step_body n o t) (says o t ∷ []) s')
      → (x : Step) → step_text_fault l x ≡ none → Says s u ts e → Says s' u ts e → Says s (step_text l n x ++ u) (step_tags l says x ++ ts) e
  unfolding step_text_fault step_text step_tags
  step-written n says {s} {s'} {e} {u} {ts} tag x h without with =
      go (is_set x) (λ f. let g = both-named x.privilege.operation x.privilege.target f in says_then (tag o t g.0 g.1) with) h
    where
      o : List ℕ
      o = name_text l operation_names x.privilege.operation

      t : List ℕ
      t = name_text l target_names x.privilege.target

      fault : Option Refusal
      fault = listed (name_of l operation_names x.privilege.operation) or_else listed (name_of l target_names x.privilege.target)

      go : (set : Bool) → (fault ≡ none → Says s (step_body n o t ++ u) (says o t ∷ ts) e) → cond set fault none ≡ none
          → Says s (cond set (step_body n o t) [] ++ u) (cond set (says o t ∷ []) [] ++ ts) e
      go true f h = f h
      go false f h = without

  -- the steps of a rule, and then what may follow in any state behind them
  pub steps-written : (f g : Step) {u : List ℕ} {ts : List Tag} {e : ℕ} → step_text_fault l f ≡ none → step_text_fault l g ≡ none
      → ((s : ℕ) → Inside s → Says s u ts e)
      → Says 2 (step_text l "FirstStep" f ++ (step_text l "LastStep" g ++ u)) (step_tags l first_step f ++ (step_tags l last_step g ++ ts)) e
  steps-written f g hf hg end =
      step-written "FirstStep" first_step (λ o t a b. rw (first-step-text o t) (first-step-says o t a b)) f hf
      (step-written "LastStep" last_step (λ o t a b. rw (last-step-text o t) (last-step-says o t a b)) g hg (end 2 no_step) (end 4 last-step-too))
      (step-written "LastStep" last_step (λ o t a b. rw (last-step-text o t) (last-step-behind o t a b)) g hg (end 3 first-step-alone)
      (end 4 last-step-too))

  -- a member of each kind
  pub role-written : (p : Privilege) → member_fault l 1 p ≡ none → Says 5 (member_text l 1 p) (member_tag l 1 p ∷ []) 5
  unfolding member_fault member_text member_tag opened
  role-written p h =
      let v = name_text l role_names p.operation in
      rw (two-attributes (ascii "<Role") (ascii " type=\"") (ascii "role") (ascii " value=\"") v (ascii "/>"))
      (a-role v (named l role_names p.operation good h))

  pub privilege-written : (p : Privilege) → member_fault l 2 p ≡ none → Says 6 (member_text l 2 p) (member_tag l 2 p ∷ []) 6
  unfolding member_fault member_text member_tag opened
  privilege-written p h =
      let g = both-named p.operation p.target h in
      let o = name_text l operation_names p.operation in
      let t = name_text l target_names p.target in
      rw (two-attributes (ascii "<Operation") (ascii " value=\"") o (ascii " target=\"") t (ascii "/>")) (a-privilege o t g.0 g.1)
