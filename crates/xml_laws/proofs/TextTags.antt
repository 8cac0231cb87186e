-- Each kind of tag, as writing spells it: where it may stand, where it leads, and what it says.
-- Assumes nothing.
use Prim.Native.Nat.{ℕ}
use native.Mathlib.Omega.{arith}
use mathlib.Core.Path.{◌≡◌, refl, ap, ap₂, ◌∙◌}
use mathlib.Core.Bool.{true}
use mathlib.Core.List.{List, [], ◌∷◌, ◌++◌, map}
use Rattle.words.specs.Lists.{keep, any_of, same_list}
use Rattle.word_laws.proofs.Every.{Every, empty, more}
use Rattle.forms.specs.Form.{ascii, digit, of_name, name_byte, is_of, may_end, joined, bytes, is_nothing, either, left, lefts}
use Rattle.xml.specs.Tags.{squeezed, Tag, start_set, end_set, start_rule, end_rule, first_step, last_step, start_exclusion, end_exclusion, role, privilege, saying, rows, tag_of}
use Rattle.reader.specs.Table.{inner, ahead, rest, cardinality_rest}
use Rattle.reader.specs.Words.{words, named as name_of_word, word}
use Rattle.xml_laws.proofs.TextNames.{SomeOf}
use Rattle.xml_laws.proofs.TextPieces.{closed, Plain}
use Rattle.xml_laws.proofs.TextRests.{Takes, plain-rest, step-rest, role-rest, operation-rest, cardinality-rest}
use Rattle.xml_laws.proofs.TextContexts.{LevelText, levels_text, context-rest}
use Rattle.xml_laws.proofs.TextSays.{Says, Opens, says-tag}
use Rattle.xml_laws.proofs.TextClean.{Clean, clean-name, clean-digit, clean-levels, squeezed-none, squeezed-plain}

opened : Unit {0}
unfolding ascii name_byte is_of keep any_of same_list may_end joined is_nothing either left lefts bytes inner ahead words name_of_word rest squeezed saying rows tag_of
opened = tt

-- where exclusions, and the end of a rule, may stand: behind no step, the first alone, or the last and exclusions
pub data Inside : ℕ → Type 0 where
  no_step : Inside 2
  first-step-alone : Inside 3
  last-step-too : Inside 4

-- a tag without attributes
abbrev pub plain_tag : ℕ → List ℕ
plain_tag c = closed (word c ++ []) []

-- the set
pub start-set : Says 0 (plain_tag 0) (start_set ∷ []) 1
unfolding opened
start-set = says-tag 0 [] [] refl plain-rest (refl, refl) empty refl

pub end-set : Says 1 (plain_tag 1) (end_set ∷ []) 7
unfolding opened
end-set = says-tag 1 [] [] refl plain-rest (refl, refl) empty refl

-- the end of a rule, and of an exclusion of either kind
pub end-rule : {s : ℕ} → Inside s → Says s (plain_tag 3) (end_rule ∷ []) 1
unfolding opened
end-rule no_step = says-tag 3 [] [] refl plain-rest (refl, refl) empty refl
end-rule first-step-alone = says-tag 3 [] [] refl plain-rest (refl, refl) empty refl
end-rule last-step-too = says-tag 3 [] [] refl plain-rest (refl, refl) empty refl

pub end-roles : Says 5 (plain_tag 7) (end_exclusion ∷ []) 4
unfolding opened
end-roles = says-tag 7 [] [] refl plain-rest (refl, refl) empty refl

pub end-privileges : Says 6 (plain_tag 9) (end_exclusion ∷ []) 4
unfolding opened
end-privileges = says-tag 9 [] [] refl plain-rest (refl, refl) empty refl

-- a tag with one attribute, and its value
abbrev pub one_tag : ℕ → List ℕ → List ℕ → List ℕ
one_tag c p v = closed (word c ++ p) (v ∷ [] ∷ [])

-- its pieces are plain
one_value : {v : List ℕ} → Clean v → Every Plain (map squeezed (v ∷ [] ∷ []))
unfolding opened
one_value h = more (squeezed-plain h) (more (refl, refl) empty)

-- the start of a rule
pub start-rule : {ts : List (List ℕ)} → Every LevelText ts
    → Says 1 (one_tag 2 (ascii " BusinessContext=") (levels_text ts)) (start_rule (levels_text ts) ∷ []) 2
unfolding opened
start-rule {ts} h =
    let c = clean-levels h in
    says-tag 2 (ascii " BusinessContext=") (levels_text ts ∷ [] ∷ []) refl (context-rest h) (refl, refl) (one_value c) (ap start_rule c.full)

-- the start of an exclusion
abbrev pub cardinality_tag : ℕ → ℕ → List ℕ
cardinality_tag c d = one_tag c (ascii " ForbiddenCardinality=") (d ∷ [])

-- its first piece without white space is given apart: computing it again in each row of what tags say goes past the checker's limit
start-exclusion : {s s' : ℕ} (k c d : ℕ) (p : List ℕ) → is_of digit d ≡ true → rest c ≡ cardinality_rest
    → squeezed (word c ++ ascii " ForbiddenCardinality=") ≡ p → Plain p → ((v : List ℕ) → tag_of (p ∷ v ∷ [] ∷ []) ≡ start_exclusion k v)
    → Opens s c s' → Says s (cardinality_tag c d) (start_exclusion k (d ∷ []) ∷ []) s'
start-exclusion k c d p e r f h t o =
    let cl = clean-digit d e in
    says-tag c (ascii " ForbiddenCardinality=") ((d ∷ []) ∷ [] ∷ []) o (rw r (cardinality-rest d e)) (rw f h) (one_value cl)
    (rw (f, cl.full, squeezed-none) (t (d ∷ [])))

roles-start : {s : ℕ} (d : ℕ) → is_of digit d ≡ true → Opens s 6 5 → Says s (cardinality_tag 6 d) (start_exclusion 1 (d ∷ []) ∷ []) 5
unfolding opened
roles-start d e = start-exclusion 1 6 d (ascii "<MMERForbiddenCardinality=") e refl refl (refl, refl) (λ v. refl)

privileges-start : {s : ℕ} (d : ℕ) → is_of digit d ≡ true → Opens s 8 6 → Says s (cardinality_tag 8 d) (start_exclusion 2 (d ∷ []) ∷ []) 6
unfolding opened
privileges-start d e = start-exclusion 2 8 d (ascii "<MMEPForbiddenCardinality=") e refl refl (refl, refl) (λ v. refl)

pub start-roles : {s : ℕ} (d : ℕ) → is_of digit d ≡ true → Inside s → Says s (cardinality_tag 6 d) (start_exclusion 1 (d ∷ []) ∷ []) 5
unfolding opened
start-roles d e no_step = roles-start d e refl
start-roles d e first-step-alone = roles-start d e refl
start-roles d e last-step-too = roles-start d e refl

pub start-privileges : {s : ℕ} (d : ℕ) → is_of digit d ≡ true → Inside s → Says s (cardinality_tag 8 d) (start_exclusion 2 (d ∷ []) ∷ []) 6
unfolding opened
start-privileges d e no_step = privileges-start d e refl
start-privileges d e first-step-alone = privileges-start d e refl
start-privileges d e last-step-too = privileges-start d e refl

-- a tag with two attributes that ends in "/>"
abbrev pub two_tag : ℕ → List ℕ → List ℕ → List ℕ → List ℕ → List ℕ
two_tag c p v q w = closed (word c ++ p) (v ∷ q ∷ w ∷ ascii "/" ∷ [])

-- with two names as values it says what its pieces say
two-values : {s s' : ℕ} (says : List ℕ → List ℕ → Tag) (c : ℕ) (p v q w : List ℕ) → SomeOf of_name v → SomeOf of_name w
    → Takes (rest c) (closed p (v ∷ q ∷ w ∷ ascii "/" ∷ [])) → Plain (squeezed (word c ++ p)) → Plain (squeezed q)
    → ((x y : List ℕ) → tag_of (squeezed (word c ++ p) ∷ x ∷ squeezed q ∷ y ∷ squeezed (ascii "/") ∷ []) ≡ says x y)
    → Opens s c s' → Says s (two_tag c p v q w) (says v w ∷ []) s'
unfolding opened
two-values says c p v q w hv hw r h g t o =
    let cv = clean-name hv in
    let cw = clean-name hw in
    says-tag c p (v ∷ q ∷ w ∷ ascii "/" ∷ []) o r h (more (squeezed-plain cv) (more g (more (squeezed-plain cw) (more slash-plain empty))))
    (t (squeezed v) (squeezed w) ∙ ap₂ says cv.full cw.full)
  where
    slash-plain : Plain (squeezed (ascii "/"))
    slash-plain = (refl, refl)

-- steps, the last one behind none or behind the first
abbrev pub step_tag : ℕ → List ℕ → List ℕ → List ℕ
step_tag c o t = two_tag c (ascii " operation=") o (ascii " targetURI=") t

pub first-step-says : (o t : List ℕ) → SomeOf of_name o → SomeOf of_name t → Says 2 (step_tag 4 o t) (first_step o t ∷ []) 3
unfolding opened
first-step-says o t h g =
    two-values first_step 4 (ascii " operation=") o (ascii " targetURI=") t h g (step-rest o t h g) (refl, refl) (refl, refl) (λ x y. refl) refl

last-step-in : {s : ℕ} (o t : List ℕ) → SomeOf of_name o → SomeOf of_name t → Opens s 5 4 → Says s (step_tag 5 o t) (last_step o t ∷ []) 4
unfolding opened
last-step-in o t h g =
    two-values last_step 5 (ascii " operation=") o (ascii " targetURI=") t h g (step-rest o t h g) (refl, refl) (refl, refl) (λ x y. refl)

pub last-step-says : (o t : List ℕ) → SomeOf of_name o → SomeOf of_name t → Says 2 (step_tag 5 o t) (last_step o t ∷ []) 4
unfolding opened
last-step-says o t h g = last-step-in o t h g refl

pub last-step-behind : (o t : List ℕ) → SomeOf of_name o → SomeOf of_name t → Says 3 (step_tag 5 o t) (last_step o t ∷ []) 4
unfolding opened
last-step-behind o t h g = last-step-in o t h g refl

-- members
pub a-role : (v : List ℕ) → SomeOf of_name v → Says 5 (two_tag 10 (ascii " type=") (ascii "role") (ascii " value=") v) (role v ∷ []) 5
unfolding opened
a-role v h =
    let g : SomeOf of_name (ascii "role") = (omega arith, more refl (more refl (more refl (more refl empty)))) in
    two-values (λ x y. role y) 10 (ascii " type=") (ascii "role") (ascii " value=") v g h (role-rest (ascii "role") v g h)
    (refl, refl) (refl, refl) (λ x y. refl) refl

pub a-privilege : (o t : List ℕ) → SomeOf of_name o → SomeOf of_name t
    → Says 6 (two_tag 11 (ascii " value=") o (ascii " target=") t) (privilege o t ∷ []) 6
unfolding opened
a-privilege o t h g =
    two-values privilege 11 (ascii " value=") o (ascii " target=") t h g (operation-rest o t h g) (refl, refl) (refl, refl) (λ x y. refl) refl
