-- The text that writing makes of a rule, and of a policy's rules, tag by tag: it is of the form, and its tags say the rules.
-- Assumes nothing.
use Prim.Native.Nat.{ℕ, zero, suc, ◌+◌, ◌≤◌, ◌<◌}
use native.Mathlib.Omega.{arith}
use mathlib.Core.Path.{◌≡◌, refl, sym, ap}
use mathlib.Core.Bool.{true, ◌||◌}
use mathlib.Core.List.{List, [], ◌∷◌, ◌++◌, flatten, append_assoc}
use mathlib.Core.Option.{none}
use borrow.Author.Tests.{eqb-true, le-leb}
use lib.Dec.{eqb}
use Rattle.words.specs.Lists.{tab}
use Rattle.word_laws.proofs.Tests.{both}
use Rattle.forms.proofs.Tests.{one_passes}
use Rattle.forms.specs.Form.{ascii, digit, is_of}
use Rattle.format.specs.Rule.{Exclusion, Rule}
use Rattle.format.specs.Policy.{Policy}
use Rattle.xml.specs.Names.{good_names}
use Rattle.xml.specs.Tags.{Tag, end_set, start_rule, start_exclusion, end_exclusion}
use Rattle.xml.specs.Write.{context_text, member_text, exclusion_text, rule_text, rules_text}
use Rattle.xml.specs.Write.{member_fault}
use Rattle.reader.specs.Words.{words, named as name_of_word}
use Rattle.xml_laws.proofs.TextPieces.{quoted}
use Rattle.xml_laws.proofs.TextSays.{Says, says_then, says_same, says_row}
use Rattle.xml_laws.proofs.TextTags.{Inside, last-step-too, plain_tag, one_tag, cardinality_tag, start-set, end-set, start-rule, end-rule, start-roles, start-privileges, end-roles, end-privileges}
use Rattle.xml_laws.proofs.TextRuleTags.{member_tag, exclusion_tags, rule_tags, rules_tags}
use Rattle.xml_laws.proofs.TextListed.{Writable, Listed, parts-listed, of-kind}
use Rattle.xml_laws.proofs.TextSpelling.{context-text, levels-texts}
use Rattle.xml_laws.proofs.TextSteps.{steps-written, role-written, privilege-written}

module _ {A : Type 0} where
  -- one element each, joined
  pub flatten-single : (f : ℕ → A) (k n : ℕ) → flatten (tab (λ i. f i ∷ []) k n) ≡ tab f k n
  unfolding flatten tab
  flatten-single f k zero = refl
  flatten-single f k (suc n) = ap {B = List A} (λ t. f k ∷ t) (flatten-single f (suc k) n)

-- a text, a row, and a word in three
four-texts : (a f b c d : List ℕ) → a ++ f ++ b ++ c ++ d ≡ a ++ (f ++ (b ++ c ++ d))
four-texts a f b c d = simp (append_assoc)

-- a start tag with a value c, two texts, a row and an end
rule-texts : (a b c e s t f z : List ℕ) → a ++ (b ++ c ++ 34 ∷ []) ++ e ++ s ++ t ++ f ++ z ≡ (a ++ b ++ (c ++ 34 ∷ e)) ++ (s ++ (t ++ (f ++ z)))
rule-texts a b c e s t f z = simp (append_assoc)

opened : Unit {0}
unfolding ascii words name_of_word quoted
opened = tt

-- m is written as a digit
one-digit : (m : ℕ) → m ≤ 9 → is_of digit (48 + m) ≡ true
unfolding is_of
one-digit m h = both (le-leb 48 (48 + m) (omega arith)) (le-leb (48 + m) 57 (omega arith))

module _ (l : List ℕ) (good : good_names l ≡ true) where
  -- its start tag, its members and its end tag, by what each of them says
  exclusion-of : (x : Exclusion) (a b : List ℕ) (s s' : ℕ)
      → exclusion_text l x ≡ a ++ (flatten (tab (λ i. member_text l x.kind (x.member i)) 0 x.n) ++ b)
      → Says s a (start_exclusion x.kind ((48 + x.m) ∷ []) ∷ []) s'
      → ((i : ℕ) → i < x.n → Says s' (member_text l x.kind (x.member i)) (member_tag l x.kind (x.member i) ∷ []) s')
      → Says s' b (end_exclusion ∷ []) 4 → Says s (exclusion_text l x) (exclusion_tags l x) 4
  unfolding exclusion_tags
  exclusion-of x a b s s' e start members end =
      let tags : ℕ → Tag = λ i. member_tag l x.kind (x.member i) in
      let start-tag = start_exclusion x.kind ((48 + x.m) ∷ []) in
      says_same e (ap {B = List Tag} (λ ts. start-tag ∷ ts ++ end_exclusion ∷ []) (sym (flatten-single tags 0 x.n)))
      (says_then start
      (says_row (λ t. t ≡ s') (λ i. member_text l x.kind (x.member i)) (λ i. tags i ∷ []) 0 x.n refl
      (λ i t lo hi at. rw at (members i (omega arith))) (λ t at. rw at end) s' refl))

  -- an exclusion among the parts of a rule, by its kind
  exclusion-written : (x : Exclusion) → eqb x.kind 1 || eqb x.kind 2 ≡ true → x.m ≤ 9
      → ((i : ℕ) → i < x.n → member_fault l x.kind (x.member i) ≡ none)
      → (s : ℕ) → Inside s → Says s (exclusion_text l x) (exclusion_tags l x) 4
  unfolding exclusion_text opened
  exclusion-written x kind small each s here =
      one_passes (eqb x.kind 1) (eqb x.kind 2) kind
      (λ e. of-kind Written 1 x (eqb-true x.kind 1 e) roles each)
      (λ e. of-kind Written 2 x (eqb-true x.kind 2 e) privileges each)
    where
      Written : Exclusion → Type 0
      Written y = ((i : ℕ) → i < y.n → member_fault l y.kind (y.member i) ≡ none) → Says s (exclusion_text l y) (exclusion_tags l y) 4

      -- this exclusion as one of a kind, and its members' texts then
      of : ℕ → Exclusion
      of k = record { kind = k; m = x.m; n = x.n; pad = x.pad; member = x.member }

      row : ℕ → List ℕ
      row k = flatten (tab (λ i. member_text l k (x.member i)) 0 x.n)

      roles : Written (of 1)
      roles h =
          exclusion-of (of 1) (cardinality_tag 6 (48 + x.m)) (plain_tag 7) s 5
          (four-texts (cardinality_tag 6 (48 + x.m)) (row 1) (ascii "</") (ascii "MMER") (ascii ">"))
          (start-roles (48 + x.m) (one-digit x.m small) here) (λ i b. role-written l good (x.member i) (h i b)) end-roles

      privileges : Written (of 2)
      privileges h =
          exclusion-of (of 2) (cardinality_tag 8 (48 + x.m)) (plain_tag 9) s 6
          (four-texts (cardinality_tag 8 (48 + x.m)) (row 2) (ascii "</") (ascii "MMEP") (ascii ">"))
          (start-privileges (48 + x.m) (one-digit x.m small) here) (λ i b. privilege-written l good (x.member i) (h i b)) end-privileges

  -- a rule's start tag
  context-written : (r : Rule) → Listed l r
      → Says 1 (one_tag 2 (ascii " BusinessContext=") (context_text l r)) (start_rule (context_text l r) ∷ []) 2
  context-written r h = rw (context-text l good r) (start-rule (levels-texts l good r h))

  -- a rule leads from the set into the set, and its tags say it
  pub rule-written : (r : Rule) → Writable l r → Says 1 (rule_text l r) (rule_tags l r) 1
  unfolding rule_text rule_tags opened
  rule-written r w =
      let h = parts-listed l r w.faultless in
      says_same (rule-texts (ascii "<MSoDPolicy") (ascii " BusinessContext=\"") (context_text l r) (ascii ">") _ _ _ (ascii "</MSoDPolicy>")) refl
      (says_then (context-written r h)
      (steps-written l good r.first_step r.last_step h.first_step h.last_step
      (says_row Inside (λ e. exclusion_text l (r.exclusion e)) (λ e. exclusion_tags l (r.exclusion e)) 0 r.exclusions last-step-too
      (λ e s lo hi here.
      exclusion-written (r.exclusion e) (w.kind e (omega arith)) (w.digit e (omega arith)) (h.member e (omega arith)) s here)
      (λ s here. end-rule here))))

  -- the rules lead from before the set to behind it, and their tags say them
  pub rules-written : (p : Policy) → ((k : ℕ) → k < p.rules → Writable l (p.rule k)) → Says 0 (rules_text l p) (rules_tags l p) 7
  unfolding rules_text rules_tags opened
  rules-written p w =
      says_same (append_assoc (ascii "<MSoDPolicySet>") (flatten (tab (λ k. rule_text l (p.rule k)) 0 p.rules)) (ascii "</MSoDPolicySet>")) refl
      (says_then start-set
      (says_row (λ s. s ≡ 1) {t = plain_tag 1} {ts = end_set ∷ []} (λ k. rule_text l (p.rule k)) (λ k. rule_tags l (p.rule k)) 0 p.rules refl
      (λ k s lo hi here. rw here (rule-written (p.rule k) (w k (omega arith)))) (λ s here. rw here end-set) 1 refl))
