-- A rule's end: its context's names, then its limits.
-- Assumes nothing.
use Prim.Native.Nat.{ℕ}
use mathlib.Core.Path.{◌≡◌, refl, sym, ap, ◌∙◌}
use mathlib.Core.Bool.{Bool, true, false, not}
use mathlib.Core.List.{List, map}
use mathlib.Core.Option.{Option, none, some}
use borrow.Author.Tests.{not-true, not-false}
use Rattle.words.specs.First.{◌or_else◌, unless}
use Rattle.word_laws.proofs.First.{none-or_else, unless-passes, unless-fails, test-passes}
use Rattle.format.specs.Answer.{Refusal, refusal}
use Rattle.format.specs.Rule.{good_rule}
use Rattle.xml.specs.Names.{good_names}
use Rattle.xml.specs.Read.{within, level_texts, level_of, level_fault, first_of, Draft, rule_from, rule_of}
use Rattle.text_read.specs.Levels.{levels_listed}
use Rattle.text_read.proofs.LevelLaws.{levels-fault}

-- of a text v that is the rule's context
module _ (l : List ℕ) (d : Draft) (v : List ℕ) (same : v ≡ d.context) where
  -- the rule with the levels of it
  pub rule-same : rule_from (map (level_of l) (level_texts v)) d ≡ rule_of l d
  unfolding rule_of
  rule-same = ap (λ (c : List ℕ). rule_from (map (level_of l) (level_texts c)) d) same

  abbrev fault : Option Refusal
  fault = first_of (level_fault l) (level_texts d.context) or_else within (good_rule (rule_of l d))

  -- where a name of it is not listed, that is the fault
  pub rule-unlisted : {r : Refusal} → some r ≡ first_of (level_fault l) (level_texts v) → some r ≡ fault
  unfolding ◌or_else◌
  rule-unlisted is = rw (← same, ← is) refl

  -- else the limits decide
  pub rule-limits : {o : Option Refusal} → none ≡ first_of (level_fault l) (level_texts v)
      → o ≡ within (good_rule (rule_from (map (level_of l) (level_texts v)) d)) → o ≡ fault
  rule-limits good is =
      is ∙ ap (λ r. within (good_rule r)) rule-same
      ∙ sym (none-or_else _ _ (ap (λ (c : List ℕ). first_of (level_fault l) (level_texts c)) (sym same) ∙ sym good))

-- whether the names of its levels are listed was found out
module _
    (l : List ℕ) (good : good_names l ≡ true) (d : Draft) (v : List ℕ) (same : v ≡ d.context) (listed : Bool)
    (is : listed ≡ levels_listed l (level_texts v)) where
  names : first_of (level_fault l) (level_texts d.context) ≡ unless listed (refusal 42 0 0)
  names = levels-fault l good (level_texts d.context) ∙ ap (λ b. unless b (refusal 42 0 0)) (sym (is ∙ ap (λ (c : List ℕ). levels_listed l (level_texts c)) same))

  told : first_of (level_fault l) (level_texts d.context) or_else within (good_rule (rule_of l d))
      ≡ unless listed (refusal 42 0 0) or_else within (good_rule (rule_of l d))
  told = ap (λ (o : Option Refusal). o or_else within (good_rule (rule_of l d))) names

  -- else the limits decide, by a test of the rule
  module _ (passes : not listed ≡ false) (b : Bool) (tests : b ≡ good_rule (rule_of l d)) where
    limits : first_of (level_fault l) (level_texts d.context) or_else within (good_rule (rule_of l d)) ≡ within b
    limits =
        told
        ∙ test-passes (refusal 42 0 0) (within (good_rule (rule_of l d))) (not-false listed passes)
        ∙ ap (λ y. unless y (refusal 43 0 0)) (sym tests)

    pub rule-not-within : not b ≡ true → first_of (level_fault l) (level_texts d.context) or_else within (good_rule (rule_of l d)) ≡ some (refusal 43 0 0)
    rule-not-within h = limits ∙ unless-fails (refusal 43 0 0) (not-true b h)

    pub rule-within : not b ≡ false → first_of (level_fault l) (level_texts d.context) or_else within (good_rule (rule_of l d)) ≡ none
    rule-within h = limits ∙ unless-passes (refusal 43 0 0) (not-false b h)
