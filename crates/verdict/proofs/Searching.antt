-- Step 3: the search through the rules that judge and their exclusions.
-- Assumes nothing.
use Prim.Native.Nat.{ℕ, ◌+◌, ◌-◌, ◌^◌, ◌≤◌, ◌<◌}
use native.Mathlib.Decide.{dec_lt}
use native.Mathlib.Omega.{arith}
use mathlib.Core.Path.{◌≡◌, refl, sym, ap, ◌∙◌}
use mathlib.Core.Bool.{Bool, true, false, not, false≢true}
use mathlib.Core.List.{List, [], ◌∷◌, ◌++◌}
use mathlib.Core.Option.{Option, none, some}
use lib.Dec.{ltb}
use borrow.Author.Tests.{lt-ltb, ltb-true}
use Rattle.words.specs.First.{unless, first}
use Rattle.words.specs.Bytes.{byte_at, bit}
use Rattle.word_laws.proofs.First.{first_more, first-none}
use Rattle.word_laws.proofs.Bits.{bit-beyond}
use Rattle.word_laws.proofs.BitLaws.{bits_of}
use Rattle.format.specs.Answer.{Refusal, refusal}
use Rattle.format.specs.Layout.{most_rules, exclusions_at}
use Rattle.format.specs.Block.{block}
use Rattle.format.specs.Request.{Request}
use Rattle.format.specs.Rule.{exclusion_at}
use Rattle.format.specs.Policy.{rule_count}
use Rattle.judge.specs.Tally.{reached, exclusion_number}
use Rattle.matching.specs.declared.masks.Each.{Each}
use Rattle.history.specs.Code.{past_by}
use Rattle.verdict.specs.Code.{JudgingRules, fails_in, rule_fails}
use Rattle.verdict.proofs.Nested.{left, row-enter}

-- exclusion e of the rule of index i, whose block is b, over these requests
abbrev pub fails_at : List ℕ → ℕ → List Request → ℕ → Option Refusal
fails_at b i qs e = unless (not (reached (exclusion_at b e) qs)) (refusal (exclusion_number (exclusion_at b e)) (i + 1) (e + 1))

-- ---- one rule, over what it counts

abbrev pub counts : Each → Request → List ℕ → List ℕ → ℕ → List Request
counts each q table found i = past_by each q i table found ++ (q ∷ [])

module _ (policy : List ℕ) (rules : ℕ) (each : Each) (q : Request) (table found : List ℕ) (i : ℕ) where
  silent : bit i rules ≡ false → rule_fails policy rules each q table found i ≡ none
  unfolding rule_fails
  silent e = rw e

  heard : (b : List ℕ) (n : ℕ) → bit i rules ≡ true → b ≡ block policy i → n ≡ byte_at b exclusions_at
      → rule_fails policy rules each q table found i ≡ first (fails_at b i (counts each q table found i)) 0 n
  unfolding rule_fails fails_in
  heard b n e f h = rw (e, h, f)

  module _ {t : Option Refusal} (h : first (rule_fails policy rules each q table found) i (most_rules - i) ≡ t) (l : i < most_rules) where
    -- a rule that does not judge
    pub rule-silent : bit i rules ≡ false → first (rule_fails policy rules each q table found) (i + 1) (most_rules - (i + 1)) ≡ t
    rule-silent e = first_more (rule_fails policy rules each q table found) i most_rules h l (silent e)

    -- one that does: its exclusions are next
    pub rule-judges :
        (b : List ℕ) (n : ℕ) → bit i rules ≡ true → b ≡ block policy i → n ≡ byte_at b exclusions_at
        → left (rule_fails policy rules each q table found) (fails_at b i (counts each q table found i)) i most_rules 0 n ≡ t
    rule-judges b n e f k = row-enter (rule_fails policy rules each q table found) (fails_at b i (counts each q table found i)) i most_rules n h l (heard b n e f k)

-- where one that judges has an index as high, that index is one of all
pub few-rules : (rules i : ℕ) → rules < 4294967296 → i ≤ most_rules → ltb rules (2 ^ i) ≡ false → i < most_rules
few-rules rules i most le more = go (dec_lt i most_rules)
  where
    go : Dec (i < most_rules) → i < most_rules
    go (yes l) = l
    go (no g) = let e : i ≡ 32 = omega arith in absurd (false≢true (sym more ∙ lt-ltb rules (2 ^ i) (rw e most)))

-- the rules end where none that judges has an index as high: where no more are the policy's, at the latest
module _ (policy : List ℕ) (rules : ℕ) (each : Each) (q : Request) (table found : List ℕ) {t : Option Refusal} (i : ℕ) where
  rules-off : first (rule_fails policy rules each q table found) i (most_rules - i) ≡ t → ((j : ℕ) → i ≤ j → bit j rules ≡ false) → none ≡ t
  rules-off h off =
      sym (first-none (rule_fails policy rules each q table found) i (most_rules - i) (λ j lo hi. silent policy rules each q table found j (off j lo))) ∙ h

  pub rules-none : first (rule_fails policy rules each q table found) i (most_rules - i) ≡ t → ltb rules (2 ^ i) ≡ true → none ≡ t
  rules-none h few =
      rules-off h (λ j lo. ap (bit j) (bits_of i rules (ltb-true rules (2 ^ i) few)) ∙ bit-beyond i (λ k. bit k rules) j lo)

  pub rules-done : JudgingRules policy rules → first (rule_fails policy rules each q table found) i (most_rules - i) ≡ t → rule_count policy ≤ i → none ≡ t
  rules-done judging h past = rules-off h (λ j lo. off (bit j rules) refl (omega arith))
    where
      off : {j : ℕ} (b : Bool) → bit j rules ≡ b → rule_count policy ≤ j → bit j rules ≡ false
      off true e le = absurd (omega (arith, judging.below _ e))
      off false e le = e

-- ---- one exclusion

module _ (policy b : List ℕ) (i e : ℕ) (qs : List Request) (x : Bool) (same : x ≡ reached (exclusion_at b e) qs) where
  pub exclusion-fails : x ≡ true → fails_at b i qs e ≡ some (refusal (exclusion_number (exclusion_at b e)) (i + 1) (e + 1))
  unfolding unless
  exclusion-fails h = rw (← same, h)

  pub exclusion-passes : x ≡ false → fails_at b i qs e ≡ none
  unfolding unless
  exclusion-passes h = rw (← same, h)
