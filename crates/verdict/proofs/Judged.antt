-- Steps 1 to 3 from what their code finds: the rules that the request fits, the pass over the records, the rules that judge, and the search.
-- Assumes nothing.
use Prim.Native.Nat.{ℕ, zero, suc, ◌+◌, ◌≤◌, ◌<◌}
use native.Mathlib.Decide.{dec_lt}
use native.Mathlib.Omega.{arith}
use mathlib.Core.Path.{◌≡◌, refl, sym, ap, ◌∙◌}
use mathlib.Core.Bool.{Bool, true, false, cond, not, ◌&&◌, false≢true}
use mathlib.Core.List.{List, [], ◌∷◌, ◌++◌}
use mathlib.Core.Option.{Option, none, some}
use Rattle.words.specs.First.{◌or_else◌, unless, first}
use Rattle.words.specs.Bytes.{bit, bits}
use Rattle.word_laws.proofs.First.{first-same, first-none}
use Rattle.word_laws.proofs.Bits.{bit-none, bit-bits, bit-beyond, bits-same}
use Rattle.word_laws.proofs.BitLaws.{bits_none}
use Rattle.word_laws.proofs.Tests.{both_first}
use Rattle.format.specs.Answer.{Refusal, refusal}
use Rattle.format.specs.Layout.{most_rules}
use Rattle.format.specs.Block.{block}
use Rattle.format.specs.Request.{Request}
use Rattle.format.specs.Rule.{rule_at}
use Rattle.format.specs.Fits.{fits}
use Rattle.format.specs.Policy.{Policy, policy_fault, policy_of, rule_count}
use Rattle.format.specs.Table.{Record}
use Rattle.format.specs.Records.{records_here}
use Rattle.format_laws.proofs.AcceptedPolicy.{rules-most}
use Rattle.judge.specs.Tally.{counted}
use Rattle.judge.specs.Verdict.{permitted, is_last, judges, failing, verdict}
use Rattle.judge.specs.NewTable.{open_in, past_in, ends, gives}
use Rattle.matching.specs.declared.masks.Each.{Each}
use Rattle.matching.specs.declared.rules.Effect.{Effect}
use Rattle.matching.specs.Sets.{fitting_in, judging_in, EffectIs}
use Rattle.matching.specs.Masks.{EachOf}
use Rattle.history.specs.Code.{found_in, past_by}
use Rattle.history.proofs.Standing.{past_is}
use Rattle.verdict.specs.Code.{JudgingRules, fails_in, rule_fails}

-- a search that nothing answers from n on
first-front : {A : Type 0} (f : ℕ → Option A) (k n m : ℕ) → n ≤ m → ((i : ℕ) → k + n ≤ i → f i ≡ none) → first f k m ≡ first f k n
unfolding first
first-front f k zero m h rest = first-none f k m (λ i lo hi. rest i (omega arith))
first-front f k (suc n) zero h rest = absurd (omega arith)
first-front f k (suc n) (suc m) h rest = ap (λ o. f k or_else o) (first-front f (suc k) n m (omega arith) (λ i lo. rest i (omega arith)))

pub refused-some : {a : Refusal} → some a ≡ none → ⊥
refused-some h = let z : ◌≡◌ {A = ℕ} 0 1 = cc in omega arith

-- step 1 refuses
pub verdict-refused : (p : Policy) (q : Request) (rs : List Record) → permitted p q ≡ false → some (refusal 31 0 0) ≡ verdict p q (open_in p rs q) (past_in p rs q)
unfolding verdict unless ◌or_else◌
verdict-refused p q rs e = rw e

-- it does not, and the request fits these rules
module _ (policy : List ℕ) (q : Request) (fitting : ℕ) (fitting-are : fitting ≡ fitting_in (policy_of policy) q) (rs : List Record) where
  abbrev p : Policy
  p = policy_of policy

  fits-bit : (i : ℕ) → i < rule_count policy → bit i fitting ≡ fits (p.rule i) q
  unfolding fitting_in policy_of
  fits-bit i h = ap (bit i) fitting-are ∙ bit-bits (rule_count policy) _ i h

  -- what each rule finds
  row : ℕ → Option Refusal
  row i = cond (judges (p.rule i) q (open_in p rs q i)) (failing i (p.rule i) q (past_in p rs q i)) none

  verdict-rows : permitted p q ≡ true → verdict p q (open_in p rs q) (past_in p rs q) ≡ first row 0 (rule_count policy)
  unfolding verdict unless ◌or_else◌ policy_of row
  verdict-rows e = rw e

  -- ---- it fits none

  module _ (nowhere : fitting ≡ 0) where
    silent-at : (i : ℕ) → i < rule_count policy → judges (p.rule i) q (open_in p rs q i) ≡ false
    unfolding judges
    silent-at i h = rw (sym (fits-bit i h) ∙ ap (bit i) nowhere ∙ bit-none i)

    row-silent : (i : ℕ) → i < rule_count policy → row i ≡ none
    unfolding row
    row-silent i h = rw (silent-at i h)

    pub verdict-silent : permitted (policy_of policy) q ≡ true → none ≡ verdict (policy_of policy) q (open_in (policy_of policy) rs q) (past_in (policy_of policy) rs q)
    verdict-silent granted = sym (verdict-rows granted ∙ first-none row 0 (rule_count policy) (λ i lo hi. row-silent i (omega arith)))

    no-rule : (f : ℕ → Bool) → 0 ≡ bits (rule_count policy) (λ i. judges (p.rule i) q (open_in p rs q i) && f i)
    no-rule f = sym (bits-same (rule_count policy) _ (λ i. false) (λ i h. ap (λ (b : Bool). b && f i) (silent-at i h)) ∙ bits_none (rule_count policy))

    pub effect-silent : (e : Effect) → e.ends.0 ≡ 0 → e.gives.0 ≡ 0 → EffectIs (policy_of policy) q (open_in (policy_of policy) rs q) e
    unfolding ends gives policy_of
    effect-silent e x y =
        record { ends-are = x ∙ no-rule (λ i. is_last (p.rule i) q); gives-are = y ∙ no-rule (λ i. not (is_last (p.rule i) q)) }

  -- ---- it fits some, and these judge

  module _ (accepted : policy_fault policy ≡ none) (rules : ℕ) (are : rules ≡ judging_in (policy_of policy) q (open_in (policy_of policy) rs q)) where
    bit-judges : (i : ℕ) → i < rule_count policy → bit i rules ≡ judges (p.rule i) q (open_in p rs q i)
    unfolding judging_in policy_of
    bit-judges i h = ap (bit i) are ∙ bit-bits (rule_count policy) _ i h

    past-rules : (i : ℕ) → rule_count policy ≤ i → bit i rules ≡ false
    unfolding judging_in policy_of
    past-rules i h = ap (bit i) are ∙ bit-beyond (rule_count policy) _ i h

    pub judging-rules : JudgingRules policy rules
    judging-rules = record { accepted = accepted; below = λ i e. go i e (dec_lt i (rule_count policy)) }
      where
        go : (i : ℕ) → bit i rules ≡ true → Dec (i < rule_count policy) → i < rule_count policy
        go i e (yes h) = h
        go i e (no h) = absurd (false≢true (sym (past-rules i (omega arith)) ∙ e))

    judging-fits : (i : ℕ) → i < rule_count policy → bit i rules ≡ true → bit i fitting ≡ true
    unfolding judges
    judging-fits i h e = fits-bit i h ∙ both_first _ _ (sym (bit-judges i h) ∙ e)

    -- so a rule that ends fits
    pub ending-fits : (e : Effect) → EffectIs (policy_of policy) q (open_in (policy_of policy) rs q) e → (i : ℕ) → bit i e.ends.0 ≡ true → bit i fitting ≡ true
    unfolding ends judges policy_of
    ending-fits e is i on = go (dec_lt i (rule_count policy))
      where
        go : Dec (i < rule_count policy) → bit i fitting ≡ true
        go (yes h) =
            let last = sym (bit-bits (rule_count policy) _ i h) ∙ sym (ap (bit i) is.ends-are) ∙ on in
            fits-bit i h ∙ both_first _ _ (both_first _ _ last)
        go (no h) = absurd (false≢true (sym (ap (bit i) is.ends-are ∙ bit-beyond (rule_count policy) _ i (omega arith)) ∙ on))

    module _ (each : Each) (table found : List ℕ) where
      -- what the search asks of the rules past the policy's
      row-past : (i : ℕ) → rule_count policy ≤ i → rule_fails policy rules each q table found i ≡ none
      unfolding rule_fails
      row-past i h = rw (past-rules i h)

      -- and of its own, where their pasts are what the user did in their run places
      module _ (pasts : (i : ℕ) → bit i fitting ≡ true → past_by each q i table found ++ (q ∷ []) ≡ counted q (past_in (policy_of policy) rs q i)) where
        rule-same : (i : ℕ) → i < rule_count policy → bit i rules ≡ true
            → fails_in (block policy i) i (past_by each q i table found ++ (q ∷ [])) ≡ failing i (p.rule i) q (past_in p rs q i)
        unfolding fails_in failing policy_of rule_at
        rule-same i h e = rw (pasts i (judging-fits i h e))

        row_same : (i : ℕ) → i < rule_count policy → rule_fails policy rules each q table found i ≡ row i
        unfolding rule_fails row
        row_same i h = go (bit i rules) refl
          where
            go :
                (t : Bool) → bit i rules ≡ t
                → cond (bit i rules) (fails_in (block policy i) i (past_by each q i table found ++ (q ∷ []))) none ≡ cond (judges (p.rule i) q (open_in p rs q i)) (failing i (p.rule i) q (past_in p rs q i)) none
            go true e = rw (← bit-judges i h, e) (rule-same i h e)
            go false e = rw (← bit-judges i h, e)

        pub search_is : permitted (policy_of policy) q ≡ true
            → first (rule_fails policy rules each q table found) 0 most_rules ≡ verdict (policy_of policy) q (open_in (policy_of policy) rs q) (past_in (policy_of policy) rs q)
        search_is granted =
            first-front (rule_fails policy rules each q table found) 0 (rule_count policy) most_rules (rules-most policy accepted) (λ i lo. row-past i (omega arith))
            ∙ first-same (rule_fails policy rules each q table found) row 0 (rule_count policy) (λ i lo hi. row_same i (omega arith))
            ∙ sym (verdict-rows granted)

-- what the search finds over the records that the pass has put down
pub verdict-found :
    (policy : List ℕ) (q : Request) (fitting : ℕ) (fitting-are : fitting ≡ fitting_in (policy_of policy) q) (table : List ℕ) (n : ℕ) (accepted : policy_fault policy ≡ none) (rules : ℕ)
    → rules ≡ judging_in (policy_of policy) q (open_in (policy_of policy) (records_here table n) q) → (each : Each) → EachOf (policy_of policy) each
    → permitted (policy_of policy) q ≡ true → (found : List ℕ) → found ≡ found_in each fitting q table n
    → first (rule_fails policy rules each q table found) 0 most_rules ≡ verdict (policy_of policy) q (open_in (policy_of policy) (records_here table n) q) (past_in (policy_of policy) (records_here table n) q)
unfolding counted
verdict-found policy q fitting fitting-are table n accepted rules are each is granted found e =
    search_is policy q fitting fitting-are (records_here table n) accepted rules are each table found
    (λ i f. ap (λ (l : List Request). l ++ (q ∷ [])) (ap (past_by each q i table) e ∙ past_is policy accepted each is q fitting fitting-are i f table n)) granted
