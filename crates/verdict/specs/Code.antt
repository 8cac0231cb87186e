-- What the values of the code stand for.
-- Assumes nothing.
use Rattle.std.specs.Prelude.{ℕ, ◌+◌, ◌≤◌, ◌<◌, ◌≡◌, true, cond, not, List, [], ◌∷◌, ◌++◌, eqb, Result, IfOk}
use Rattle.std.proofs.Math.Option.{Option, none}
use Rattle.words.specs.Lists.{tab}
use Rattle.words.specs.First.{unless, first}
use Rattle.words.specs.Bytes.{byte_at, bit}
use Rattle.format.specs.Answer.{Refusal, refusal}
use Rattle.format.specs.declared.answer.Refusal.{Refusal as Refused}
use Rattle.format.specs.Layout.{most_entries, permission_kind, highest_role, exclusions_at}
use Rattle.format.specs.Block.{block, kind}
use Rattle.format.specs.Request.{Request}
use Rattle.format.specs.Rule.{exclusion_at}
use Rattle.format.specs.Policy.{Policy, Permission, policy_fault, rule_count, permission_at, entries}
use Rattle.format.specs.Records.{records_here}
use Rattle.format.specs.Code.{fault_of}
use Rattle.judge.specs.Tally.{reached, exclusion_number}
use Rattle.judge.specs.Verdict.{verdict}
use Rattle.judge.specs.NewTable.{open_in, past_in}
use Rattle.matching.specs.declared.masks.Each.{Each}
use Rattle.matching.specs.Masks.{NearOf}
use Rattle.matching.specs.Sets.{EffectIs}
use Rattle.history.specs.Code.{past_by}
use Rattle.verdict.specs.declared.verdicts.Verdict.{Verdict}

-- ---- step 1

-- the entries of a permission block, none if it is a rule block
unfoldable pub entries_of : List ℕ → List Permission
entries_of b = cond (eqb (kind b) permission_kind) (tab (permission_at b) 0 (entries b)) []

-- what the check of a permission block says of its entries
pub record EntriesFit (b : List ℕ) : Type 0 where
  pub most : entries b ≤ most_entries
  pub low : (i : ℕ) → i < entries b → 1 ≤ (permission_at b i).role
  pub high : (i : ℕ) → i < entries b → (permission_at b i).role ≤ highest_role

-- ---- step 3

-- records for which the code has a small room
abbrev pub few_records : ℕ
few_records = 60

-- a set of rules of an accepted policy
pub record JudgingRules (policy : List ℕ) (rules : ℕ) : Type 0 where
  pub accepted : policy_fault policy ≡ none
  pub below : (i : ℕ) → bit i rules ≡ true → i < rule_count policy

-- the first exclusion of the rule of index i, whose block is b, that these requests reach
unfoldable pub fails_in : List ℕ → ℕ → List Request → Option Refusal
fails_in b i qs = first (λ e. unless (not (reached (exclusion_at b e) qs)) (refusal (exclusion_number (exclusion_at b e)) (i + 1) (e + 1))) 0 (byte_at b exclusions_at)

-- the same for a rule of the set, over its past among the records found and the request
unfoldable pub rule_fails : List ℕ → ℕ → Each → Request → List ℕ → List ℕ → ℕ → Option Refusal
rule_fails policy rules e q table found i = cond (bit i rules) (fails_in (block policy i) i (past_by e q i table found ++ (q ∷ []))) none

-- ---- steps 1 to 3 over the first n records of a table: the verdict; and, where nothing is against the request, what a grant ends and gives, and
-- blocks outside which no record loses a mark, by the masks e
pub record VerdictIs (p : Policy) (e : Each) (s : List ℕ) (n : ℕ) (q : Request) (v : Result Verdict Refused) : Type 0 where
  pub faults : fault_of v ≡ verdict p q (open_in p (records_here s n) q) (past_in p (records_here s n) q)
  pub effect_is : IfOk v (λ x. EffectIs p q (open_in p (records_here s n) q) x.effect)
  pub near-is : IfOk v (λ x. NearOf e x.effect.ends.0 q s n x.near)
