-- The loop over the rules: what holds after k of them, and how a turn ends.
-- Assumes nothing.
use Prim.Native.Nat.{ℕ, ◌+◌, ◌-◌, ◌<◌, ◌≤◌}
use native.Mathlib.Omega.{arith}
use mathlib.Core.Path.{◌≡◌, refl, sym, ◌∙◌}
use mathlib.Core.Bool.{true, false}
use mathlib.Core.List.{List}
use mathlib.Core.Option.{none, some}
use lib.ListN.{length}
use Rattle.words.specs.First.{first}
use Rattle.word_laws.proofs.First.{first-start, first-hit, first_more, first_done}
use Rattle.format.specs.Answer.{refusal}
use Rattle.format.specs.Layout.{most_rules}
use Rattle.format.specs.Block.{block}
use Rattle.format.specs.Rule.{rule_at}
use Rattle.format.specs.Policy.{policy_of, rule_count}
use Rattle.xml.specs.Write.{rule_text, rule_text_fault}
use Rattle.text_write.specs.Laid.{Lays}
use Rattle.text_write.specs.Lost.{rule_lost, has_range}
use Rattle.text_write.specs.Pieces.{most_rule_bytes, most_rules_bytes}
use Rattle.text_write.specs.Wrote.{inner_text, rules_fault}
use Rattle.text_write.proofs.Laying.{Row, row-start, row_more, row_done}
use Rattle.text_write.proofs.Faults.{fault-missing, fault-range, fault-none}

module _ (l s o : List ℕ) (a n : ℕ) where
  -- after k of n rules no name is missing, and what is left has the first fault of all
  pub record Turn (k : ℕ) (o' : List ℕ) (a' : ℕ) : Type 0 where
    pub inside : k ≤ n
    pub size : length o' ≡ length o
    pub row : Row most_rule_bytes (λ j. rule_text l (rule_at (block s j))) (λ j. rule_lost l (rule_at (block s j))) o a k o' a'
    pub rest : first (λ j. rule_text_fault l (rule_at (block s j))) k (n - k) ≡ rules_fault l (policy_of s)

  -- before the first rule
  pub turn-start : n ≡ rule_count s → Turn 0 o a
  unfolding rules_fault policy_of
  turn-start e =
      record {
        inside = omega arith;
        size = refl;
        row = row-start most_rule_bytes (λ j. rule_text l (rule_at (block s j))) (λ j. rule_lost l (rule_at (block s j))) o a;
        rest = first-start (λ j. rule_text_fault l (rule_at (block s j))) n ∙ rw e;
      }

  module _ (k : ℕ) {o' : List ℕ} {a' : ℕ} (t : Turn k o' a') (h : k < n) where
    -- a name of the rule is missing: the run ends with 42
    pub turn-missing : rule_lost l (rule_at (block s k)) ≡ true → rules_fault l (policy_of s) ≡ some (refusal 42 0 0)
    turn-missing m = sym (first-hit _ k n t.rest h (fault-missing l (rule_at (block s k)) m))

    module _ {o'' : List ℕ} {a'' : ℕ} (x : (rule_lost l (rule_at (block s k)) ≡ false) × Lays most_rule_bytes o' a' (rule_text l (rule_at (block s k))) o'' a'') where
      -- a level is a range: it ends with 43
      pub turn-range : has_range (rule_at (block s k)) ≡ true → rules_fault l (policy_of s) ≡ some (refusal 43 0 0)
      turn-range r = sym (first-hit _ k n t.rest h (fault-range l (rule_at (block s k)) x.0 r))

      -- neither: it goes on
      pub turn_more : has_range (rule_at (block s k)) ≡ false → length o'' ≡ length o' → Turn (k + 1) o'' a''
      turn_more r e =
          record {
            inside = omega arith;
            size = e ∙ t.size;
            row = row_more most_rule_bytes (λ j. rule_text l (rule_at (block s j))) (λ j. rule_lost l (rule_at (block s j))) o a k t.row x;
            rest = first_more _ k n t.rest h (fault-none l (rule_at (block s k)) x.0 r);
          }

  -- all rules are laid down, and none has a fault
  pub turn-done : (k : ℕ) {o' : List ℕ} {a' : ℕ} → Turn k o' a' → n ≤ k → n ≡ rule_count s → n ≤ most_rules
      → (rules_fault l (policy_of s) ≡ none) × Lays most_rules_bytes o a (inner_text l (policy_of s)) o' a'
  unfolding inner_text policy_of
  turn-done k t h e few =
      let i : k ≡ rule_count s = omega (arith, t.inside) in
      let x = row_done most_rule_bytes (λ j. rule_text l (rule_at (block s j))) (λ j. rule_lost l (rule_at (block s j))) o a k (rule_count s) most_rules_bytes t.row i (omega arith) in
      (sym (first_done _ k n t.rest h), x.1)
