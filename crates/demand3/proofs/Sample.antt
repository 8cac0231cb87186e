-- The sample session of document 01, "proved as one fact about judge and register", in bytes: the policy passes its check with two rules, and over the
-- fifteen requests, from a fresh table of one block, `decide` gives the fifteen answers, and so does the full register. The policy's check and the
-- register's answers are computed; the judge's are the register's by demand 3.
-- Assumes nothing.
use mathlib.Core.Path.{◌≡◌, refl, ◌∙◌}
use mathlib.Core.List.{[], flatten}
use mathlib.Core.Option.{none}
use native.Mathlib.Omega.{arith}
use Rattle.words.specs.Lists.{all_below, any_below, sum_below, tab}
use Rattle.words.specs.First.{◌or_else◌, unless, first}
use Rattle.words.specs.Bytes.{zero_from}
use Rattle.words.specs.Sums.{add_word, add_words, sums, words}
use Rattle.format.specs.Answer.{accept, accepting}
use Rattle.format.specs.Layout.{capacity}
use Rattle.format.specs.Block.{good_length, check_of, good_check, sum_bytes, sealed}
use Rattle.format.specs.Rule.{rule_at, good_mark, good_level, blank_level, good_step, good_steps, good_rule, good_roles, good_privileges, good_exclusion, blank_exclusion, good_rule_bytes, good_exclusion_at, rule_fault}
use Rattle.format.specs.Policy.{good_permission, good_permission_bytes, permission_fault, good_policy_header, policy_block_fault, policy_fault, rule_count, policy_of}
use Rattle.format.specs.Table.{fresh_table}
use Rattle.format.specs.Calls.{check_policy}
use Rattle.judge.specs.Decide.{decide}
use Rattle.judge.specs.Sample.{sample_policy, sample_requests, sample_answers}
use Rattle.register.specs.Register.{register_step}
use Rattle.register.specs.Demand3.{answers}
use Rattle.register.specs.Base.{BaseDemand3}
use Rattle.demand3.proofs.Base.{base-demand-3}
use Rattle.demand3.proofs.Fifteen.{fifteen}

pub record Session : Type 0 where
  pub policy : check_policy sample_policy ≡ accept 2
  pub judge : answers (decide sample_policy) (fresh_table sample_policy 1) sample_requests ≡ sample_answers
  pub register : answers (register_step (policy_of sample_policy) (capacity 1)) [] sample_requests ≡ sample_answers

-- what the policy's check computes with
opened : Unit {0}
unfolding all_below any_below sum_below tab flatten ◌or_else◌ unless first zero_from add_word add_words sums words accepting good_length check_of good_check sum_bytes
    sealed rule_at good_mark good_level blank_level good_step good_steps good_rule good_roles good_privileges good_exclusion blank_exclusion good_rule_bytes
    good_exclusion_at rule_fault good_permission good_permission_bytes permission_fault good_policy_header policy_block_fault policy_fault rule_count check_policy
    sample_policy
opened = tt

two-rules : check_policy sample_policy ≡ accept 2
unfolding opened
two-rules = refl

no-fault : policy_fault sample_policy ≡ none
unfolding opened
no-fault = refl

pub session : Session
unfolding BaseDemand3
session =
    record {
      policy = two-rules;
      judge = (base-demand-3 sample_policy no-fault 1 (omega arith) (omega arith) sample_requests).answers-same ∙ fifteen;
      register = fifteen;
    }
