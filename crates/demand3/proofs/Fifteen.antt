-- The sample session of document 01 over the full register, computed: from no grant, with one block, the fifteen requests in bytes get the paper's
-- fifteen answers, and the image has records of the five that are held. It stands here and not beside the register's other examples because it is dear, and
-- each must-fail edit of crate register would compute it again.
-- Assumes nothing.
use Prim.Native.Nat.{ℕ}
use mathlib.Core.Path.{◌≡◌, refl}
use mathlib.Core.List.{[], ◌∷◌, flatten}
use lib.ListN.{get_or}
use Rattle.words.specs.Bytes.{bits}
use Rattle.words.specs.Sums.{add_word, add_words, sums, words}
use Rattle.format.specs.Layout.{capacity}
use Rattle.format.specs.Block.{check_of, sum_bytes, sealed}
use Rattle.format.specs.Rule.{rule_at}
use Rattle.format.specs.Policy.{rule_count, permissions_at, policy_of}
use Rattle.format.specs.Table.{Record}
use Rattle.judge.specs.Sample.{sample_policy, sample_requests, sample_answers}
use Rattle.register.specs.Register.{register_step}
use Rattle.register.specs.Image.{record_for, records_for}
use Rattle.register.specs.Demand3.{answers, after}
use Rattle.register.proofs.Examples.{opened}

-- what these two compute with besides
opened_bytes : Unit {0}
unfolding flatten add_word add_words sums words check_of sum_bytes sealed rule_at rule_count permissions_at policy_of sample_policy sample_requests sample_answers
opened_bytes = tt

pub fifteen : answers (register_step (policy_of sample_policy) (capacity 1)) [] sample_requests ≡ sample_answers
unfolding opened opened_bytes answers
fifteen = refl

-- the record of the paper's request n, from 1
abbrev kept : ℕ → ℕ → Record
kept n marks = record { request = get_or ([] ∷ sample_requests) n []; marks = marks }

-- rule 1 counts requests 4 and 10, rule 2 counts 12, 14 and 15
pub five-held :
    records_for (policy_of sample_policy) (after (register_step (policy_of sample_policy) (capacity 1)) [] sample_requests)
    ≡ kept 4 1 ∷ kept 10 1 ∷ kept 12 2 ∷ kept 14 2 ∷ kept 15 2 ∷ []
unfolding opened opened_bytes bits record_for records_for after
five-held = refl
