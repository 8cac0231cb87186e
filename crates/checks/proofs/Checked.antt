-- What the three checks come to, by whether a row applies.
-- Assumes nothing.
use Prim.Native.Nat.{ℕ, ◌≤◌}
use mathlib.Core.Path.{◌≡◌}
use mathlib.Core.Bool.{true, false}
use mathlib.Core.List.{List, []}
use mathlib.Core.Option.{none, some}
use native.Mathlib.Omega.{arith}
use lib.ListN.{length, get_or}
use mir.Val.{Fits}
use mir.Syntax.{w8}
use Rattle.format_laws.proofs.Accepted.{accepted-records, accepted-length}
use Rattle.table_write.proofs.SliceBytes.{slice-bytes}
use Rattle.words.specs.Sums.{Sums}
use Rattle.word_laws.proofs.First.{none-or_else, unless-passes, unless-fails}
use Rattle.format.specs.Answer.{accept, refuse, Refusal, refusal, accepting, refusing}
use Rattle.format.specs.Layout.{capacity}
use Rattle.format.specs.Block.{blocks, good_length}
use Rattle.format.specs.Policy.{policy_fault, rule_count, stamp}
use Rattle.format.specs.Table.{table_fault, table_length_fault, records_of, table_image, fresh_table}
use Rattle.format.specs.Calls.{check_policy, check_table, make_table}
use Rattle.format_laws.proofs.Rows.{first_some}

-- ---- a policy

pub policy-refused : (s : List ℕ) (r : Refusal) → policy_fault s ≡ some r → refuse r ≡ check_policy s
unfolding check_policy accepting
policy-refused s r e = rw e

pub policy-accepted : (s : List ℕ) (n : ℕ) → policy_fault s ≡ none → n ≡ rule_count s → accept n ≡ check_policy s
unfolding check_policy accepting
policy-accepted s n e h = rw (e, h)

-- ---- a table

module _ (policy table : List ℕ) where
  pub table-policy : (r : Refusal) → policy_fault policy ≡ some r → refuse r ≡ check_table policy table
  unfolding check_table accepting
  table-policy r e = rw (first_some (policy_fault policy) (table_fault policy table) r e)

  pub table-refused : (r : Refusal) → policy_fault policy ≡ none → table_fault policy table ≡ some r → refuse r ≡ check_table policy table
  unfolding check_table accepting
  table-refused r p e = rw (none-or_else (policy_fault policy) (table_fault policy table) p, e)

  pub table-accepted : (n : ℕ) → policy_fault policy ≡ none → table_fault policy table ≡ none → n ≡ length (records_of table) → accept n ≡ check_table policy table
  unfolding check_table accepting
  table-accepted n p e h = rw (none-or_else (policy_fault policy) (table_fault policy table) p, e, h)

  -- ---- a fresh table in a buffer

  pub fresh-policy : (r : Refusal) → policy_fault policy ≡ some r → record { answer = refuse r; state = table } ≡ make_table policy table
  unfolding make_table refusing
  fresh-policy r e = rw (first_some (policy_fault policy) (table_length_fault table) r e)

  pub fresh-length : policy_fault policy ≡ none → good_length 128 table ≡ false → record { answer = refuse (refusal 11 0 0); state = table } ≡ make_table policy table
  unfolding make_table refusing table_length_fault
  fresh-length p e = rw (none-or_else (policy_fault policy) (table_length_fault table) p, unless-fails (refusal 11 0 0) e)

  pub fresh-made :
      policy_fault policy ≡ none → good_length 128 table ≡ true
      → record { answer = accept (capacity (blocks table)); state = fresh_table policy (blocks table) } ≡ make_table policy table
  unfolding make_table refusing table_length_fault
  fresh-made p e = rw (none-or_else (policy_fault policy) (table_length_fault table) p, unless-passes (refusal 11 0 0) e)

-- a table that has passed has few records
pub records-few : (policy s : List ℕ) → ((i : ℕ) → Fits w8 (get_or s i 0)) → table_fault policy s ≡ none → length (records_of s) ≤ 1920
records-few policy s bytes e =
    omega (arith, (accepted-records policy s (slice-bytes s bytes) e).fit, (accepted-length policy s e).not-over)

pub fresh-written :
    (policy table : List ℕ) (n : ℕ) (t : List ℕ) (st : Sums)
    → policy_fault policy ≡ none → good_length 128 table ≡ true
    → n ≡ capacity (blocks table) → t ≡ table_image st (blocks table) [] → st ≡ stamp policy
    → record { answer = accept n; state = t } ≡ make_table policy table
unfolding fresh_table
fresh-written policy table n t st p e h k s = rw (h, k, s) (fresh-made policy table p e)
