-- What steps 4 and 5 answer: the three numbers, and the refusal 34.
-- Assumes nothing.
use Prim.Native.Nat.{ℕ, ◌+◌, ◌-◌}
use native.Mathlib.Omega.{arith}
use mathlib.Core.Path.{◌≡◌}
use mathlib.Core.Bool.{Bool, true, false, not}
use mathlib.Core.List.{List, [], ◌∷◌, map}
use lib.ListN.{length, length-append, length-map}
use lib.Dec.{leb}
use Rattle.words.specs.Lists.{keep}
use Rattle.words.specs.First.{unless}
use Rattle.word_laws.proofs.Keep.{keep-split}
use Rattle.format.specs.Answer.{Answer, grant, refuse, refusal, Outcome, refusing}
use Rattle.format.specs.Layout.{capacity}
use Rattle.format.specs.Block.{blocks}
use Rattle.format.specs.Request.{Request}
use Rattle.format.specs.Policy.{Policy, policy_of, stamp}
use Rattle.format.specs.Table.{Record, has_mark, records_of, table_image}
use Rattle.judge.specs.NewTable.{open_in, record_of, cleared, sweep, new_table, grant_of, table_after}
use Rattle.update.specs.Updating.{update_of}

-- the three numbers, from the records before and after
pub grant-numbers :
    (p : Policy) (q : Request) («open» : ℕ → Bool) (rs : List Record) (n recorded held : ℕ) → n ≡ length rs
    → recorded ≡ length (sweep (record_of p q «open» ∷ [])) → held ≡ length (new_table p q «open» rs)
    → grant recorded (n + recorded - held) held ≡ grant_of p q «open» rs
unfolding grant_of new_table sweep
grant-numbers p q «open» rs n recorded held en er eh =
    let split = keep-split has_mark (map (cleared p q «open») rs) in
    let all = length-map rs (cleared p q «open») in
    let sum = length-append (keep has_mark (map (cleared p q «open») rs)) (keep has_mark (record_of p q «open» ∷ [])) in
    let removed : n + recorded - held ≡ length (keep (λ r. not (has_mark r)) (map (cleared p q «open») rs)) = omega (arith, split, all, sum) in
    rw (removed, er, eh)

module _ (policy table q : List ℕ) where
  pub full :
      leb (length (table_after (policy_of policy) (records_of table) q)) (capacity (blocks table)) ≡ false
      → ◌≡◌ {A = Outcome (List ℕ)} (record { answer = refuse (refusal 34 0 0); state = table }) (update_of policy table q)
  unfolding update_of refusing unless
  full e = rw e

  pub fits_in :
      (a : Answer) (s : List ℕ)
      → leb (length (table_after (policy_of policy) (records_of table) q)) (capacity (blocks table)) ≡ true
      → a ≡ grant_of (policy_of policy) q (open_in (policy_of policy) (records_of table) q) (records_of table)
      → s ≡ table_image (stamp policy) (blocks table) (table_after (policy_of policy) (records_of table) q)
      → ◌≡◌ {A = Outcome (List ℕ)} (record { answer = a; state = s }) (update_of policy table q)
  unfolding update_of refusing unless
  fits_in a s e ea es = rw (e, ea, es)
