-- Steps 4 and 5 as the code takes them: the table that it leaves, and its answer.
-- Assumes nothing.
use Prim.Native.Nat.{ℕ, ◌+◌, ◌-◌, ◌^◌, ◌≤◌, ◌<◌}
use native.Mathlib.Omega.{arith}
use mathlib.Core.Path.{◌≡◌, refl, sym, ap, ap₂, ◌∙◌}
use mathlib.Core.Bool.{Bool, true, false, cond, not}
use mathlib.Core.List.{List, [], ◌∷◌}
use lib.ListN.{length}
use lib.Dec.{eqb, leb}
use borrow.Author.Tests.{not-true, not-false, leb-true, le-leb, lt-leb}
use Rattle.words.specs.Sums.{Sums}
use Rattle.word_laws.proofs.Every.{Every, every-both, every-weaken}
use Rattle.format.specs.Answer.{Answer, grant, refuse, refusal, Outcome}
use Rattle.format.specs.Layout.{capacity, request_bytes}
use Rattle.format.specs.Block.{blocks}
use Rattle.format.specs.Policy.{policy_of, rule_count}
use Rattle.format.specs.Table.{good_record, records_of, table_image}
use Rattle.format.specs.Records.{records_here}
use Rattle.format.specs.Altered.{altered_blocks}
use Rattle.format_laws.proofs.RecordImage.{Whole}
use Rattle.format_laws.proofs.AcceptedPolicy.{rules-most}
use Rattle.judge.specs.NewTable.{open_in, record_of, sweep, table_after}
use Rattle.matching.specs.declared.masks.Each.{Each}
use Rattle.fields.specs.declared.sets.RuleSet.{RuleSet}
use Rattle.clearing.specs.declared.ending.Ending.{Ending}
use Rattle.matching.proofs.Apart.{apart-is}
use Rattle.clearing.specs.Cleared.{after_by}
use Rattle.clearing.proofs.Left.{length-here, length-swept}
use Rattle.clearing.proofs.After.{after-few}
use Rattle.update.specs.Updating.{Judged, update_of}
use Rattle.update.proofs.Standing.{Standing, written-here}
use Rattle.update.proofs.AfterLaws.{after-whole}
use Rattle.update.proofs.Marks.{marks-below}
use Rattle.update.proofs.Judgement.{after_same}
use Rattle.update.proofs.Outcomes.{grant-numbers, full, fits_in}

rules-of : (s : List ℕ) → (policy_of s).rules ≡ rule_count s
unfolding policy_of
rules-of s = refl

-- the records held are no more than before and the request
pub held-few :
    (e : Each) (q : List ℕ) (ends gives : ℕ) (s : List ℕ) (n : ℕ) {held : ℕ}
    → held ≡ length (after_by e q ends gives (records_here s n)) → held ≤ n + cond (eqb gives 0) 0 1
held-few e q ends gives s n is = omega (arith, after-few e q ends gives (records_here s n), length-here s n)

pub room_fits : {r : Bool} (x room : ℕ) → r ≡ leb x room → not r ≡ false → x ≤ room
room_fits {r} x room is h = leb-true x room (sym is ∙ not-false r h)

-- so many records, counted, are more than there are places for, or not
pub too_many : {x held c room : ℕ} → held ≡ x → room ≡ c → room < held → false ≡ leb x c
too_many {x} {held} {c} {room} is has over = sym (lt-leb x c (omega (arith, is, has, over)))

pub few-enough : {x held c room : ℕ} → held ≡ x → room ≡ c → held ≤ room → true ≡ leb x c
few-enough {x} {held} {c} {room} is has fit = sym (le-leb x c (omega (arith, is, has, fit)))

module _ {policy : List ℕ} {t : Sums} {e : Ending} {given : RuleSet} {q s : List ℕ} {n : ℕ} (j : Judged policy t e given q s n) (st : Standing policy t s n) where
  few-of : (policy_of policy).rules ≤ 32
  few-of = omega (arith, rules-of policy, rules-most policy j.accepted)

  recorded-is : cond (eqb given.0 0) 0 1 ≡ length (sweep (record_of (policy_of policy) q (open_in (policy_of policy) (records_of s) q) ∷ []))
  unfolding record_of
  recorded-is =
      ap (λ (m : ℕ). cond (eqb m 0) 0 1) j.effect_is.gives-are
      ∙ sym (length-swept (record_of (policy_of policy) q (open_in (policy_of policy) (records_of s) q)))

  below : Every (λ r. r.marks < 2 ^ (policy_of policy).rules) (records_of s)
  below =
      rw (← st.here)
      (every-weaken (λ r h. marks-below (policy_of policy) (few-of) r h.0 h.1.marks-fit)
      (every-both (λ r. good_record (policy_of policy) r ≡ true) Whole st.good st.whole))

  after_is : after_by e.each q e.rules.0 given.0 (records_here s n) ≡ table_after (policy_of policy) (records_of s) q
  unfolding table_after
  after_is =
      rw (j.effect_is.ends-are, j.effect_is.gives-are, st.here)
      (after_same (policy_of policy) q (open_in (policy_of policy) (records_of s) q) e.each (apart-is policy j.accepted e.each j.masks q) below)

  module _ {r : Bool} (room : r ≡ leb (length (after_by e.each q e.rules.0 given.0 (records_here s n))) (capacity (blocks s))) where
    room-is : r ≡ leb (length (table_after (policy_of policy) (records_of s) q)) (capacity (blocks s))
    room-is = room ∙ ap (λ rs. leb (length rs) (capacity (blocks s))) after_is

    pub no_room : not r ≡ true → ◌≡◌ {A = Outcome (List ℕ)} (record { answer = refuse (refusal 34 0 0); state = s }) (update_of policy s q)
    no_room is = full policy s q (sym room-is ∙ not-true r is)

    pub granted-is :
        not r ≡ false → {s' : List ℕ} {held : ℕ} {x : Answer}
        → s' ≡ table_image t (blocks s) (after_by e.each q e.rules.0 given.0 (records_here s n))
        → held ≡ length (after_by e.each q e.rules.0 given.0 (records_here s n))
        → x ≡ grant (cond (eqb given.0 0) 0 1) (n + cond (eqb given.0 0) 0 1 - held) held
        → ◌≡◌ {A = Outcome (List ℕ)} (record { answer = x; state = s' }) (update_of policy s q)
    unfolding table_after
    granted-is is {s'} {held} {x} es' eh ex =
        fits_in policy s q x s' (sym room-is ∙ not-false r is)
        (ex
        ∙ grant-numbers (policy_of policy) q (open_in (policy_of policy) (records_of s) q) (records_of s) n _ held
        (sym (length-here s n) ∙ ap length st.here) recorded-is (eh ∙ ap length after_is))
        (es' ∙ ap₂ {C = List ℕ} (λ y rs. table_image y (blocks s) rs) j.stamp-is after_is)

    -- the blocks that were written have other records than before, and no others have
    pub written_is :
        length q ≡ request_bytes → given.0 < 4294967296 → not r ≡ false → {s' : List ℕ} {c : ℕ}
        → s' ≡ table_image t (blocks s) (after_by e.each q e.rules.0 given.0 (records_here s n))
        → c ≡ altered_blocks (blocks s) (records_here s n) (after_by e.each q e.rules.0 given.0 (records_here s n))
        → c ≡ altered_blocks (blocks s) (records_of s) (records_of s')
    written_is sized small is {s'} {c} es' ec =
        let after = after_by e.each q e.rules.0 given.0 (records_here s n) in
        written-here st (after-whole e.each q e.rules.0 given.0 (records_here s n) st.whole sized small)
        (room_fits (length after) (capacity (blocks s)) room is) es' ec
