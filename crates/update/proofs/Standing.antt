-- An accepted table is the image of the n records that stand in it, and they are those that it says.
-- Assumes nothing.
use Prim.Native.Nat.{ℕ, ◌≤◌}
use native.Mathlib.Omega.{arith}
use mathlib.Core.Path.{◌≡◌, refl, sym, ap, ap₂, ◌∙◌}
use mathlib.Core.Bool.{true, ◌&&◌}
use mathlib.Core.List.{List}
use mathlib.Core.Option.{none}
use lib.ListN.{length}
use Rattle.words.specs.Lists.{keep}
use Rattle.words.specs.Sums.{Sums}
use Rattle.word_laws.proofs.Every.{Every, empty, more}
use Rattle.word_laws.proofs.Bytes.{Byte}
use Rattle.word_laws.proofs.Tests.{both-second}
use Rattle.format.specs.Layout.{capacity}
use Rattle.format.specs.Block.{blocks}
use Rattle.format.specs.Request.{good_request}
use Rattle.format.specs.Policy.{Policy, policy_of, stamp}
use Rattle.format.specs.Table.{Record, has_mark, good_marks, good_record, table_fault, records_of, table_image}
use Rattle.format.specs.Records.{records_here}
use Rattle.format.specs.Altered.{altered_blocks}
use Rattle.format_laws.proofs.RecordImage.{Whole}
use Rattle.format_laws.proofs.TableImage.{reads-back}
use Rattle.format_laws.proofs.Accepted.{accepted-length, accepted-image, accepted-records}
use Rattle.judge.specs.NewTable.{sweep}
use Rattle.table_write.proofs.Records.{image-here}
use Rattle.fields.specs.Code.{HasRoom}
use Rattle.clearing.specs.Cleared.{AllMarked}

pub record Standing (policy : List ℕ) (t : Sums) (s : List ℕ) (n : ℕ) : Type 0 where
  pub image : s ≡ table_image t (blocks s) (records_here s n)
  pub here : records_here s n ≡ records_of s
  pub good : Every (λ r. good_record (policy_of policy) r ≡ true) (records_here s n)
  pub whole : Every Whole (records_here s n)
  pub room : HasRoom s n
  pub marked : AllMarked s n

-- good records have marks
swept : (p : Policy) {rs : List Record} → Every (λ r. good_record p r ≡ true) rs → sweep rs ≡ rs
unfolding sweep keep good_record
swept p empty = refl
swept p (more {x = r} h t) = rw (both-second (good_request r.request && good_marks p r) (has_mark r) h, swept p t)

-- a table written over it: the blocks that differ, told by the records that both say
pub written-here :
    {policy : List ℕ} {t : Sums} {s : List ℕ} {n : ℕ} → Standing policy t s n → {rs : List Record} → Every Whole rs → length rs ≤ capacity (blocks s)
    → {s' : List ℕ} {c : ℕ} → s' ≡ table_image t (blocks s) rs → c ≡ altered_blocks (blocks s) (records_here s n) rs
    → c ≡ altered_blocks (blocks s) (records_of s) (records_of s')
written-here {t = t} {s = s} st {rs} whole fit is written =
    written ∙ ap₂ {C = ℕ} (altered_blocks (blocks s)) st.here (sym (ap records_of is ∙ reads-back t (blocks s) rs st.room.most whole fit))

-- by what acceptance says of policy and table
pub standing : {policy : List ℕ} {t : Sums} {s : List ℕ} {n : ℕ} → Every Byte s → table_fault policy s ≡ none → t ≡ stamp policy
    → n ≡ length (records_of s) → Standing policy t s n
standing {policy} {t} {s} {n} bytes a stamped held =
    let l = accepted-length policy s a in
    let f = accepted-records policy s bytes a in
    let e = accepted-image policy s bytes a in
    let here : records_here s n ≡ records_of s =
    ap (λ (x : List ℕ). records_here x n) (sym e)
    ∙ ap (records_here (table_image (stamp policy) (blocks s) (records_of s))) held
    ∙ image-here (stamp policy) (blocks s) (records_of s) f.whole f.fit in
    record {
      image = sym e ∙ ap₂ {C = List ℕ} (λ x rs. table_image x (blocks s) rs) (sym stamped) (sym here);
      here = here;
      good = rw here f.good;
      whole = rw here f.whole;
      room = record { whole = l.whole-blocks; most = l.not-over; few = omega (arith, held, f.fit) };
      marked = rw here (swept (policy_of policy) f.good);
    }
