-- What `close` comes to, by the first row that applies: a refusal with the table as it was and no block written, or the table without the records that the
-- context names.
-- Assumes nothing.
use Prim.Native.Nat.{ℕ, ◌-◌, ◌≤◌}
use native.Mathlib.Omega.{arith}
use mathlib.Core.Path.{◌≡◌, sym, ap, ap₂, ◌∙◌}
use mathlib.Core.List.{List}
use mathlib.Core.Option.{none, some}
use lib.ListN.{length}
use Rattle.words.specs.Sums.{Sums}
use Rattle.word_laws.proofs.Every.{Every, every-keep}
use Rattle.format.specs.Answer.{accept, refuse, Refusal, Outcome}
use Rattle.format.specs.Layout.{context_bytes, capacity}
use Rattle.format.specs.Block.{blocks}
use Rattle.format.specs.Context.{context_fault}
use Rattle.format.specs.Policy.{policy_fault, stamp}
use Rattle.format.specs.Table.{Record, table_fault, records_of, table_image}
use Rattle.format.specs.Records.{records_here}
use Rattle.format.specs.Altered.{altered_blocks}
use Rattle.format_laws.proofs.RecordImage.{Whole}
use Rattle.format_laws.proofs.Altered.{blocks-none}
use Rattle.judge.specs.Close.{closed, closed_out, close_fault, close}
use Rattle.judge.specs.Written.{closed_blocks}
use Rattle.clearing.proofs.Left.{length-here}
use Rattle.closed_records.proofs.Closed.{closed-split}
use Rattle.update.proofs.Standing.{Standing, written-here}
use Rattle.answers.specs.Code.{outcome}
use Rattle.format_laws.proofs.Rows.{policy-row, table-row, next_row, refused, passed, counted, first-length}

pub context-length : (c : List ℕ) → context_fault c ≡ none → length c ≡ context_bytes
unfolding context_fault
context-length c e = first-length c context_bytes _ _ e

module _ (policy table context : List ℕ) where
  refuses : (r : Refusal) → close_fault policy table context ≡ some r
      → (outcome (refuse r) table ≡ close policy table context) × (0 ≡ closed_blocks policy table context)
  unfolding close closed_blocks
  refuses r e =
      let is = refused (close_fault policy table context) table _ r e in
      (is, counted table is (sym (blocks-none (blocks table) (records_of table))))

  pub by-policy : (r : Refusal) → policy_fault policy ≡ some r → (outcome (refuse r) table ≡ close policy table context) × (0 ≡ closed_blocks policy table context)
  unfolding close_fault
  by-policy r e = refuses r (policy-row policy table (context_fault context) r e)

  module _ (policy-good : policy_fault policy ≡ none) where
    pub by-table : (r : Refusal) → table_fault policy table ≡ some r → (outcome (refuse r) table ≡ close policy table context) × (0 ≡ closed_blocks policy table context)
    unfolding close_fault
    by-table r e = refuses r (table-row policy table (context_fault context) policy-good r e)

    module _ (table-good : table_fault policy table ≡ none) where
      fault-is : close_fault policy table context ≡ context_fault context
      unfolding close_fault
      fault-is = next_row policy table (context_fault context) policy-good table-good

      pub by-context : (r : Refusal) → context_fault context ≡ some r → (outcome (refuse r) table ≡ close policy table context) × (0 ≡ closed_blocks policy table context)
      by-context r e = refuses r (fault-is ∙ e)

      -- over the n records that stand in the table: `held` are left of them, in the table s, of which c blocks were written
      module _ (context-good : context_fault context ≡ none) {t : Sums} {n : ℕ} (stamped : t ≡ stamp policy) (st : Standing policy t table n)
          {s : List ℕ} {held c : ℕ} (image : s ≡ table_image t (blocks table) (closed context (records_here table n)))
          (many : held ≡ length (closed context (records_here table n)))
          (written : c ≡ altered_blocks (blocks table) (records_here table n) (closed context (records_here table n))) where
        removed : n - held ≡ closed_out context (records_of table)
        removed = omega (arith, closed-split context (records_here table n), length-here table n) ∙ ap (closed_out context) st.here

        closed_is : outcome (accept (n - held)) s ≡ close policy table context
        unfolding close
        closed_is =
            ap₂ {C = Outcome (List ℕ)} (λ (k : ℕ) (x : List ℕ). outcome (accept k) x) removed
            (image ∙ ap₂ {C = List ℕ} (λ y rs. table_image y (blocks table) (closed context rs)) stamped st.here)
            ∙ passed (close_fault policy table context) table _ (fault-is ∙ context-good)

        whole : (rs : List Record) → Every Whole rs → Every Whole (closed context rs)
        unfolding closed
        whole rs ws = every-keep Whole _ ws

        pub closes : (outcome (accept (n - held)) s ≡ close policy table context) × (c ≡ closed_blocks policy table context)
        unfolding closed_blocks
        closes =
            let fit : length (closed context (records_here table n)) ≤ capacity (blocks table) = omega (arith, closed-split context (records_here table n), length-here table n, st.room.few) in
            (closed_is, counted table closed_is (written-here st (whole (records_here table n) st.whole) fit image written))
