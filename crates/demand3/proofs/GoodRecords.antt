-- The records that the register prescribes are good ones: whole, with a mark, and marked only for rules that their context fits.
-- Assumes nothing.
use Prim.Native.Nat.{ℕ, ◌<◌, ◌≤◌}
use mathlib.Core.Path.{◌≡◌, refl, ◌∙◌}
use mathlib.Core.Bool.{Bool, true, false, not, ◌&&◌, ◌||◌}
use mathlib.Core.List.{List}
use mathlib.Core.Option.{none}
use native.Mathlib.Decide.{dec_lt}
use native.Mathlib.Nat.{lt_of_lt_of_le}
use native.Mathlib.Omega.{arith}
use borrow.Author.Tests.{eqb-true, lt-ltb}
use lib.ListN.{length}
use lib.Dec.{ltb}
use lib.Pow.{pow_mono}
use Rattle.words.specs.Lists.{keep}
use Rattle.word_laws.proofs.Every.{Every, every-weaken, every_map, every-keep, every-kept, kept-passes, every-forall, every-both}
use Rattle.word_laws.proofs.Bits.{bit-beyond, bits_below}
use Rattle.word_laws.proofs.First.{none_first, none-second, passes-unless}
use Rattle.word_laws.proofs.Tests.{both, both_first, all_below-true}
use Rattle.word_laws.proofs.Same.{same_refl}
use Rattle.format.specs.Layout.{request_bytes, most_rules}
use Rattle.format.specs.Request.{Request, request_fault}
use Rattle.format.specs.Rule.{Rule}
use Rattle.format.specs.Fits.{fits, place}
use Rattle.format.specs.Policy.{Policy}
use Rattle.format.specs.Table.{marked, good_marks, good_record}
use Rattle.format_laws.proofs.TableImage.{Whole}
use Rattle.register.specs.Run.{Event, Entry, entries_of, of_place}
use Rattle.register.specs.Register.{run_of, lies, lies_in_some}
use Rattle.register.specs.Image.{record_for, records_for}
use Rattle.demand3.proofs.Run.{run-place}
use Rattle.demand3.proofs.Lies.{stands, run_lies}
use Rattle.demand3.proofs.Step.{has-mark, marked-for}

-- a granted request has passed its check
abbrev pub Granted : Request → Type 0
Granted q = request_fault q ≡ none

-- all requests that a list has
abbrev pub AllGranted : List Event → Type 0
AllGranted l = Every (λ x. Granted x.request) (entries_of l)

-- an entry that lies in a run of a rule fits it
pub lies-fits : (p : Policy) (l : List Event) (i : ℕ) → Every (λ x. lies p l i x ≡ true → fits (p.rule i) x.request ≡ true) (entries_of l)
unfolding stands of_place run_of
lies-fits p l i =
    every-weaken {P = λ x. (key : List ℕ) → Q key x} {Q = λ x. lies p l i x ≡ true → fits r x.request ≡ true}
    (λ x q e. both_first _ _ (q (place r x.request) (both e (same_refl (place r x.request)))))
    (every-forall Q (entries_of l) each)
  where
    r : Rule
    r = p.rule i

    Q : List ℕ → Entry → Type 0
    Q key x = stands p i l key x ≡ true → of_place r key x ≡ true

    each : (key : List ℕ) → Every (Q key) (entries_of l)
    each key = every-kept (λ x. of_place r key x ≡ true) (stands p i l key) (entries_of l) (rw (run_lies p i key l) (run-place r key l))

module _ (p : Policy) (few : p.rules ≤ most_rules) (l : List Event) where
  -- the marks are those of rules that the entry fits
  marks-fit :
      (x : Entry) → ((i : ℕ) → lies p l i x ≡ true → fits (p.rule i) x.request ≡ true)
      → good_marks p (record_for p l x) ≡ true
  unfolding good_marks record_for
  marks-fit x fit = all_below-true most_rules _ (λ i h. go i (dec_lt i p.rules))
    where
      go : (i : ℕ) → Dec (i < p.rules) → not (marked i (record_for p l x)) || (ltb i p.rules && fits (p.rule i) x.request) ≡ true
      go i (no h) = rw (bit-beyond p.rules (λ j. lies p l j x) i (omega arith))
      go i (yes h) = rw (marked-for p l i x h, lt-ltb i p.rules h) (mark (lies p l i x) refl)
        where
          mark : (b : Bool) → lies p l i x ≡ b → not b || (true && fits (p.rule i) x.request) ≡ true
          mark true e = fit i e
          mark false e = refl

  -- what is known of an entry that the image has
  abbrev Known : Entry → Type 0
  Known x =
      Granted x.request
      × ((i : ℕ) → lies p l i x ≡ true → fits (p.rule i) x.request ≡ true)

  known : AllGranted l → Every (λ x. Known x × (lies_in_some p l x ≡ true)) (keep (lies_in_some p l) (entries_of l))
  known g =
      every-both Known (λ x. lies_in_some p l x ≡ true)
      (every-keep Known (lies_in_some p l)
      (every-both (λ x. Granted x.request) (λ x. (i : ℕ) → lies p l i x ≡ true → fits (p.rule i) x.request ≡ true)
      g
      (every-forall (λ i x. lies p l i x ≡ true → fits (p.rule i) x.request ≡ true) (entries_of l) (lies-fits p l))))
      (kept-passes (lies_in_some p l) (entries_of l))

  pub records-good : AllGranted l → Every (λ r. good_record p r ≡ true) (records_for p l)
  unfolding records_for good_record record_for request_fault
  records-good g = every_map (record_for p l) each (known g)
    where
      each : (x : Entry) → Known x × (lies_in_some p l x ≡ true) → good_record p (record_for p l x) ≡ true
      each x k = both (both (passes-unless _ _ (none-second _ _ k.0.0)) (marks-fit x k.0.1)) (has-mark p l x ∙ k.1)

  pub records-whole : AllGranted l → Every Whole (records_for p l)
  unfolding records_for record_for request_fault
  records-whole g = every_map (record_for p l) each (known g)
    where
      each : (x : Entry) → Known x × (lies_in_some p l x ≡ true) → Whole (record_for p l x)
      each x k =
          record {
            request-length = eqb-true (length x.request) request_bytes (passes-unless _ _ (none_first _ _ k.0.0));
            marks-fit = lt_of_lt_of_le (bits_below p.rules (λ i. lies p l i x)) (pow_mono few);
          }
