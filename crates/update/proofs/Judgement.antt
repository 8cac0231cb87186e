-- Sets of rules and the judge: where sets say which rules end and which are given, clearing by sets is the judge's clearing, and the new table is the
-- judge's.
-- Assumes nothing.
use Prim.Native.Nat.{ℕ, ◌-◌, ◌^◌, ◌<◌}
use native.Mathlib.Omega.{arith}
use mathlib.Core.Path.{◌≡◌, refl, sym, ap, ap₂, ◌∙◌}
use mathlib.Core.Bool.{Bool, true, false, not, ◌&&◌}
use mathlib.Core.List.{List, [], ◌∷◌, ◌++◌}
use lib.Bits.{bit_and}
use Rattle.words.specs.Bytes.{bit, bits}
use Rattle.word_laws.proofs.Bits.{bit-bits, bits_below}
use Rattle.word_laws.proofs.BitLaws.{bit-without, same_bits}
use Rattle.word_laws.proofs.Every.{Every, map_same, every-weaken}
use Rattle.format.specs.Request.{Request}
use Rattle.format.specs.Fits.{same_place}
use Rattle.format.specs.Policy.{Policy}
use Rattle.format.specs.Table.{Record, marked}
use Rattle.judge.specs.NewTable.{ends, gives, record_of, cleared, sweep, new_table}
use Rattle.matching.specs.declared.masks.Each.{Each}
use Rattle.matching.specs.Masks.{apart_in, apart_by, together_by}
use Rattle.clearing.specs.Cleared.{kept_marks, cleared_by, left_by, after_by}

module _ (p : Policy) (q : Request) («open» : ℕ → Bool) where
  -- the rules that end
  ending : ℕ
  ending = bits p.rules (ends p q «open»)

  ends-bit : (i : ℕ) → i < p.rules → bit i ending ≡ ends p q «open» i
  unfolding ending
  ends-bit i h = bit-bits p.rules (ends p q «open») i h

  -- a number of marks that has no bit above the rules
  module _ (e : Each) (apart : (x : Request) → apart_by e q x ≡ apart_in p q x) (r : Record) (below : r.marks < 2 ^ p.rules) where
    keeps : ℕ → Bool
    keeps i = marked i r && not (ends p q «open» i && same_place (p.rule i) q r.request)

    kept-bit : (i : ℕ) → i < p.rules → bit i (kept_marks e q ending r.request r.marks) ≡ keeps i
    unfolding kept_marks together_by apart_in keeps
    kept-bit i h =
        bit-without i r.marks (ending - bit_and ending (apart_by e q r.request))
        ∙ ap (λ b. marked i r && not b)
        (bit-without i ending (apart_by e q r.request)
        ∙ ap₂ {C = Bool} (λ b c. b && not c) (ends-bit i h)
        (ap (bit i) (apart r.request) ∙ bit-bits p.rules (λ j. not (same_place (p.rule j) q r.request)) i h)
        ∙ ap (λ b. ends p q «open» i && b) (twice (same_place (p.rule i) q r.request)))
      where
        twice : (b : Bool) → not (not b) ≡ b
        twice true = refl
        twice false = refl

    cleared-same : cleared_by e q ending r ≡ cleared p q «open» r
    unfolding cleared_by kept_marks cleared keeps
    cleared-same =
        ap {B = Record} (λ m. record { request = r.request; marks = m })
        (same_bits p.rules (kept_marks e q ending r.request r.marks) (bits p.rules keeps) (omega (arith, below)) (bits_below p.rules keeps)
        (λ i h. kept-bit i h ∙ sym (bit-bits p.rules keeps i h)))

  pub after_same :
      (e : Each) → ((x : Request) → apart_by e q x ≡ apart_in p q x) → {rs : List Record} → Every (λ r. r.marks < 2 ^ p.rules) rs
      → after_by e q (bits p.rules (ends p q «open»)) (bits p.rules (gives p q «open»)) rs ≡ new_table p q «open» rs
  unfolding after_by left_by new_table ending record_of
  after_same e apart below =
      ap (λ (xs : List Record). sweep xs ++ sweep (record_of p q «open» ∷ []))
      (map_same (cleared_by e q ending) (cleared p q «open») (every-weaken (λ r b. cleared-same e apart r b) below))
