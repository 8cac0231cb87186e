-- The marks of a good record are those of the policy's rules, so no bit stands above them.
-- Assumes nothing.
use Prim.Native.Nat.{ℕ, zero, suc, ◌^◌, ◌<◌, ◌≤◌}
use native.Mathlib.Decide.{dec_lt}
use native.Mathlib.Omega.{arith}
use mathlib.Core.Path.{◌≡◌, refl, sym, ◌∙◌}
use mathlib.Core.Bool.{Bool, true, false, not, ◌&&◌, ◌||◌}
use lib.Dec.{ltb}
use borrow.Author.Tests.{ltb-true}
use Rattle.words.specs.Bytes.{bit, bits}
use Rattle.word_laws.proofs.Bits.{bits_below}
use Rattle.word_laws.proofs.BitLaws.{bits_of}
use Rattle.word_laws.proofs.Tests.{both_first, both-second, all_below-at}
use Rattle.format.specs.Layout.{most_rules}
use Rattle.format.specs.Request.{good_request}
use Rattle.format.specs.Fits.{fits}
use Rattle.format.specs.Policy.{Policy}
use Rattle.format.specs.Table.{Record, marked, has_mark, good_marks, good_record}

-- bits that are not set add nothing
bits-short : (n k : ℕ) (f : ℕ → Bool) → k ≤ n → ((i : ℕ) → k ≤ i → i < n → f i ≡ false) → bits n f ≡ bits k f
unfolding bits
bits-short zero k f le off = let e : k ≡ 0 = omega arith in rw e
bits-short (suc n) k f le off = go (dec_lt n k) (bits-short n k f)
  where
    go : Dec (n < k) → (k ≤ n → ((i : ℕ) → k ≤ i → i < n → f i ≡ false) → bits n f ≡ bits k f) → bits (suc n) f ≡ bits k f
    go (yes l) ih = let e : k ≡ suc n = omega arith in rw e
    go (no g) ih =
        let h : bits n f ≡ bits k f = ih (omega arith) (λ i lo hi. off i lo (omega arith)) in
        rw (off n (omega arith) (omega arith)) (omega arith)

module _ (p : Policy) (few : p.rules ≤ most_rules) (r : Record) where
  mark-off : good_marks p r ≡ true → (i : ℕ) → p.rules ≤ i → i < most_rules → marked i r ≡ false
  unfolding good_marks
  mark-off good i lo hi =
      go (marked i r) (ltb i p.rules) (fits (p.rule i) r.request) refl
      (all_below-at most_rules i (λ j. not (marked j r) || (ltb j p.rules && fits (p.rule j) r.request)) good hi)
    where
      go : (m l f : Bool) → ltb i p.rules ≡ l → not m || (l && f) ≡ true → m ≡ false
      go false l f e t = refl
      go true true f e t = absurd (omega (arith, ltb-true i p.rules e))
      go true false f e t = sym t

  pub marks-below : good_record p r ≡ true → r.marks < 4294967296 → r.marks < 2 ^ p.rules
  unfolding good_record
  marks-below good small =
      let marks = both-second (good_request r.request) (good_marks p r) (both_first (good_request r.request && good_marks p r) (has_mark r) good) in
      let e : r.marks ≡ bits p.rules (λ i. bit i r.marks) =
      bits_of most_rules r.marks (omega arith) ∙ bits-short most_rules p.rules (λ i. bit i r.marks) few (λ i lo hi. mark-off marks i lo hi) in
      omega (arith, e, bits_below p.rules (λ i. bit i r.marks))
