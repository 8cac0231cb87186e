-- The records that a table holds after a grant, and their number.
-- Assumes nothing.
use Prim.Native.Nat.{ℕ, ◌+◌, ◌≤◌}
use native.Mathlib.Numerals.{add-one}
use native.Mathlib.Omega.{arith}
use mathlib.Core.Path.{◌≡◌, ap, ◌∙◌}
use mathlib.Core.Bool.{cond}
use mathlib.Core.List.{List, [], ◌∷◌, ◌++◌, map, append-nil}
use lib.ListN.{length, length-append, length-map}
use lib.Dec.{eqb, leb, ltb}
use borrow.Author.Tests.{eq-eqb, ne_eqb}
use Rattle.word_laws.proofs.Keep.{keep-split}
use Rattle.format.specs.Request.{Request}
use Rattle.format.specs.Table.{Record, has_mark}
use Rattle.judge.specs.NewTable.{sweep}
use Rattle.matching.specs.declared.masks.Each.{Each}
use Rattle.clearing.specs.Cleared.{cleared_by, left_by, after_by}
use Rattle.clearing.proofs.Left.{sweep-none, sweep-one, length-swept}

module _ (e : Each) (q : Request) (ends : ℕ) where
  pub after_none : (gives : ℕ) (rs : List Record) → gives ≡ 0 → after_by e q ends gives rs ≡ left_by e q ends rs
  unfolding after_by
  after_none gives rs z = rw (sweep-none (record { request = q; marks = gives }) z) (append-nil (left_by e q ends rs))

  pub after_one :
      (gives : ℕ) (rs : List Record) → (gives ≡ 0 → ⊥)
      → after_by e q ends gives rs ≡ left_by e q ends rs ++ (record { request = q; marks = gives } ∷ [])
  unfolding after_by
  after_one gives rs z = rw (sweep-one (record { request = q; marks = gives }) z)

  -- their number
  pub left-few : (rs : List Record) → length (left_by e q ends rs) ≤ length rs
  unfolding left_by sweep
  left-few rs = omega (arith, keep-split has_mark (map (cleared_by e q ends) rs), length-map rs (cleared_by e q ends))

  pub after-count : (gives : ℕ) (rs : List Record) → (gives ≡ 0 → ⊥) → length (after_by e q ends gives rs) ≡ length (left_by e q ends rs) + 1
  after-count gives rs z =
      ap length (after_one gives rs z) ∙ length-append (left_by e q ends rs) (record { request = q; marks = gives } ∷ [])

  -- with k records left, the request has a place where k is below the room
  pub counted-room : (gives : ℕ) (rs : List Record) → (gives ≡ 0 → ⊥) → (k room : ℕ) → k ≡ length (left_by e q ends rs)
      → ltb k room ≡ leb (length (after_by e q ends gives rs)) room
  counted-room gives rs z k room is = rw (after-count gives rs z, ← is, add-one k)

  pub after-length : (gives : ℕ) (rs : List Record) → length (after_by e q ends gives rs) ≡ length (left_by e q ends rs) + cond (eqb gives 0) 0 1
  unfolding after_by
  after-length gives rs =
      length-append (left_by e q ends rs) (sweep (record { request = q; marks = gives } ∷ []))
      ∙ ap (λ (x : ℕ). length (left_by e q ends rs) + x) (length-swept (record { request = q; marks = gives }))

  pub after-few : (gives : ℕ) (rs : List Record) → length (after_by e q ends gives rs) ≤ length rs + cond (eqb gives 0) 0 1
  after-few gives rs = omega (arith, left-few rs, after-length gives rs)

-- the number recorded
pub recorded-none : (gives : ℕ) → gives ≡ 0 → ◌≡◌ {A = ℕ} (cond (eqb gives 0) 0 1) 0
recorded-none gives e = rw (eq-eqb gives 0 e)

pub recorded-one : (gives : ℕ) → (gives ≡ 0 → ⊥) → ◌≡◌ {A = ℕ} (cond (eqb gives 0) 0 1) 1
recorded-one gives e = rw (ne_eqb gives 0 e)
