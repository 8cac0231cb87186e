-- Numbers in the 32 bits that C has for them.
-- Assumes nothing.
use Prim.Native.Nat.{ℕ, ◌<◌, ◌≤◌}
use mathlib.Core.Path.{◌≡◌, refl, sym, ap, ◌∙◌}
use native.Mathlib.Omega.{arith}
use borrow.Author.Tests.{le-leb, lt-leb}
use Rattle.std.specs.Prelude.{Result, Ok, Err, OkIff}
use Rattle.std.specs.Result.{result_unwrap_or}
use Rattle.std.proofs.lemmas.Result.{OkIff-at_ok, OkIff-at_err}
use Rattle.answers.specs.Numbers.{Four, narrow, narrowed}

pub above : (n : ℕ) → 4294967295 < n → 4294967295 ≡ narrow n
unfolding narrow
above n h = rw (lt-leb n 4294967295 h)

pub within : (n : ℕ) → n ≤ 4294967295 → n ≡ narrow n
unfolding narrow
within n h = rw (le-leb n 4294967295 h)

-- the number itself where 32 bits have it, and else the highest one
pub narrow-or : {E : Type 0} (r : Result ℕ E) (n : ℕ) → OkIff r (n < 4294967296) n → result_unwrap_or r 4294967295 ≡ narrow n
narrow-or {E} (Ok x) n h = let p = OkIff-at_ok {T = ℕ} {E = E} (Ok x) (n < 4294967296) n x h (λ i. Ok x) in p.1 ∙ within n (omega (arith, p.0))
narrow-or {E} (Err e) n h = let p = OkIff-at_err {T = ℕ} {E = E} (Err e) (n < 4294967296) n e h (λ i. Err e) in above n (omega (arith, p))

-- an answer whose first number 32 bits have
pub narrow_none : (f : Four) → f.first < 4294967296 → f ≡ narrowed f
narrow_none f h = ap (λ (x : ℕ). record { number = f.number; first = x; second = f.second; third = f.third }) (within f.first (omega (arith, h)))

-- an answer with its first number in 32 bits
pub narrow-first : (number first first' second : ℕ) → first' ≡ narrow first
    → ◌≡◌ {A = Four} (record { number = number; first = first'; second = second; third = 0 }) (narrowed (record { number = number; first = first; second = second; third = 0 }))
narrow-first number first first' second e = ap (λ (x : ℕ). record { number = number; first = x; second = second; third = 0 }) e
