-- An array of zeros that is lent whole.
-- Assumes nothing.
use Prim.Native.Nat.{ℕ}
use native.Mathlib.Omega.{arith}
use mathlib.Core.Path.{◌≡◌, ap, ◌∙◌}
use lib.ListN.{length, take, replicate, length-replicate}
use lib.Seq.{take_all}

pub zeros-long : (n : ℕ) → length (take n (replicate {A = ℕ} n 0)) ≡ n
zeros-long n = ap length (take_all n (replicate n 0) (omega (arith, length-replicate {A = ℕ} n 0))) ∙ length-replicate n 0
