-- Two numbers of 2 bytes side by side.
-- Assumes nothing.
use Prim.Native.Nat.{ℕ, ◌+◌, ◌*◌, ◌<◌}
use native.Mathlib.Omega.{arith}
use mathlib.Core.Path.{◌≡◌, ap₂}
use mathlib.Core.List.{List, [], ◌∷◌, ◌++◌}
use Rattle.words.specs.Bytes.{bytes2, bytes4}

-- they are the bytes of one number of 4
pub pair-bytes : (x y : ℕ) → x < 65536 → y < 65536 → bytes4 (x + 65536 * y) ≡ bytes2 x ++ bytes2 y
pair-bytes x y hx hy =
    ap₂ {C = List ℕ} (λ a r. a ∷ r) (omega arith)
    (ap₂ {C = List ℕ} (λ a r. a ∷ r) (omega arith)
    (ap₂ {C = List ℕ} (λ a b. a ∷ b ∷ []) (omega arith) (omega arith)))

-- a number below 256 is its own first byte
pub byte-bytes : (x : ℕ) → x < 256 → bytes2 x ≡ x ∷ 0 ∷ []
byte-bytes x h = ap₂ {C = List ℕ} (λ a b. a ∷ b ∷ []) (omega arith) (omega arith)
