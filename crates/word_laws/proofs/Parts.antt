-- A part of a part is a part of the whole, and its fields are the whole's.
-- Assumes nothing.
use Prim.Native.Nat.{ℕ, zero, suc, ◌+◌, ◌-◌, ◌≤◌, ◌<◌}
use native.Mathlib.Nat.{add_assoc}
use native.Mathlib.Omega.{arith}
use mathlib.Core.Path.{◌≡◌, refl, ap, ◌∙◌}
use mathlib.Core.List.{List, [], ◌∷◌}
use lib.ListN.{length, get_or, take, drop, length-take, length-drop}
use lib.Seq.{get_or-take, get_or-drop, take-take, take_all, drop-drop}
use Rattle.words.specs.Bytes.{u16_at, u32_at, part}

module _ {A : Type 0} where
  drop-take : (i m n : ℕ) (l : List A) → i + m ≤ n → take m (drop i (take n l)) ≡ take m (drop i l)
  drop-take zero m n l h = take-take m n l (omega arith)
  drop-take (suc i) m zero l h = absurd (omega arith)
  drop-take (suc i) m (suc n) [] h = refl
  drop-take (suc i) m (suc n) (x ∷ l) h = drop-take i m n l (omega arith)

pub part-part : (s : List ℕ) (at n i m : ℕ) → i + m ≤ n → part (part s at n) i m ≡ part s (at + i) m
part-part s at n i m h = drop-take i m n (drop at s) h ∙ ap (take m) (drop-drop i at s)

pub byte_at-part : (s : List ℕ) (at n i : ℕ) → i < n → get_or (part s at n) i 0 ≡ get_or s (at + i) 0
byte_at-part s at n i h = get_or-take n (drop at s) i 0 h ∙ get_or-drop at s i 0

pub u16_at-part : (s : List ℕ) (at n i : ℕ) → i + 1 < n → u16_at (part s at n) i ≡ u16_at s (at + i)
u16_at-part s at n i h =
    rw (byte_at-part s at n i (omega arith), byte_at-part s at n (i + 1) h, add_assoc at i 1)

pub u32_at-part : (s : List ℕ) (at n i : ℕ) → i + 3 < n → u32_at (part s at n) i ≡ u32_at s (at + i)
u32_at-part s at n i h =
    rw (byte_at-part s at n i (omega arith), byte_at-part s at n (i + 1) (omega arith), byte_at-part s at n (i + 2) (omega arith), byte_at-part s at n (i + 3) h)
    (rw (add_assoc at i 1, add_assoc at i 2, add_assoc at i 3))

pub part-whole : (s : List ℕ) (n : ℕ) → length s ≡ n → part s 0 n ≡ s
part-whole s n h = take_all n s (omega arith)

-- a part that is told by where it begins and where it ends
pub part-to : (s : List ℕ) (at n : ℕ) → take (at + n - at) (drop at s) ≡ part s at n
part-to s at n = let e : at + n - at ≡ n = omega arith in rw e

pub part_length : (s : List ℕ) (at n : ℕ) → at + n ≤ length s → length (part s at n) ≡ n
part_length s at n h = simp (length-take, length-drop) (omega arith)
