-- Bytes replaced from a byte on: the length stays, what is read there are the new bytes and elsewhere the old ones, and runs of stores that follow
-- one another are one.
-- Assumes nothing.
use Prim.Native.Nat.{ℕ, ◌+◌, ◌-◌, ◌≤◌}
use native.Mathlib.Nat.{add_assoc}
use native.Mathlib.Omega.{arith}
use mathlib.Core.Path.{◌≡◌, ap, ◌∙◌}
use mathlib.Core.List.{List, ◌++◌, append_assoc, append-nil}
use lib.ListN.{length, take, drop, length-append, length-drop, length-take, drop_of_length-le}
use lib.Seq.{sets, sets-eq, take_at, drop_at, take-add, drop-drop, take-take, take-append-le}
use Rattle.words.specs.Bytes.{part}
use Rattle.table_write.specs.Writing.{over}

module _ (s : List ℕ) (at n : ℕ) (vs : List ℕ) (sized : length vs ≡ n) (fits : at + n ≤ length s) where
  -- what stands in front of the old bytes that are left
  front_length : length (take at s ++ vs) ≡ at + n
  front_length = rw (length-append, length-take, sized) (omega arith)

  pub length_over : length (over s at n vs) ≡ length s
  length_over = rw (length-append, front_length, length-drop) (omega arith)

  pub drop-over : (i : ℕ) → at + n ≤ i → drop i (over s at n vs) ≡ drop i s
  drop-over i h =
      let e : at + n + (i - (at + n)) ≡ i = omega arith in
      let here = drop_at (take at s ++ vs) (drop (at + n) s) (at + n) front_length in
      rw (← e, ← drop-drop (i - (at + n)) (at + n) (over s at n vs), here, drop-drop)

  pub take-over : (i : ℕ) → i ≤ at → take i (over s at n vs) ≡ take i s
  take-over i h =
      rw (append_assoc, take-append-le i (take at s) (vs ++ drop (at + n) s) (rw length-take (omega arith)), take-take i at s h)

  pub take-here : take (at + n) (over s at n vs) ≡ take at s ++ vs
  take-here = take_at (take at s ++ vs) (drop (at + n) s) (at + n) front_length

  -- with what is left behind them
  pub take_past : (i : ℕ) → take (at + n + i) (over s at n vs) ≡ take at s ++ vs ++ part s (at + n) i
  take_past i = rw (take-add (at + n) i (over s at n vs), take-here, drop-over (at + n) (omega arith))

  pub over-over : (m : ℕ) (ws : List ℕ) → at + n + m ≤ length s → over (over s at n vs) (at + n) m ws ≡ over s at (n + m) (vs ++ ws)
  over-over m ws h = rw (take-here, drop-over (at + n + m) (omega arith), append_assoc (take at s) vs ws, add_assoc)

-- the new bytes are as many as the old ones where the length stays
pub over_sized : (s : List ℕ) (at n : ℕ) (vs : List ℕ) → at + n ≤ length s → length (over s at n vs) ≡ length s → length vs ≡ n
over_sized s at n vs fits e =
    let sum : length (take at s) + length vs + length (drop (at + n) s) ≡ length s = simp length-append at e in
    omega (arith, length-take at s, length-drop (at + n) s)

-- bytes replaced up to the end
pub over-end : (s : List ℕ) (at n : ℕ) (vs : List ℕ) → length s ≡ at + n → over s at n vs ≡ take at s ++ vs
over-end s at n vs e = rw (drop_of_length-le s {i = at + n} (omega arith), append-nil)

-- bytes replaced behind such bytes, and stores there
pub joined : (s vs ws : List ℕ) (at n m : ℕ) {s₁ s₂ : List ℕ} → s₁ ≡ over s at n vs → s₂ ≡ over s₁ (at + n) m ws → length vs ≡ n
    → at + n + m ≤ length s → s₂ ≡ over s at (n + m) (vs ++ ws)
joined s vs ws at n m p q sized fits = q ∙ ap (λ (l : List ℕ). over l (at + n) m ws) p ∙ over-over s at n vs sized (omega arith) m ws fits

pub stored : (s vs ws : List ℕ) (at n : ℕ) {s₁ s₂ : List ℕ} → s₁ ≡ over s at n vs → s₂ ≡ sets s₁ (at + n) ws → length vs ≡ n
    → at + n + length ws ≤ length s → s₂ ≡ over s at (n + length ws) (vs ++ ws)
stored s vs ws at n p q sized fits =
    joined s vs ws at n (length ws) p (q ∙ sets-eq ws _ (at + n) (rw (p, length_over s at n vs sized (omega arith)) fits)) sized fits

-- a part of a slice that was lent and came back
pub part-back : (s ys zs : List ℕ) (at m n : ℕ) → m ≡ n → ys ≡ zs → take at s ++ (ys ++ drop m (drop at s)) ≡ over s at n zs
part-back s ys zs at m n e p = rw (e, p, drop-drop, append_assoc)

-- bytes replaced behind others that stay
pub stays-before : (s vs : List ℕ) (at i n : ℕ) → over s (at + i) n vs ≡ over s at (i + n) (part s at i ++ vs)
stays-before s vs at i n = rw (take-add at i s, append_assoc (take at s) (part s at i) vs, add_assoc at i n)
