-- Four states side by side come to the one that takes the words in turn: the law behind `sum_words`.
-- Every state is a sum that never wraps, wrapped: so the law is one of plain sums, and one step of it adds four words.
-- Assumes nothing.
use Rattle.std.proofs.Common.{◌≡◌, ℕ, zero, suc, ◌+◌, ◌-◌, ◌*◌, ◌/◌, ◌<◌, ◌≤◌, List, length, refl, ap, ◌∙◌, ap₂, mul-suc, add-one, arith}
use native.Mathlib.Numerals.{add-two, add-three}
use Rattle.words.specs.Bytes.{u32_at, part}
use Rattle.words.specs.Sums.{Sums, wrap, add_word, add_words, sums, words}
use Rattle.sums.specs.Code.{word_from, add_four, fours, together}
use Rattle.word_laws.proofs.Sums.{sums-more}

-- ---- sums that never wrap

-- a state, each number of it wrapped
abbrev wrapped : ℕ → ℕ → Sums
wrapped a b = record { a = wrap a; b = wrap b }

add-wrapped : (a b x : ℕ) → add_word (wrapped a b) x ≡ wrapped (a + x) (b + (a + x))
unfolding add_word
add-wrapped a b x = rw (one a x, one b (wrap (a + x)), two)
  where
    one : (y z : ℕ) → wrap (wrap y + z) ≡ wrap (y + z)
    one y z = omega arith

    two : wrap (b + wrap (a + x)) ≡ wrap (b + (a + x))
    two = omega arith

-- word after word, from a = 1 and b = 0
unfoldable all_a : (ℕ → ℕ) → ℕ → ℕ
all_a word zero = 1
all_a word (suc n) = all_a word n + word n

unfoldable all_b : (ℕ → ℕ) → ℕ → ℕ
all_b word zero = 0
all_b word (suc n) = all_b word n + (all_a word n + word n)

-- every fourth word, from 0
unfoldable lane_a : (ℕ → ℕ) → ℕ → ℕ → ℕ
lane_a word l zero = 0
lane_a word l (suc n) = lane_a word l n + word (4 * n + l)

unfoldable lane_b : (ℕ → ℕ) → ℕ → ℕ → ℕ
lane_b word l zero = 0
lane_b word l (suc n) = lane_b word l n + (lane_a word l n + word (4 * n + l))

-- the plain sums of four lanes are those of all words: lane l is l words behind the first
record Joined (word : ℕ → ℕ) (n : ℕ) : Type 0 where
  numbers-a : all_a word (4 * n) ≡ 1 + (lane_a word 0 n + lane_a word 1 n + lane_a word 2 n + lane_a word 3 n)
  numbers-b :
      all_b word (4 * n) + (lane_a word 1 n + 2 * lane_a word 2 n + 3 * lane_a word 3 n)
      ≡ 4 * n + 4 * (lane_b word 0 n + lane_b word 1 n + lane_b word 2 n + lane_b word 3 n)

joined : (word : ℕ → ℕ) (n : ℕ) → Joined word n
unfolding all_a all_b lane_a lane_b
joined word zero = record { numbers-a = refl; numbers-b = refl }
joined word (suc n) =
    let h : Joined word n = joined word n in
    let e : word (4 * n + 0) ≡ word (4 * n) = ap word (omega arith) in
    let m : 4 * suc n ≡ suc (suc (suc (suc (4 * n)))) = omega arith in
    record {
      numbers-a = rw (m, add-one (4 * n), add-two (4 * n), add-three (4 * n)) (omega (arith, h.numbers-a, e));
      numbers-b = rw (m, add-one (4 * n), add-two (4 * n), add-three (4 * n)) (omega (arith, h.numbers-a, h.numbers-b, e));
    }

-- ---- the states

-- word after word
sums-all :
    (s : List ℕ) (at n : ℕ) → at + 4 * n ≤ length s
    → sums (words (part s at (4 * n))) ≡ wrapped (all_a (word_from s at) n) (all_b (word_from s at) n)
unfolding all_a all_b sums words add_words word_from
sums-all s at zero h = refl
sums-all s at (suc n) h =
    rw (sums-more s at n (omega (arith, mul-suc 4 n)), sums-all s at n (omega (arith, mul-suc 4 n)))
    (add-wrapped (all_a (word_from s at) n) (all_b (word_from s at) n) _)

-- side by side
abbrev lane : (ℕ → ℕ) → ℕ → ℕ → Sums
lane word l n = wrapped (lane_a word l n) (lane_b word l n)

fours-lanes : (word : ℕ → ℕ) (n : ℕ) → fours word n ≡ record { w = lane word 0 n; x = lane word 1 n; y = lane word 2 n; z = lane word 3 n }
unfolding fours add_four lane_a lane_b
fours-lanes word zero = refl
fours-lanes word (suc n) =
    let e : 4 * n + 0 ≡ 4 * n = omega arith in
    rw (fours-lanes word n, e, add-wrapped (lane_a word 0 n) (lane_b word 0 n) (word (4 * n)), add-wrapped (lane_a word 1 n) (lane_b word 1 n) (word (4 * n + 1)), add-wrapped (lane_a word 2 n) (lane_b word 2 n) (word (4 * n + 2)), add-wrapped (lane_a word 3 n) (lane_b word 3 n) (word (4 * n + 3)))

-- four words further, as their bytes stand
pub fours-more :
    (s : List ℕ) (at n : ℕ)
    → fours (word_from s at) (suc n)
    ≡ add_four (fours (word_from s at) n) (u32_at s (at + 16 * n)) (u32_at s (at + 16 * n + 4)) (u32_at s (at + 16 * n + 8)) (u32_at s (at + 16 * n + 12))
unfolding fours word_from
fours-more s at n =
    let p : at + 4 * (4 * n) ≡ at + 16 * n = omega arith in
    let q : at + 4 * (4 * n + 1) ≡ at + 16 * n + 4 = omega arith in
    let r : at + 4 * (4 * n + 2) ≡ at + 16 * n + 8 = omega arith in
    let t : at + 4 * (4 * n + 3) ≡ at + 16 * n + 12 = omega arith in
    rw (p, q, r, t)

-- what the four come to: wrapped numbers are plain ones less some times 2 to the 32
split : (x : ℕ) → x ≡ wrap x + 4294967296 * (x / 4294967296)
split x = omega arith

wrap-shift : (x y k m : ℕ) → x + 4294967296 * k ≡ y + 4294967296 * m → wrap x ≡ wrap y
wrap-shift x y k m e = omega arith

wraps-a : (p q r t x : ℕ) → x ≡ 1 + (p + q + r + t) → wrap (1 + (wrap p + wrap q + wrap r + wrap t)) ≡ wrap x
wraps-a p q r t x e =
    wrap-shift _ _ (p / 4294967296 + q / 4294967296 + r / 4294967296 + t / 4294967296) 0
    (plain _ _ _ _ _ _ _ _ (e ∙ ap₂ (λ y z. 1 + (y + z)) (ap₂ ◌+◌ (ap₂ ◌+◌ (split p) (split q)) (split r)) (split t)))
  where
    plain :
        (p q r t p' q' r' t' : ℕ)
        → x ≡ 1 + ((p + 4294967296 * p') + (q + 4294967296 * q') + (r + 4294967296 * r') + (t + 4294967296 * t'))
        → 1 + (p + q + r + t) + 4294967296 * (p' + q' + r' + t') ≡ x + 4294967296 * 0
    plain p q r t p' q' r' t' h = omega arith

wraps-b :
    (n q r t p' q' r' t' x : ℕ) → x + (q + 2 * r + 3 * t) ≡ 4 * n + 4 * (p' + q' + r' + t')
    → wrap (4 * n + 4 * (wrap p' + wrap q' + wrap r' + wrap t') + (1099511627776 - (wrap q + 2 * wrap r + 3 * wrap t))) ≡ wrap x
wraps-b n q r t p' q' r' t' x e =
    wrap-shift _ _ (4 * (high p' + high q' + high r' + high t')) (high q + 2 * high r + 3 * high t + 256)
    (plain _ _ _ _ _ _ _ _ _ _ _ _ _ _ (below q) (below r) (below t) whole)
  where
    high : ℕ → ℕ
    high y = y / 4294967296

    below : (y : ℕ) → wrap y < 4294967296
    below y = omega arith

    parts : (y : ℕ) → y ≡ wrap y + 4294967296 * high y
    parts y = split y

    whole :
        x + ((wrap q + 4294967296 * high q) + 2 * (wrap r + 4294967296 * high r) + 3 * (wrap t + 4294967296 * high t))
        ≡ 4 * n + 4 * ((wrap p' + 4294967296 * high p') + (wrap q' + 4294967296 * high q') + (wrap r' + 4294967296 * high r') + (wrap t' + 4294967296 * high t'))
    whole = rw (← parts q, ← parts r, ← parts t, ← parts p', ← parts q', ← parts r', ← parts t') e

    plain :
        (q r t Q R T p' q' r' t' P' Q' R' T' : ℕ) → q < 4294967296 → r < 4294967296 → t < 4294967296
        → x + ((q + 4294967296 * Q) + 2 * (r + 4294967296 * R) + 3 * (t + 4294967296 * T))
        ≡ 4 * n + 4 * ((p' + 4294967296 * P') + (q' + 4294967296 * Q') + (r' + 4294967296 * R') + (t' + 4294967296 * T'))
        → 4 * n + 4 * (p' + q' + r' + t') + (1099511627776 - (q + 2 * r + 3 * t)) + 4294967296 * (4 * (P' + Q' + R' + T'))
        ≡ x + 4294967296 * (Q + 2 * R + 3 * T + 256)
    plain q r t Q R T p' q' r' t' P' Q' R' T' hq hr ht h = omega arith

-- four states side by side, after n words each, come to the sums over 4 n words
pub fours-sums :
    (s : List ℕ) (at n : ℕ) → at + 16 * n ≤ length s
    → together (fours (word_from s at) n) n ≡ sums (words (part s at (4 * (4 * n))))
unfolding together
fours-sums s at n h =
    let word : ℕ → ℕ = word_from s at in
    let j : Joined word n = joined word n in
    rw (fours-lanes word n, sums-all s at (4 * n) (omega arith))
    (ap₂ (λ (p q : ℕ). record { a = p; b = q }) (wraps-a _ _ _ _ _ j.numbers-a) (wraps-b n _ _ _ _ _ _ _ _ j.numbers-b))
