-- A block numbered anew: its length, its check, and what each of its fields is; and a good block with its own numbers stays as it is.
-- Assumes nothing.
use Prim.Native.Nat.{ℕ, ◌+◌, ◌-◌, ◌≤◌, ◌<◌}
use native.Mathlib.Omega.{arith}
use mathlib.Core.Path.{◌≡◌, refl, sym, ap, ◌∙◌}
use mathlib.Core.Bool.{true}
use mathlib.Core.List.{List, ◌++◌, append_assoc}
use lib.ListN.{length, get_or, take, length-append, length-take, length-drop, get_or-append}
use lib.Seq.{get_or-take, length-take-le}
use Rattle.words.specs.Bytes.{bytes2, part}
use Rattle.words.specs.Sums.{sums, words}
use Rattle.word_laws.proofs.Every.{Every}
use Rattle.word_laws.proofs.Lists.{front-grows}
use Rattle.word_laws.proofs.Bytes.{Byte, get_d_past, bytes2-u16_at, read2}
use Rattle.word_laws.proofs.Parts.{byte_at-part, part_length}
use Rattle.format.specs.Layout.{block_bytes, check_at}
use Rattle.format.specs.Block.{kind, number, total, good_check, sum_bytes, sealed}
use Rattle.format_laws.proofs.Check.{length-sealed, sealed-passes, sealed-again}
use Rattle.xml.specs.Blocks.{numbered_anew}

-- all but the check
abbrev body : ℕ → ℕ → List ℕ → List ℕ
body n k b = take 4 b ++ bytes2 k ++ bytes2 n ++ part b 8 (check_at - 8)

module _ (n k : ℕ) (b : List ℕ) (long : check_at ≤ length b) where
  length-body : length (body n k b) ≡ check_at
  length-body = simp (length-append, length-take, length-drop) (omega arith)

  -- it is whole
  pub anew-length : length (numbered_anew n k b) ≡ block_bytes
  unfolding numbered_anew
  anew-length = length-sealed (body n k b) length-body

  -- it passes its check
  pub anew-check : good_check (numbered_anew n k b) ≡ true
  unfolding numbered_anew
  anew-check = sealed-passes (body n k b) length-body

  -- what stands behind its kind
  behind : List ℕ
  behind = bytes2 k ++ (bytes2 n ++ (part b 8 (check_at - 8) ++ sum_bytes (sums (words (body n k b)))))

  shape : numbered_anew n k b ≡ take 4 b ++ behind
  unfolding numbered_anew sealed behind
  shape =
      append_assoc (take 4 b ++ bytes2 k ++ bytes2 n) (part b 8 (check_at - 8)) (sum_bytes (sums (words (body n k b))))
      ∙ append_assoc (take 4 b ++ bytes2 k) (bytes2 n) _
      ∙ append_assoc (take 4 b) (bytes2 k) _

  front : length (take 4 b) ≡ 4
  front = length-take-le 4 b (omega arith)

  -- its first four bytes are as they were, and so is its kind
  front-byte : (i : ℕ) → i < 4 → get_or (numbered_anew n k b) i 0 ≡ get_or b i 0
  front-byte i h = rw shape (get_or-append (take 4 b) behind 0 i (rw front h) ∙ get_or-take 4 b i 0 h)

  pub anew-kind : kind (numbered_anew n k b) ≡ kind b
  anew-kind = rw (front-byte 0 (omega arith), front-byte 1 (omega arith), front-byte 2 (omega arith), front-byte 3 (omega arith))

  -- its number and its total are those that it was given
  pub anew-number : k < 65536 → number (numbered_anew n k b) ≡ k
  unfolding behind
  anew-number h = rw (shape, get_d_past (take 4 b) behind 4 0 0 front, get_d_past (take 4 b) behind 4 1 0 front) (read2 k h)

  pub anew-total : n < 65536 → total (numbered_anew n k b) ≡ n
  unfolding behind
  anew-total h = rw (shape, get_d_past (take 4 b) behind 4 2 0 front, get_d_past (take 4 b) behind 4 3 0 front) (read2 n h)

  -- its bytes from there to the check are as they were
  past : (j : ℕ) → j < check_at - 8 → get_or (numbered_anew n k b) (4 + (4 + j)) 0 ≡ get_or b (8 + j) 0
  unfolding behind
  past j h =
      rw shape
      (get_d_past (take 4 b) behind 4 (4 + j) 0 front
      ∙ get_d_past (bytes2 k ++ bytes2 n) (part b 8 (check_at - 8) ++ sum_bytes (sums (words (body n k b)))) 4 j 0 refl
      ∙ get_or-append (part b 8 (check_at - 8)) (sum_bytes (sums (words (body n k b)))) 0 j (rw (part_length b 8 (check_at - 8) (omega arith)) h)
      ∙ byte_at-part b 8 (check_at - 8) j h)

  pub anew-byte : (i : ℕ) → 8 ≤ i → i < check_at → get_or (numbered_anew n k b) i 0 ≡ get_or b i 0
  anew-byte i lo hi =
      let e : 4 + (4 + (i - 8)) ≡ i = omega arith in
      let f : 8 + (i - 8) ≡ i = omega arith in
      rw (e, f) at (past (i - 8) (omega arith))

-- two blocks that differ only in their numbers are the same, numbered anew
pub anew-same : (n k : ℕ) (a b : List ℕ) → take 4 a ≡ take 4 b → part a 8 (check_at - 8) ≡ part b 8 (check_at - 8)
    → numbered_anew n k a ≡ numbered_anew n k b
unfolding numbered_anew
anew-same n k a b e f = rw (e, f)

-- a good block with its own numbers
pub anew-again : (n k : ℕ) (b : List ℕ) → Every Byte b → length b ≡ block_bytes → good_check b ≡ true → number b ≡ k → total b ≡ n
    → numbered_anew n k b ≡ b
unfolding numbered_anew
anew-again n k b bytes sized check number_is total-is =
    ap sealed
    (front-grows b 8 (check_at - 8)
    (front-grows b 6 2
    (front-grows b 4 2 refl (ap bytes2 (sym number_is) ∙ bytes2-u16_at b bytes 4 (omega arith)))
    (ap bytes2 (sym total-is) ∙ bytes2-u16_at b bytes 6 (omega arith)))
    refl)
    ∙ sealed-again b bytes sized check
