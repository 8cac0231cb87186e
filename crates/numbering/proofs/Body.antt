-- A block that is numbered anew: what its three stores make, how long it is, and that its first 504 bytes alone tell it.
-- Assumes nothing.
use Prim.Native.Nat.{ℕ, ◌≤◌}
use native.Mathlib.Omega.{arith}
use mathlib.Core.Path.{◌≡◌, refl, sym, ap, ◌∙◌}
use mathlib.Core.List.{List, ◌++◌, append_assoc}
use lib.ListN.{length, take, length-append, length-take}
use lib.Seq.{sets, sets-eq, take_at, take-take}
use Rattle.words.specs.Bytes.{bytes2, part}
use Rattle.word_laws.proofs.Parts.{part-part, part_length}
use Rattle.format.specs.Layout.{block_bytes, check_at}
use Rattle.format.specs.Block.{sealed}
use Rattle.format_laws.proofs.Check.{length-sealed}
use Rattle.table_write.proofs.Over.{stored, take_past}
use Rattle.xml.specs.Blocks.{numbered_anew}

-- the number and the total stored in a block, and its check made then, are the block numbered anew
pub numbered-put : (s : List ℕ) (n k : ℕ) {s₁ s₂ s₃ : List ℕ} → length s ≡ block_bytes → s₁ ≡ sets s 4 (bytes2 k) → s₂ ≡ sets s₁ 6 (bytes2 n)
    → s₃ ≡ sealed (take check_at s₂) → s₃ ≡ numbered_anew n k s
unfolding numbered_anew
numbered-put s n k sized first second checked =
    checked
    ∙ ap sealed
    (ap (take check_at) (stored s (bytes2 k) (bytes2 n) 4 2 (first ∙ sets-eq (bytes2 k) s 4 (omega arith)) second refl (omega arith))
    ∙ take_past s 4 4 (bytes2 k ++ bytes2 n) refl (omega arith) 496
    ∙ ap (λ (l : List ℕ). l ++ part s 8 496) (sym (append_assoc (take 4 s) (bytes2 k) (bytes2 n))))

-- it is a whole block
pub length-numbered : (n k : ℕ) (b : List ℕ) → check_at ≤ length b → length (numbered_anew n k b) ≡ block_bytes
unfolding numbered_anew
length-numbered n k b h =
    length-sealed (take 4 b ++ bytes2 k ++ bytes2 n ++ part b 8 496)
    (rw (length-append, length-append, length-append, length-take 4 b, part_length b 8 496 (omega arith)) (omega arith))

-- the check that stood in it does not matter
pub numbered-front : (n k : ℕ) (b : List ℕ) → numbered_anew n k (take check_at b) ≡ numbered_anew n k b
unfolding numbered_anew
numbered-front n k b =
    rw (take-take 4 check_at b (omega arith), part-part b 0 check_at 8 496 (omega arith))

-- nor does anything else behind its 504 bytes
pub numbered-without : (n k : ℕ) (b c : List ℕ) → length b ≡ check_at → numbered_anew n k (b ++ c) ≡ numbered_anew n k b
numbered-without n k b c e = sym (numbered-front n k (b ++ c)) ∙ ap (numbered_anew n k) (take_at b c check_at e)
