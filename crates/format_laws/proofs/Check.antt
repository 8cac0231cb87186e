-- A sealed block passes its check, and a block of bytes that passes it is sealed.
-- Assumes nothing.
use Prim.Native.Nat.{ℕ}
use native.Mathlib.Omega.{arith}
use mathlib.Core.Path.{refl, ◌≡◌, sym, ap, ◌∙◌}
use mathlib.Core.List.{append_assoc, List}
use mathlib.Core.Bool.{true}
use lib.ListN.{take, length, length-append}
use lib.Seq.{take_all, take_at}
use lib.Dec.{eqb}
use borrow.Author.Tests.{eqb-true, eq-eqb}
use Rattle.words.specs.Bytes.{bytes4, u32_at}
use Rattle.words.specs.Sums.{Sums, sums, words}
use Rattle.word_laws.proofs.Every.{Every}
use Rattle.word_laws.proofs.Lists.{front-grows}
use Rattle.word_laws.proofs.Bytes.{Byte, bytes4-u32_at, read4, u32_at-past}
use Rattle.word_laws.proofs.Tests.{both_first, both-second, both}
use Rattle.word_laws.proofs.Sums.{sums-fit}
use Rattle.format.specs.Layout.{block_bytes, check_at}
use Rattle.format.specs.Block.{check_of, good_check, sum_bytes, sealed}

pub length-sealed : (p : List ℕ) → length p ≡ check_at → length (sealed p) ≡ block_bytes
unfolding sealed sum_bytes
length-sealed p e = rw (length-append, e)

module _ (p : List ℕ) (e : length p ≡ check_at) where
  check_of-sealed : check_of (sealed p) ≡ sums (words p)
  unfolding check_of sealed
  check_of-sealed = rw (take_at p (sum_bytes (sums (words p))) check_at e)

  a-stored : u32_at (sealed p) 504 ≡ (sums (words p)).a
  unfolding sealed sum_bytes
  a-stored = u32_at-past p (sum_bytes (sums (words p))) check_at 0 e ∙ read4 (sums (words p)).a (sums-fit (words p)).a-fits

  b-stored : u32_at (sealed p) 508 ≡ (sums (words p)).b
  unfolding sealed sum_bytes
  b-stored = u32_at-past p (sum_bytes (sums (words p))) check_at 4 e ∙ read4 (sums (words p)).b (sums-fit (words p)).b-fits

  pub sealed-passes : good_check (sealed p) ≡ true
  unfolding good_check
  sealed-passes =
      both (eq-eqb (check_of (sealed p)).a (u32_at (sealed p) 504) (ap (λ (x : Sums). x.a) check_of-sealed ∙ sym a-stored))
      (eq-eqb (check_of (sealed p)).b (u32_at (sealed p) 508) (ap (λ (x : Sums). x.b) check_of-sealed ∙ sym b-stored))

pub sealed-again : (s : List ℕ) → Every Byte s → length s ≡ block_bytes → good_check s ≡ true → sealed (take check_at s) ≡ s
unfolding sealed sum_bytes good_check check_of
sealed-again s bytes e good =
    sym (append_assoc (take check_at s) (bytes4 (check_of s).a) (bytes4 (check_of s).b))
    ∙ front-grows s 508 4 (front-grows s check_at 4 refl (ap bytes4 a-said ∙ bytes4-u32_at s bytes 504 (omega arith)))
    (ap bytes4 b-said ∙ bytes4-u32_at s bytes 508 (omega arith))
    ∙ take_all block_bytes s (omega arith)
  where
    a-said : (check_of s).a ≡ u32_at s 504
    a-said = eqb-true (check_of s).a (u32_at s 504) (both_first (eqb (check_of s).a (u32_at s 504)) (eqb (check_of s).b (u32_at s 508)) good)

    b-said : (check_of s).b ≡ u32_at s 508
    b-said = eqb-true (check_of s).b (u32_at s 508) (both-second (eqb (check_of s).a (u32_at s 504)) (eqb (check_of s).b (u32_at s 508)) good)
