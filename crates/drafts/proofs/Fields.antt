-- What is read from the bytes of a privilege, a step and a level is what they were made of, where its numbers fit.
-- Assumes nothing.
use Prim.Native.Nat.{ℕ, ◌+◌, ◌*◌, ◌<◌}
use native.Mathlib.Omega.{arith}
use mathlib.Core.Path.{◌≡◌, sym, ap, ◌∙◌}
use mathlib.Core.List.{List}
use Rattle.words.specs.Bytes.{byte_at, u16_at, part}
use Rattle.word_laws.proofs.Bytes.{read2}
use Rattle.word_laws.proofs.Parts.{byte_at-part, u16_at-part}
use Rattle.format.specs.Rule.{Level, Privilege, Step, level_at, privilege_at}
use Rattle.xml.specs.Blocks.{level_image, privilege_image}
use Rattle.drafts.specs.Draft.{PrivilegeFits, StepFits, LevelFits}

-- a field of a block is that of the part that it lies in
module _ (b : List ℕ) (at w : ℕ) {q : List ℕ} (is : part b at w ≡ q) (k j : ℕ) (e : j ≡ at + k) where
  byte_of : k < w → byte_at b j ≡ byte_at q k
  byte_of h = rw e (sym (byte_at-part b at w k h) ∙ ap (λ (l : List ℕ). byte_at l k) is)

  field_of : k + 1 < w → u16_at b j ≡ u16_at q k
  field_of h = rw e (sym (u16_at-part b at w k h) ∙ ap (λ (l : List ℕ). u16_at l k) is)

-- a privilege, by its numbers and by its bytes
privilege-is : (o t : ℕ) (p : Privilege) → o ≡ p.operation → t ≡ p.target → record { operation = o; target = t } ≡ p
privilege-is o t p a b = rw (a, b)

pub privilege-read : (b : List ℕ) (at : ℕ) (p : Privilege) → part b at 4 ≡ privilege_image p → PrivilegeFits p → privilege_at b at ≡ p
unfolding privilege_image
privilege-read b at p is fits =
    privilege-is (u16_at b at) (u16_at b (at + 2)) p
    (field_of b at 4 is 0 at (omega arith) (omega arith) ∙ read2 p.operation fits.0)
    (field_of b at 4 is 2 (at + 2) (omega arith) (omega arith) ∙ read2 p.target fits.1)

-- a step, by its flag and the bytes of its privilege
pub step-read : (b : List ℕ) (at : ℕ) (s : Step) → part b at 4 ≡ privilege_image s.privilege → StepFits s
    → record { flag = s.flag; privilege = privilege_at b at } ≡ s
step-read b at s is fits = ap (λ p. record { flag = s.flag; privilege = p }) (privilege-read b at s.privilege is fits.1)

-- a level, by its numbers and by its bytes
level-is : (t m z v l : ℕ) (x : Level) → t ≡ x.type → m ≡ x.mark → z ≡ x.pad → v ≡ x.value → l ≡ x.tail
    → record { type = t; mark = m; pad = z; value = v; tail = l } ≡ x
level-is t m z v l x a b c d e = rw (a, b, c, d, e)

pub level-read : (b : List ℕ) (i : ℕ) (x : Level) → part b (16 + 8 * i) 8 ≡ level_image x → LevelFits x → level_at b i ≡ x
unfolding level_image
level-read b i x is fits =
    let at : ℕ = 16 + 8 * i in
    level-is (u16_at b at) (byte_at b (18 + 8 * i)) (byte_at b (19 + 8 * i)) (u16_at b (20 + 8 * i)) (u16_at b (22 + 8 * i)) x
    (field_of b at 8 is 0 at (omega arith) (omega arith) ∙ read2 x.type fits.0)
    (byte_of b at 8 is 2 (18 + 8 * i) (omega arith) (omega arith))
    (byte_of b at 8 is 3 (19 + 8 * i) (omega arith) (omega arith))
    (field_of b at 8 is 4 (20 + 8 * i) (omega arith) (omega arith) ∙ read2 x.value fits.3)
    (field_of b at 8 is 6 (22 + 8 * i) (omega arith) (omega arith) ∙ read2 x.tail fits.4)
