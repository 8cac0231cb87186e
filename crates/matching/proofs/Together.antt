-- The rules under which two requests share a run place, of a set; and the blocks that have a marked record there, for fewer rules.
-- Assumes nothing.
use Prim.Native.Nat.{ℕ, ◌-◌}
use mathlib.Core.Path.{◌≡◌, refl, sym, ap, ◌∙◌}
use mathlib.Core.Bool.{Bool, true, false, cond, not, ◌&&◌, and_assoc, and-true, or-false, false≢true}
use mathlib.Core.List.{List}
use lib.Bits.{bit_and, bit_or, and_zero_r}
use lib.Dec.{eqb}
use native.Mathlib.Omega.{arith}
use Rattle.words.specs.Bytes.{bit}
use Rattle.word_laws.proofs.Bits.{bit-none}
use Rattle.word_laws.proofs.BitLaws.{bit-and, bit-or, bit-without, all-bits}
use Rattle.word_laws.proofs.Tests.{neither-first, neither-second}
use Rattle.format.specs.Request.{Request, context_of, level_value}
use Rattle.format.specs.Records.{record_here}
use Rattle.fields.specs.declared.blocks.BlockSet.{BlockSet}
use Rattle.matching.specs.declared.masks.Each.{Each}
use Rattle.matching.specs.Masks.{apart_at, apart_beside, apart_by, together_by, NearOf}

module _ (e : Each) (rules : ℕ) (q x : Request) where
  -- the rules of a record's marks among them
  together-bit : (m i : ℕ) → bit i (bit_and m (together_by e rules q x)) ≡ bit i m && (bit i rules && not (bit i (apart_by e q x)))
  unfolding together_by
  together-bit m i = rw (bit-and i m (rules - bit_and rules (apart_by e q x)), bit-without i rules (apart_by e q x))

  pub together-with : (m : ℕ) → bit_and m (together_by e rules q x) ≡ together_by e (bit_and m rules) q x
  unfolding together_by
  together-with m =
      all-bits (bit_and m (together_by e rules q x)) (together_by e (bit_and m rules) q x)
      (λ i.
      together-bit m i
      ∙ sym
      (bit-without i (bit_and m rules) (apart_by e q x)
      ∙ ap (λ (b : Bool). b && not (bit i (apart_by e q x))) (bit-and i m rules)
      ∙ and_assoc (bit i m) (bit i rules) (not (bit i (apart_by e q x)))))

-- fewer rules have no more records
pub near-fewer :
    (e : Each) (rules fewer : ℕ) (q : Request) (s : List ℕ) (n : ℕ) (near : BlockSet) → ((i : ℕ) → bit i fewer ≡ true → bit i rules ≡ true)
    → NearOf e rules q s n near → NearOf e fewer q s n near
near-fewer e rules fewer q s n near within is j h off =
    all-bits (bit_and m (together_by e fewer q x)) 0
    (λ i. together-bit e fewer q x m i ∙ go i (bit i m) (bit i fewer) (not (bit i (apart_by e q x))) refl refl refl ∙ sym (bit-none i))
  where
    m : ℕ
    m = (record_here s j).marks

    x : Request
    x = (record_here s j).request

    go : (i : ℕ) (a b c : Bool) → bit i m ≡ a → bit i fewer ≡ b → not (bit i (apart_by e q x)) ≡ c → a && (b && c) ≡ false
    go i true true true ea eb ec =
        let all : bit i m && (bit i rules && not (bit i (apart_by e q x))) ≡ true = rw (ea, within i eb, ec) in
        absurd (false≢true (sym (bit-none i) ∙ ap (bit i) (sym (is j h off)) ∙ together-bit e rules q x m i ∙ all))
    go i true true false ea eb ec = refl
    go i true false c ea eb ec = refl
    go i false b c ea eb ec = refl

-- and no rule has none
pub near_none : (e : Each) (rules : ℕ) (q : Request) (s : List ℕ) (n : ℕ) (near : BlockSet) → rules ≡ 0 → NearOf e rules q s n near
unfolding together_by
near_none e rules q s n near z j h off =
    let none : rules - bit_and rules (apart_by e q (record_here s j).request) ≡ 0 = omega arith in
    rw none (and_zero_r (record_here s j).marks)

-- of four masks only the first matters to these rules
only-first : (rules a b c d : ℕ) → ((i : ℕ) → bit i rules ≡ true → (bit i b ≡ false) × (bit i c ≡ false) × (bit i d ≡ false))
    → rules - bit_and rules a ≡ rules - bit_and rules (bit_or (bit_or (bit_or a c) d) b)
only-first rules a b c d off =
    all-bits (rules - bit_and rules a) (rules - bit_and rules (bit_or (bit_or (bit_or a c) d) b))
    (λ i. bit-without i rules a ∙ go i (bit i rules) refl ∙ sym (bit-without i rules (bit_or (bit_or (bit_or a c) d) b)))
  where
    go : (i : ℕ) (r : Bool) → bit i rules ≡ r → bit i rules && not (bit i a) ≡ bit i rules && not (bit i (bit_or (bit_or (bit_or a c) d) b))
    go i true on =
        let none = off i on in
        rw (bit-or i (bit_or (bit_or a c) d) b, bit-or i (bit_or a c) d, bit-or i a c, none.0, none.1, none.2, or-false (bit i a), or-false (bit i a), or-false (bit i a))
    go i false on = rw on

-- rules that tell no run places apart behind the first level
pub together-shallow :
    (e : Each) (rules : ℕ) (q x : Request) → bit_and (bit_or (bit_or e.second.0 e.third.0) e.fourth.0) rules ≡ 0
    → rules - bit_and rules (apart_at q x 0 e.first.0) ≡ together_by e rules q x
unfolding together_by apart_by apart_beside
together-shallow e rules q x none =
    only-first rules (apart_at q x 0 e.first.0) (apart_at q x 1 e.second.0) (apart_at q x 2 e.third.0) (apart_at q x 3 e.fourth.0)
    (λ i on.
    let all = sym (bit-or i (bit_or e.second.0 e.third.0) e.fourth.0) ∙ off i on in
    let two = sym (bit-or i e.second.0 e.third.0) ∙ neither-first (bit i (bit_or e.second.0 e.third.0)) (bit i e.fourth.0) all in (
      either (eqb (level_value (context_of q) 1) (level_value (context_of x) 1)) e.second.0 i (neither-first (bit i e.second.0) (bit i e.third.0) two),
      either (eqb (level_value (context_of q) 2) (level_value (context_of x) 2)) e.third.0 i (neither-second (bit i e.second.0) (bit i e.third.0) two),
      either (eqb (level_value (context_of q) 3) (level_value (context_of x) 3)) e.fourth.0 i (neither-second (bit i (bit_or e.second.0 e.third.0)) (bit i e.fourth.0) all),
    ))
  where
    -- a level's mask, or nothing
    either : (b : Bool) (m i : ℕ) → bit i m ≡ false → bit i (cond b 0 m) ≡ false
    either true m i off = bit-none i
    either false m i off = off

    off : (i : ℕ) → bit i rules ≡ true → bit i (bit_or (bit_or e.second.0 e.third.0) e.fourth.0) ≡ false
    off i on =
        sym (and-true (bit i (bit_or (bit_or e.second.0 e.third.0) e.fourth.0)))
        ∙ ap (λ (b : Bool). bit i (bit_or (bit_or e.second.0 e.third.0) e.fourth.0) && b) (sym on)
        ∙ sym (bit-and i (bit_or (bit_or e.second.0 e.third.0) e.fourth.0) rules)
        ∙ ap (bit i) none
        ∙ bit-none i
