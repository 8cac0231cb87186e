-- A rule that fits its bytes, written as a block of any number, is read back as it was, and is a good rule block where the rule is good.
-- Assumes nothing.
use Prim.Native.Nat.{ℕ, ◌+◌, ◌*◌, ◌≤◌, ◌<◌}
use native.Mathlib.Omega.{arith}
use mathlib.Core.Path.{◌≡◌, refl, sym, ap, ap₂, ◌∙◌}
use mathlib.Core.Bool.{true}
use mathlib.Core.List.{List, [], ◌∷◌}
use mathlib.Core.Option.{none}
use lib.ListN.{get_or, get_or-replicate}
use lib.Dec.{eqb}
use borrow.Author.Tests.{eq-eqb}
use Rattle.words.specs.First.{unless}
use Rattle.words.specs.Bytes.{u16_at, zeros, part, zero_from}
use Rattle.word_laws.proofs.Tests.{both, all_below-true}
use Rattle.word_laws.proofs.First.{unless-passes, or_else-none, first-none}
use Rattle.word_laws.proofs.Bytes.{read2}
use Rattle.word_laws.proofs.Parts.{part-part, byte_at-part}
use Rattle.format.specs.Answer.{refusal}
use Rattle.format.specs.Layout.{check_at, most_exclusions}
use Rattle.format.specs.Rule.{Level, Privilege, Step, Exclusion, Rule, level_at, privilege_at, exclusion_at, rule_at}
use Rattle.format.specs.Rule.{good_rule, good_rule_bytes, good_exclusion_at, rule_fault}
use Rattle.xml.specs.Blocks.{level_image, privilege_image, exclusion_image, rule_image, numbered_anew}
use Rattle.xml_laws.proofs.BlockAnew.{anew-byte}
use Rattle.xml_laws.proofs.ImageParts.{length-rule, counts-part, spare-part, level-part, first_part, last-part, exclusion-part}
use Rattle.xml_laws.proofs.ImageParts.{member-part, tail-part}
use Rattle.xml_laws.proofs.ImageFits.{PrivilegeFits, LevelFits, Fits}
use Rattle.xml_laws.proofs.ImageAlike.{SameExclusion, SameRule, same-good_rule, same-good_exclusion_at}

module _ (n k : ℕ) (r : Rule) where
  I : List ℕ
  I = rule_image r

  B : List ℕ
  B = numbered_anew n k (rule_image r)

  -- the image q stands in the rule's image, behind its first eight bytes
  record Stands (at w : ℕ) (q : List ℕ) : Type 0 where
    stands : part I at w ≡ q
    low : 8 ≤ at
    high : at + w ≤ check_at

  -- so the block has its bytes, and its numbers of two bytes
  byte-said : {q : List ℕ} (at w : ℕ) → Stands at w q → (j o : ℕ) → j < w → o ≡ at + j → get_or B o 0 ≡ get_or q j 0
  unfolding B I
  byte-said at w s j o h e =
      rw e
      (anew-byte n k (rule_image r) (omega (arith, length-rule r)) (at + j) (omega (arith, s.low)) (omega (arith, s.high))
      ∙ sym (byte_at-part I at w j h)
      ∙ ap (λ (x : List ℕ). get_or x j 0) s.stands)

  u16-said : {q : List ℕ} (at w : ℕ) → Stands at w q → (j o : ℕ) → j + 1 < w → o ≡ at + j → u16_at B o ≡ u16_at q j
  u16-said at w s j o h e =
      ap₂ (λ (x y : ℕ). x + 256 * y) (byte-said at w s j o (omega arith) e) (byte-said at w s (j + 1) (o + 1) h (omega arith))

  zeros-said : (at w : ℕ) → Stands at w (zeros w) → zero_from B at w ≡ true
  unfolding zero_from
  zeros-said at w s =
      all_below-true w (λ i. eqb (get_or B (at + i) 0) 0)
      (λ i h. eq-eqb (get_or B (at + i) 0) 0 (byte-said at w s i (at + i) h refl ∙ get_or-replicate w i 0 0 h))

  privilege-said : (p : Privilege) (at o : ℕ) → Stands at 4 (privilege_image p) → o ≡ at → PrivilegeFits p → privilege_at B o ≡ p
  unfolding privilege_image
  privilege-said p at o s e f =
      ap₂ {C = Privilege} (λ x y. record { operation = x; target = y })
      (u16-said at 4 s 0 o (omega arith) (omega arith) ∙ read2 p.operation f.operation-fits)
      (u16-said at 4 s 2 (o + 2) (omega arith) (omega arith) ∙ read2 p.target f.target_fits)

  level-said : (l : Level) (i : ℕ) → Stands (16 + 8 * i) 8 (level_image l) → LevelFits l → level_at B i ≡ l
  unfolding level_image
  level-said l i s f =
      let at : ℕ = 16 + 8 * i in
      let a : u16_at B at ≡ l.type = u16-said at 8 s 0 at (omega arith) (omega arith) ∙ read2 l.type f.type-fits in
      let b : get_or B (18 + 8 * i) 0 ≡ l.mark = byte-said at 8 s 2 (18 + 8 * i) (omega arith) (omega arith) in
      let c : get_or B (19 + 8 * i) 0 ≡ l.pad = byte-said at 8 s 3 (19 + 8 * i) (omega arith) (omega arith) in
      let d : u16_at B (20 + 8 * i) ≡ l.value = u16-said at 8 s 4 (20 + 8 * i) (omega arith) (omega arith) ∙ read2 l.value f.value-fits in
      let t : u16_at B (22 + 8 * i) ≡ l.tail = u16-said at 8 s 6 (22 + 8 * i) (omega arith) (omega arith) ∙ read2 l.tail f.tail-fits in
      rw (a, b, c, d, t)

  step-said : (t : Step) (o at : ℕ) → get_or B o 0 ≡ t.flag → part I at 4 ≡ privilege_image t.privilege → 8 ≤ at → at + 4 ≤ check_at
      → PrivilegeFits t.privilege → ◌≡◌ {A = Step} (record { flag = get_or B o 0; privilege = privilege_at B at }) t
  step-said t o at e p lo hi f =
      ap₂ {C = Step} (λ x y. record { flag = x; privilege = y }) e
      (privilege-said t.privilege at at (record { stands = p; low = lo; high = hi }) refl f)

  module _ (fits : Fits r) where
    exclusion-said : (e : ℕ) → e < most_exclusions → SameExclusion (exclusion_at B e) (r.exclusion e)
    unfolding exclusion_image I
    exclusion-said e h =
        let x : Exclusion = r.exclusion e in
        let at : ℕ = 56 + 36 * e in
        let s : Stands at 36 (exclusion_image x) = record { stands = exclusion-part r e h; low = omega arith; high = omega arith } in
        record {
          kind-same = byte-said at 36 s 0 at (omega arith) (omega arith);
          m-same = byte-said at 36 s 1 (57 + 36 * e) (omega arith) (omega arith);
          n-same = byte-said at 36 s 2 (58 + 36 * e) (omega arith) (omega arith);
          pad-same = byte-said at 36 s 3 (59 + 36 * e) (omega arith) (omega arith);
          member-same = λ i l.
              let p : part I (at + (4 + 4 * i)) 4 ≡ privilege_image (x.member i) =
              sym (part-part I at 36 (4 + 4 * i) 4 (omega arith)) ∙ ap (λ (q : List ℕ). part q (4 + 4 * i) 4) s.stands ∙ member-part x i l in
              privilege-said (x.member i) (at + (4 + 4 * i)) (60 + 36 * e + 4 * i)
              (record { stands = p; low = omega arith; high = omega arith }) (omega arith) ((fits.exclusions-fit e h).members-fit i l);
        }

    -- of such a block every field of its rule is the rule's
    pub image-rule : SameRule (rule_at (numbered_anew n k (rule_image r))) r
    unfolding rule_at B I
    image-rule =
        let s : Stands 8 4 (r.depth ∷ r.exclusions ∷ r.first_step.flag ∷ r.last_step.flag ∷ []) =
        record { stands = counts-part r; low = omega arith; high = omega arith } in
        record {
          depth_same = byte-said 8 4 s 0 8 (omega arith) refl;
          exclusions-same = byte-said 8 4 s 1 9 (omega arith) refl;
          level-same = λ i h.
              level-said (r.level i) i (record { stands = level-part r i h; low = omega arith; high = omega arith }) (fits.levels-fit i h);
          first-same =
              step-said r.first_step 10 48 (byte-said 8 4 s 2 10 (omega arith) refl) (first_part r) (omega arith) (omega arith) fits.first_fits;
          last-same =
              step-said r.last_step 11 52 (byte-said 8 4 s 3 11 (omega arith) refl) (last-part r) (omega arith) (omega arith) fits.last_fits;
          exclusion-same = exclusion-said;
        }

    -- so it keeps the limits of a rule where the rule does, and each exclusion those of an exclusion
    pub image-good_rule : good_rule (rule_at (numbered_anew n k (rule_image r))) ≡ good_rule r
    image-good_rule = same-good_rule (rule_at (numbered_anew n k (rule_image r))) r image-rule

    pub image-good_exclusion_at : (e : ℕ) → e < most_exclusions → good_exclusion_at (rule_at (numbered_anew n k (rule_image r))) e ≡ good_exclusion_at r e
    image-good_exclusion_at = same-good_exclusion_at (rule_at (numbered_anew n k (rule_image r))) r image-rule

    -- and a rule within the limits makes a rule block with no fault
    pub image-faultless : good_rule r ≡ true → ((e : ℕ) → e < most_exclusions → good_exclusion_at r e ≡ true)
        → rule_fault k (numbered_anew n k (rule_image r)) ≡ none
    unfolding rule_fault good_rule_bytes B I
    image-faultless good each =
        or_else-none
        (unless-passes (refusal 4 k 0)
        (both (both (image-good_rule ∙ good) (zeros-said 12 4 (record { stands = spare-part r; low = omega arith; high = omega arith })))
        (zeros-said 344 160 (record { stands = tail-part r; low = omega arith; high = omega arith }))))
        (first-none (λ e. unless (good_exclusion_at (rule_at (numbered_anew n k (rule_image r))) e) (refusal 5 k (e + 1))) 0 most_exclusions
        (λ e lo hi. unless-passes (refusal 5 k (e + 1)) (image-good_exclusion_at e (omega arith) ∙ each e (omega arith))))
