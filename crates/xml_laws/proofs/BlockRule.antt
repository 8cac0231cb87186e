-- The rule that a block says has the block's bytes as its image, from byte 8 to the check.
-- Assumes nothing.
use Prim.Native.Nat.{ℕ, suc, ◌+◌, ◌-◌, ◌*◌, ◌≤◌, ◌<◌}
use native.Mathlib.Nat.{mul-zero}
use native.Mathlib.Numerals.{add-two, add-three}
use native.Mathlib.Omega.{arith}
use mathlib.Core.Path.{◌≡◌, refl, sym, ap, ◌∙◌}
use mathlib.Core.Bool.{true}
use mathlib.Core.List.{List, [], ◌∷◌, ◌++◌, flatten}
use lib.ListN.{length, get_or, take, drop}
use lib.Seq.{drop-drop, take-take}
use Rattle.words.specs.Lists.{tab}
use Rattle.words.specs.Bytes.{u16_at, bytes2, bytes4, part, zero_from}
use Rattle.word_laws.proofs.Every.{Every}
use Rattle.word_laws.proofs.Lists.{front-grows, tab-cong, tab-get_d, flatten-parts}
use Rattle.word_laws.proofs.Bytes.{Byte, bytes2-u16_at, bytes4-u32_at, read-zeros}
use Rattle.format.specs.Layout.{block_bytes, check_at, rule_kind, most_levels, level_bytes, type_at, most_exclusions}
use Rattle.format.specs.Layout.{exclusion_bytes, kind_at, most_members, member_bytes, rule_spare_at, rule_spare_bytes, rule_tail_at, rule_tail_bytes}
use Rattle.format.specs.Block.{kind}
use Rattle.format.specs.Rule.{Rule, level_at, privilege_at, exclusion_at, rule_at}
use Rattle.xml.specs.Blocks.{level_image, privilege_image, exclusion_image, rule_image, numbered_anew}
use Rattle.xml_laws.proofs.BlockAnew.{anew-same}

-- a part, and the part that stands behind it
pub part-grows : {p q : List ℕ} (s : List ℕ) (at i n : ℕ) → p ≡ part s at i → q ≡ part s (at + i) n → p ++ q ≡ part s at (i + n)
part-grows s at i n e f = front-grows (drop at s) i n e (f ∙ ap (take n) (sym (drop-drop i at s)))

-- rows of one width, joined
pub rows : (s : List ℕ) (at w n : ℕ) (f : ℕ → List ℕ) → ((i : ℕ) → i < n → f i ≡ part s (at + w * i) w) → flatten (tab f 0 n) ≡ part s at (w * n)
rows s at w n f h =
    ap flatten (tab-cong f (λ i. take w (drop (w * i) (drop at s))) 0 n (λ i lo hi. h i (omega arith) ∙ ap (take w) (sym (drop-drop (w * i) at s))))
    ∙ flatten-parts w (drop at s) 0 n
    ∙ rw mul-zero

-- a rule's image begins with the kind of a rule block
take-image : (r : Rule) → take 4 (rule_image r) ≡ bytes4 rule_kind
unfolding rule_image
take-image r = refl

module _ (B : List ℕ) (bytes : Every Byte B) (sized : length B ≡ block_bytes) where
  -- "operation (2), target (2)"
  privilege-again : (at : ℕ) → at + 4 ≤ block_bytes → privilege_image (privilege_at B at) ≡ part B at 4
  unfolding privilege_image
  privilege-again at h = part-grows B at 2 2 (bytes2-u16_at B bytes at (omega arith)) (bytes2-u16_at B bytes (at + 2) (omega arith))

  -- "type (2), mark (1), zero (1), value (2), zero (2)"
  level-fields : (at : ℕ) → at + 8 ≤ block_bytes
      → bytes2 (u16_at B at) ++ ((get_or B (at + 2) 0 ∷ get_or B (at + 3) 0 ∷ []) ++ bytes2 (u16_at B (at + 4))) ++ bytes2 (u16_at B (at + 6)) ≡ part B at 8
  unfolding tab
  level-fields at h =
      let pair : (get_or B (at + 2) 0 ∷ get_or B (at + 3) 0 ∷ []) ≡ part B (at + 2) 2 =
      rw (add-two at, add-three at) (tab-get_d B 0 (suc (suc at)) 2 (omega arith)) in
      part-grows B at 6 2
      (part-grows B at 4 2 (part-grows B at 2 2 (bytes2-u16_at B bytes at (omega arith)) pair)
      (bytes2-u16_at B bytes (at + 4) (omega arith)))
      (bytes2-u16_at B bytes (at + 6) (omega arith))

  level-again : (i : ℕ) → i < most_levels → level_image (level_at B i) ≡ part B (type_at + level_bytes * i) level_bytes
  unfolding level_image
  level-again i h =
      let at : ℕ = 16 + 8 * i in
      let m : 18 + 8 * i ≡ at + 2 = omega arith in
      let p : 19 + 8 * i ≡ at + 3 = omega arith in
      let v : 20 + 8 * i ≡ at + 4 = omega arith in
      let t : 22 + 8 * i ≡ at + 6 = omega arith in
      rw (m, p, v, t) (level-fields at (omega arith))

  -- "kind (1), m (1), n (1), zero (1), eight members of 4"
  exclusion-again : (e : ℕ) → e < most_exclusions → exclusion_image (exclusion_at B e) ≡ part B (kind_at + exclusion_bytes * e) exclusion_bytes
  unfolding exclusion_image tab
  exclusion-again e h =
      let at : ℕ = 56 + 36 * e in
      let m : 57 + 36 * e ≡ suc at = omega arith in
      let n : 58 + 36 * e ≡ suc (suc at) = omega arith in
      let p : 59 + 36 * e ≡ suc (suc (suc at)) = omega arith in
      let o : 60 + 36 * e ≡ at + 4 = omega arith in
      let four : (get_or B at 0 ∷ get_or B (57 + 36 * e) 0 ∷ get_or B (58 + 36 * e) 0 ∷ get_or B (59 + 36 * e) 0 ∷ []) ≡ part B at 4 =
      rw (m, n, p) (tab-get_d B 0 at 4 (omega arith)) in
      part-grows B at 4 32 four (members (60 + 36 * e) (omega arith) ∙ ap (λ (x : ℕ). part B x 32) o)
    where
      members : (at : ℕ) → at + 32 ≤ block_bytes
          → flatten (tab (λ i. privilege_image (privilege_at B (at + member_bytes * i))) 0 most_members) ≡ part B at 32
      members at k =
          rows B at member_bytes most_members (λ i. privilege_image (privilege_at B (at + member_bytes * i)))
          (λ i l. privilege-again (at + member_bytes * i) (omega arith))

  -- all of them, where the bytes that are not named are zero
  fields-again : zero_from B rule_spare_at rule_spare_bytes ≡ true → zero_from B rule_tail_at rule_tail_bytes ≡ true
      → drop 8 (rule_image (rule_at B)) ≡ part B 8 (check_at - 8)
  unfolding rule_image rule_at tab
  fields-again spare tail =
      part-grows B 8 336 160
      (part-grows B 8 48 288
      (part-grows B 8 44 4
      (part-grows B 8 40 4
      (part-grows B 8 8 32
      (part-grows B 8 4 4 (tab-get_d B 0 8 4 (omega arith)) (read-zeros B 12 4 spare (omega arith)))
      (rows B 16 8 4 (λ i. level_image (level_at B i)) level-again))
      (privilege-again 48 (omega arith)))
      (privilege-again 52 (omega arith)))
      (rows B 56 36 8 (λ e. exclusion_image (exclusion_at B e)) exclusion-again))
      (read-zeros B 344 160 tail (omega arith))

  -- so a rule block is its rule's image, numbered anew as the block is
  pub image-numbered : (n k : ℕ) → kind B ≡ rule_kind → zero_from B rule_spare_at rule_spare_bytes ≡ true → zero_from B rule_tail_at rule_tail_bytes ≡ true
      → numbered_anew n k (rule_image (rule_at B)) ≡ numbered_anew n k B
  image-numbered n k kind-is spare tail =
      anew-same n k (rule_image (rule_at B)) B
      (take-image (rule_at B) ∙ ap bytes4 (sym kind-is) ∙ bytes4-u32_at B bytes 0 (omega arith))
      (ap (take (check_at - 8)) (fields-again spare tail) ∙ take-take (check_at - 8) (check_at - 8) (drop 8 B) (omega arith))
