-- The block of a rule that ends is good where the rule is, and then it is the rule's.
-- Assumes nothing.
use Prim.Native.Nat.{ℕ, ◌≤◌, ◌<◌, min}
use native.Mathlib.Decide.{dec_lt}
use native.Mathlib.Omega.{arith}
use mathlib.Core.Path.{◌≡◌, refl}
use mathlib.Core.Bool.{Bool, true, false, ◌&&◌}
use mathlib.Core.List.{List, flatten}
use borrow.Author.Tests.{leb-true, lt-leb, le-leb}
use lib.ListN.{length, get_or, set}
use lib.Seq.{sets}
use lib.Dec.{leb}
use Rattle.words.specs.Lists.{tab, all_below}
use Rattle.words.specs.Bytes.{bytes4}
use Rattle.word_laws.proofs.Tests.{both_first, both-second, all_below-same}
use Rattle.format.specs.Rule.{Level, Step, Exclusion, Rule, level_at, privilege_at, exclusion_at, rule_at, good_steps, good_rule}
use Rattle.policy_check.specs.Parts.{good_levels, good_level_of}
use Rattle.xml.specs.Blocks.{level_image, privilege_image}
use Rattle.xml.specs.Read.{level_from, new_members, exclusion_of, Draft, rule_from}
use Rattle.drafts.specs.Draft.{draft_block, rule_block, LevelFits, StepFits}
use Rattle.drafts.proofs.Elements.{row_read}
use Rattle.drafts.proofs.Fields.{step-read, level-read}
use Rattle.drafts.proofs.DraftBlock.{head, behind, ended}

-- ---- what a good rule says of its numbers

-- a capped count breaks the limits just as the count does
count-limits : (n : ℕ) → leb 1 (min 9 n) && leb (min 9 n) 8 ≡ leb 1 n && leb n 8
count-limits n = go (dec_lt 9 n)
  where
    go : Dec (9 < n) → leb 1 (min 9 n) && leb (min 9 n) 8 ≡ leb 1 n && leb n 8
    go (yes l) = let e : min 9 n ≡ 9 = omega arith in rw (e, le-leb 1 n (omega arith), lt-leb n 8 (omega arith))
    go (no g) = let e : min 9 n ≡ n = omega arith in rw e

-- there are at most eight exclusions
few-exclusions : (r : Rule) → good_rule r ≡ true → r.exclusions ≤ 8
unfolding good_rule
few-exclusions r h =
    let counted = leb r.depth 4 && leb 1 r.exclusions && leb r.exclusions 8 in
    leb-true r.exclusions 8
    (both-second (leb r.depth 4 && leb 1 r.exclusions) (leb r.exclusions 8)
    (both_first counted (good_levels r) (both_first (counted && good_levels r) (good_steps r.first_step r.last_step) h)))

-- a rule of more than four levels is not good
pub too-deep : (ls : List Level) (d : Draft) → 4 < length ls → good_rule (rule_from ls d) ≡ false
unfolding good_rule rule_from
too-deep ls d h = rw (lt-leb (length ls) 4 h)

-- rules with the same levels and steps, of which one has its count capped, are good together
rule-same :
    (depth n : ℕ) (f g : ℕ → Level) (a b a' b' : Step) (x y : ℕ → Exclusion) → ((i : ℕ) → i < 4 → f i ≡ g i) → a ≡ a' → b ≡ b'
    → good_rule (record { depth = depth; exclusions = min 9 n; level = f; first_step = a; last_step = b; exclusion = x })
    ≡ good_rule (record { depth = depth; exclusions = n; level = g; first_step = a'; last_step = b'; exclusion = y })
unfolding good_rule
rule-same depth n f g a b a' b' x y same ea eb =
    rw (ea, eb, all_below-same 4 (good_level_of depth f) (good_level_of depth g) (λ i h. rw (same i h)))
    (go (leb depth 4) (leb 1 (min 9 n)) (leb (min 9 n) 8) (leb 1 n) (leb n 8) (all_below 4 (good_level_of depth g)) (good_steps a' b') (count-limits n))
  where
    go : (p q r q' r' u v : Bool) → q && r ≡ q' && r' → p && q && r && u && v ≡ p && q' && r' && u && v
    go true q r q' r' u v e = rw e
    go false q r q' r' u v e = refl

-- ---- of the block

module _ (ls : List Level) (d : Draft) where
  -- the block that the code asks about
  abbrev pub closed : List ℕ
  closed = set (sets (draft_block ls d) 0 (bytes4 1)) 8 (length ls)

  -- its levels are read as they are
  level-at : (i : ℕ) → i < 4 → LevelFits (get_or ls i (level_from 0 0 0)) → level_at closed i ≡ get_or ls i (level_from 0 0 0)
  unfolding draft_block level_image privilege_image flatten tab
  level-at i h fits =
      level-read closed i (get_or ls i (level_from 0 0 0))
      (row_read level_image (level_from 0 0 0) 8 (λ x. refl) (head (bytes4 1) (length ls) d (min 9 (length d.exclusions))) (behind d) 16 4 refl ls i h)
      fits

  -- it is good where the rule is
  pub read-good : ((i : ℕ) → LevelFits (get_or ls i (level_from 0 0 0))) → StepFits d.first → StepFits d.last
      → good_rule (rule_at closed) ≡ good_rule (rule_from ls d)
  unfolding rule_at rule_from draft_block level_image privilege_image flatten tab
  read-good fits first last =
      rule-same (length ls) (length d.exclusions) (level_at closed) (λ i. get_or ls i (level_from 0 0 0))
      (record { flag = d.first.flag; privilege = privilege_at closed 48 }) (record { flag = d.last.flag; privilege = privilege_at closed 52 })
      d.first d.last (exclusion_at closed) (λ e. get_or d.exclusions e (exclusion_of (new_members 0 0)))
      (λ i h. level-at i h (fits i)) (step-read closed 48 d.first refl first) (step-read closed 52 d.last refl last)

  -- a good one is the rule's block
  pub good-image : good_rule (rule_from ls d) ≡ true → closed ≡ rule_block (rule_from ls d)
  unfolding rule_from
  good-image h = ended ls d (few-exclusions (rule_from ls d) h)
