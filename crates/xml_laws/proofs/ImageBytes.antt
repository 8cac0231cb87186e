-- The image of rules that fit is bytes, and the rules of an accepted policy of bytes are proper.
-- Assumes nothing.
use Prim.Native.Nat.{ℕ, zero, suc, ◌+◌, ◌-◌, ◌*◌, ◌/◌, ◌%◌, ◌<◌}
use native.Mathlib.Omega.{arith}
use mathlib.Core.Path.{◌≡◌}
use mathlib.Core.List.{List, [], flatten}
use mathlib.Core.Option.{none}
use lib.ListN.{length, get_or}
use Rattle.words.specs.Lists.{tab}
use Rattle.words.specs.Bytes.{u16_at, bytes2, bytes4, zeros}
use Rattle.word_laws.proofs.Every.{Every, empty, more, every-get_d, every_take, every_drop, every_append, every-flatten, every-tab}
use Rattle.word_laws.proofs.Bytes.{Byte}
use Rattle.word_laws.proofs.First.{none-second, passes-unless, none-at}
use Rattle.format.specs.Layout.{block_bytes, check_at, rule_kind, most_levels, most_exclusions, most_members, rule_spare_bytes, rule_tail_bytes}
use Rattle.format.specs.Block.{block, sum_bytes, sealed}
use Rattle.format.specs.Rule.{Level, Privilege, Exclusion, Rule, rule_at, privilege_at, rule_fault}
use Rattle.format.specs.Policy.{policy_fault, rule_count}
use Rattle.format_laws.proofs.AcceptedPolicy.{rules-few, rule-accepted, rule-good}
use Rattle.xml.specs.Blocks.{level_image, privilege_image, exclusion_image, rule_image, numbered_anew, image_of, rules_image}
use Rattle.xml_laws.proofs.BlockAccepted.{block-sized}
use Rattle.xml_laws.proofs.ImageFits.{PrivilegeFits, LevelFits, ExclusionFits, Fits}
use Rattle.xml_laws.proofs.ImageBlocks.{parts, numbered, each}
use Rattle.xml_laws.proofs.ImageAccepted.{Proper}

-- ---- written

digit : (x : ℕ) → Byte (x % 256)
digit x = omega arith

two : (x : ℕ) → Every Byte (bytes2 x)
two x = more (digit x) (more (digit (x / 256)) empty)

four : (x : ℕ) → Every Byte (bytes4 x)
four x = more (digit x) (more (digit (x / 256)) (more (digit (x / 65536)) (more (digit (x / 16777216)) empty)))

-- zeros, and rows that are bytes
zero-bytes : (n : ℕ) → Every Byte (zeros n)
zero-bytes zero = empty
zero-bytes (suc n) = more (digit 0) (zero-bytes n)

rows-bytes : (f : ℕ → List ℕ) (n : ℕ) → ((i : ℕ) → i < n → Every Byte (f i)) → Every Byte (flatten (tab f 0 n))
rows-bytes f n h = every-flatten (every-tab f 0 n (λ i lo hi. h i (omega arith)))

privilege-bytes : (p : Privilege) → Every Byte (privilege_image p)
unfolding privilege_image
privilege-bytes p = every_append (two p.operation) (two p.target)

level-bytes : (l : Level) → LevelFits l → Every Byte (level_image l)
unfolding level_image
level-bytes l f = every_append (every_append (two l.type) (more f.mark-fits (more f.pad-fits (two l.value)))) (two l.tail)

exclusion-bytes : (x : Exclusion) → ExclusionFits x → Every Byte (exclusion_image x)
unfolding exclusion_image
exclusion-bytes x f =
    more f.kind_fits (more f.m-fits (more f.n-fits (more f.pad-fits
    (rows-bytes (λ i. privilege_image (x.member i)) most_members (λ i h. privilege-bytes (x.member i))))))

rule-bytes : (r : Rule) → Fits r → Every Byte (rule_image r)
unfolding rule_image
rule-bytes r f =
    every_append
    (every_append
    (every_append
    (every_append
    (every_append
    (every_append
    (every_append (every_append (four rule_kind) (zero-bytes 4))
    (more f.depth-fits (more f.exclusions-fits (more f.first-flag-fits (more f.last-flag-fits empty)))))
    (zero-bytes rule_spare_bytes))
    (rows-bytes (λ i. level_image (r.level i)) most_levels (λ i h. level-bytes (r.level i) (f.levels-fit i h))))
    (privilege-bytes r.first_step.privilege))
    (privilege-bytes r.last_step.privilege))
    (rows-bytes (λ e. exclusion_image (r.exclusion e)) most_exclusions (λ e h. exclusion-bytes (r.exclusion e) (f.exclusions-fit e h))))
    (zero-bytes rule_tail_bytes)

anew-bytes : (n k : ℕ) (b : List ℕ) → Every Byte b → Every Byte (numbered_anew n k b)
unfolding numbered_anew sealed sum_bytes
anew-bytes n k b h =
    every_append
    (every_append (every_append (every_append (every_take 4 h) (two k)) (two n)) (every_take (check_at - 8) (every_drop 8 h)))
    (every_append (four _) (four _))

-- the image of rules that fit is bytes where the second image is
pub image-bytes : (rs : List Rule) (second : List ℕ) → policy_fault second ≡ none → Every Fits rs → Every Byte second
    → Every Byte (rules_image rs second)
unfolding rules_image image_of
image-bytes rs second accepted fit bytes =
    every-flatten
    (every-tab (numbered rs second) 0 (length (parts rs second))
    (λ k lo hi. anew-bytes (length (parts rs second)) k (get_or (parts rs second) k []) (part_bytes k (omega arith))))
  where
    part_bytes : (k : ℕ) → k < length (parts rs second) → Every Byte (get_or (parts rs second) k [])
    part_bytes =
        each rs second accepted (λ k b. Every Byte b) (λ k h. rule-bytes (get_or rs k (rule_at [])) (every-get_d (rule_at []) k fit h))
        (λ k lo hi. every_take block_bytes (every_drop (block_bytes * (rule_count second + (k - length rs))) bytes))

-- ---- read

module _ (B : List ℕ) (bytes : Every Byte B) (sized : length B ≡ block_bytes) where
  byte : (i : ℕ) → i < block_bytes → get_or B i 0 < 256
  byte i h = every-get_d 0 i bytes (omega arith)

  u16 : (i : ℕ) → i + 1 < block_bytes → u16_at B i < 65536
  u16 i h = omega (arith, byte i (omega arith), byte (i + 1) h)

  privilege-fits : (at : ℕ) → at + 3 < block_bytes → PrivilegeFits (privilege_at B at)
  privilege-fits at h = record { operation-fits = u16 at (omega arith); target_fits = u16 (at + 2) (omega arith) }

  -- the rule that a block of bytes says fits its bytes
  pub block-fits : Fits (rule_at B)
  unfolding rule_at
  block-fits =
      record {
        depth-fits = byte 8 (omega arith);
        exclusions-fits = byte 9 (omega arith);
        first-flag-fits = byte 10 (omega arith);
        last-flag-fits = byte 11 (omega arith);
        first_fits = privilege-fits 48 (omega arith);
        last_fits = privilege-fits 52 (omega arith);
        levels-fit = λ i h. record {
          type-fits = u16 (16 + 8 * i) (omega arith);
          mark-fits = byte (18 + 8 * i) (omega arith);
          pad-fits = byte (19 + 8 * i) (omega arith);
          value-fits = u16 (20 + 8 * i) (omega arith);
          tail-fits = u16 (22 + 8 * i) (omega arith);
        };
        exclusions-fit = λ e h. record {
          kind_fits = byte (56 + 36 * e) (omega arith);
          m-fits = byte (57 + 36 * e) (omega arith);
          n-fits = byte (58 + 36 * e) (omega arith);
          pad-fits = byte (59 + 36 * e) (omega arith);
          members-fit = λ i l. privilege-fits (60 + 36 * e + 4 * i) (omega arith);
        };
      }

-- the rules of an accepted policy are proper
pub own-proper : (s : List ℕ) → policy_fault s ≡ none → Every Byte s → (k : ℕ) → k < rule_count s → Proper (rule_at (block s k))
unfolding rule_fault
own-proper s accepted bytes k h =
    record {
      fits = block-fits (block s k) (every_take block_bytes (every_drop (block_bytes * k) bytes))
          (block-sized s accepted k (omega (arith, rules-few s accepted)));
      good = rule-good s accepted k h;
      exclusions-good = λ e l.
          passes-unless _ _ (none-at _ 0 most_exclusions e (none-second _ _ (rule-accepted s accepted k h)) (omega arith) (omega arith));
    }
