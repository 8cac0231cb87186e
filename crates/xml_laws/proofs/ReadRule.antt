-- A rule that has ended without a fault: it is proper, and each of its numbers has a name.
-- Assumes nothing.
use Prim.Native.Nat.{ℕ, ◌≤◌, ◌<◌}
use native.Mathlib.Decide.{dec_lt}
use native.Mathlib.Omega.{arith}
use mathlib.Core.Path.{◌≡◌, refl}
use mathlib.Core.Bool.{Bool, true, false, cond}
use mathlib.Core.List.{List, [], ◌∷◌, map}
use mathlib.Core.Option.{Option, none}
use lib.ListN.{length, get_or, get_or-eq_default}
use lib.Dec.{leb, ltb}
use borrow.Author.Tests.{leb-true, lt-ltb, le-ltb}
use Rattle.words.specs.Lists.{all_below}
use Rattle.word_laws.proofs.Bytes.{Byte}
use Rattle.word_laws.proofs.Every.{Every, empty, more, every-get_d, every_map, every-weaken}
use Rattle.word_laws.proofs.Tests.{both_first}
use Rattle.word_laws.proofs.First.{none_first, none-second}
use Rattle.format.specs.Answer.{Refusal}
use Rattle.format.specs.Layout.{most_levels, most_exclusions}
use Rattle.format.specs.Rule.{Level, is_range, Exclusion, Rule, good_level, blank_level, good_rule, good_exclusion, blank_exclusion, good_exclusion_at}
use Rattle.xml.specs.Names.{good_names}
use Rattle.xml.specs.Read.{level_texts, level_from, level_of, level_fault, first_of, Draft, new_members, exclusion_of, rule_from, rule_of}
use Rattle.xml.specs.Write.{step_text_fault, member_fault, level_names_fault}
use Rattle.xml_laws.proofs.BlockAccepted.{three}
use Rattle.xml_laws.proofs.ImageFits.{LevelFits, ExclusionFits}
use Rattle.xml_laws.proofs.ImageAccepted.{Proper}
use Rattle.xml_laws.proofs.ReadNumbers.{KnownStep, KnownLevel, known-level, step_fits, step-named}
use Rattle.xml_laws.proofs.ReadExclusion.{KnownExclusion, every-or}

-- every number of a rule has a name of its kind, and no level is a range
pub record Writable (l : List ℕ) (r : Rule) : Type 0 where
  pub first-named : step_text_fault l r.first_step ≡ none
  pub last-named : step_text_fault l r.last_step ≡ none
  pub members-named : (e : ℕ) → e < r.exclusions → (i : ℕ) → i < (r.exclusion e).n
      → member_fault l (r.exclusion e).kind ((r.exclusion e).member i) ≡ none
  pub levels-named : (i : ℕ) → i < r.depth → level_names_fault l (r.level i) ≡ none
  pub no-range : (i : ℕ) → i < r.depth → is_range (r.level i) ≡ false

-- a rule that has ended
pub record KnownRule (l : List ℕ) (r : Rule) : Type 0 where
  pub proper : Proper r
  pub writable : Writable l r

-- a rule that is being read
pub record KnownDraft (l : List ℕ) (d : Draft) : Type 0 where
  pub first : KnownStep l d.first
  pub last : KnownStep l d.last
  pub exclusions : Every (KnownExclusion l) d.exclusions

-- a rule within the limits has at most four levels and eight exclusions
pub rule-few : (r : Rule) → good_rule r ≡ true → (r.depth ≤ most_levels) × (r.exclusions ≤ most_exclusions)
unfolding good_rule
rule-few r good =
    let t =
    three (leb r.depth most_levels) (leb 1 r.exclusions) (leb r.exclusions most_exclusions) (both_first _ levels (both_first _ _ good)) in
    (leb-true r.depth most_levels t.0, leb-true r.exclusions most_exclusions t.2)
  where
    levels : Bool
    levels = all_below most_levels (λ i. cond (ltb i r.depth) (good_level (r.level i)) (blank_level (r.level i)))

-- what stands for a level, an exclusion past the last
abbrev no_level : Level
no_level = level_from 0 0 0

no_exclusion : Exclusion
no_exclusion = exclusion_of (new_members 0 0)

-- both fit, and the exclusion is blank
no-level-fits : LevelFits no_level
no-level-fits =
    record { type-fits = omega arith; mark-fits = omega arith; pad-fits = omega arith; value-fits = omega arith; tail-fits = omega arith }

no-exclusion-fits : ExclusionFits no_exclusion
unfolding no_exclusion exclusion_of
no-exclusion-fits =
    record {
      kind_fits = omega arith;
      m-fits = omega arith;
      n-fits = omega arith;
      pad-fits = omega arith;
      members-fit = λ i h. record { operation-fits = omega arith; target_fits = omega arith };
    }

no-exclusion-blank : blank_exclusion no_exclusion ≡ true
unfolding no_exclusion exclusion_of blank_exclusion all_below
no-exclusion-blank = refl

module _ (l : List ℕ) (ls : List Level) (d : Draft) (levels : Every (KnownLevel l) ls) (known : KnownDraft l d) where
  r : Rule
  r = rule_from ls d

  -- each exclusion is good, and those past the last are blank
  all-good : (e : ℕ) → good_exclusion_at r e ≡ true
  unfolding r rule_from good_exclusion_at no_exclusion
  all-good e = go (dec_lt e (length d.exclusions))
    where
      x : Exclusion
      x = get_or d.exclusions e no_exclusion

      go : Dec (e < length d.exclusions) → cond (ltb e (length d.exclusions)) (good_exclusion x) (blank_exclusion x) ≡ true
      go (yes h) = rw (lt-ltb e (length d.exclusions) h) (every-get_d no_exclusion e known.exclusions h).good
      go (no h) =
          rw (le-ltb e (length d.exclusions) (omega arith), get_or-eq_default d.exclusions no_exclusion {n = e} (omega arith))
          no-exclusion-blank

  -- a rule of known levels, steps and exclusions that keeps the limits
  known-parts : good_rule (rule_from ls d) ≡ true → KnownRule l (rule_from ls d)
  unfolding r rule_from no_exclusion
  known-parts good =
      let few = rule-few r good in
      record {
        proper = record {
          fits = record {
            depth-fits = omega (arith, few.0);
            exclusions-fits = omega (arith, few.1);
            first-flag-fits = (step_fits l known.first).0;
            last-flag-fits = (step_fits l known.last).0;
            first_fits = (step_fits l known.first).1;
            last_fits = (step_fits l known.last).1;
            levels-fit = λ i h. every-or LevelFits no_level i no-level-fits (every-weaken (λ x k. k.fits) levels);
            exclusions-fit = λ e h.
                every-or ExclusionFits no_exclusion e no-exclusion-fits (every-weaken (λ x k. k.fits) known.exclusions);
          };
          good = good;
          exclusions-good = λ e h. all-good e;
        };
        writable = record {
          first-named = step-named l known.first;
          last-named = step-named l known.last;
          members-named = λ e h. (every-get_d no_exclusion e known.exclusions h).named;
          levels-named = λ i h. (every-get_d no_level i levels h).named;
          no-range = λ i h. (every-get_d no_level i levels h).no-range;
        };
      }

-- no fault of any is none of each
each-faultless : {A : Type 0} (f : A → Option Refusal) (xs : List A) → first_of f xs ≡ none → Every (λ x. f x ≡ none) xs
unfolding first_of
each-faultless f [] h = empty
each-faultless f (x ∷ xs) h = more (none_first (f x) (first_of f xs) h) (each-faultless f xs (none-second (f x) (first_of f xs) h))

-- a rule that ends without a fault
pub known-rule : (l : List ℕ) → good_names l ≡ true → Every Byte l → (d : Draft) → KnownDraft l d
    → first_of (level_fault l) (level_texts d.context) ≡ none → good_rule (rule_of l d) ≡ true → KnownRule l (rule_of l d)
unfolding rule_of
known-rule l names bytes d known faultless good =
    known-parts l (map (level_of l) (level_texts d.context)) d
    (every_map (level_of l) (known-level l names bytes) (each-faultless (level_fault l) (level_texts d.context) faultless)) known good
