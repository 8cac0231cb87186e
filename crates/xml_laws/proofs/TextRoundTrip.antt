-- The first half of the round trip: the text that writing makes of an accepted policy's rules is read without fault, and the rules that are read
-- have the bytes of those that were written.
-- Assumes nothing.
use Prim.Native.Nat.{ℕ, ◌≤◌, ◌<◌}
use native.Mathlib.Omega.{arith}
use mathlib.Core.Path.{◌≡◌, ap}
use mathlib.Core.Bool.{true}
use mathlib.Core.List.{List, ◌++◌}
use mathlib.Core.Option.{none}
use lib.ListN.{length}
use Rattle.words.specs.Lists.{tab}
use Rattle.word_laws.proofs.First.{none_first, none-second, none-at, passes-unless, unless-passes, or_else-none}
use Rattle.forms.specs.Form.{reach}
use Rattle.format.specs.Answer.{refusal}
use Rattle.format.specs.Block.{blocks}
use Rattle.format.specs.Policy.{policy_of, policy_fault, rule_count}
use Rattle.format_laws.proofs.AcceptedPolicy.{rules-few, rules-most, policy-blocked, rule-good, exclusion-place}
use Rattle.xml.specs.Grammar.{set}
use Rattle.xml.specs.Names.{good_names, names_fault}
use Rattle.xml.specs.Blocks.{rule_image, permission_blocks, image_of, rules_image}
use Rattle.xml.specs.Write.{rules_text, rule_text_fault}
use Rattle.xml_calls.specs.Calls.{read_fault, read_image, write_fault}
use Rattle.xml_laws.proofs.TextListed.{Writable}
use Rattle.xml_laws.proofs.TextWritten.{text-of-form, text-good-tags}
use Rattle.xml_laws.proofs.TextLevels.{Numbered}
use Rattle.xml_laws.proofs.TextSound.{Sound, sound-writable}
use Rattle.xml_laws.proofs.TextRead.{Fitting, images-read, rules-read}

module _ (policy l : List ℕ) (room : ℕ) (written : write_fault policy l room ≡ none) where
  -- what may be written: an accepted policy, a good list, and sound rules
  pub written-accepted : policy_fault policy ≡ none
  unfolding write_fault
  written-accepted = none_first _ _ written

  pub written-names : names_fault l ≡ none
  unfolding write_fault
  written-names = none_first _ _ (none-second (policy_fault policy) _ written)

  pub written-good : good_names l ≡ true
  unfolding names_fault
  written-good = passes-unless (good_names l) (refusal 42 0 0) written-names

  pub written-sound : (k : ℕ) → k < (policy_of policy).rules → Sound l ((policy_of policy).rule k)
  unfolding write_fault policy_of
  written-sound k h =
      record {
        faultless =
            none-at (λ i. rule_text_fault l ((policy_of policy).rule i)) 0 (rule_count policy) k
            (none_first _ _ (none-second (names_fault l) _ (none-second (policy_fault policy) _ written))) (omega arith) (omega arith);
        rule = rule-good policy written-accepted k h;
        exclusion = exclusion-place policy written-accepted k h;
      }

  pub written-writable : (k : ℕ) → k < (policy_of policy).rules → Writable l ((policy_of policy).rule k)
  written-writable k h = sound-writable l ((policy_of policy).rule k) (written-sound k h)

  -- with its own permissions they fit an output as long as the policy
  pub written-fits : (output : ℕ) → length policy ≤ output → Fitting policy output (policy_of policy).rules
  unfolding policy_of
  written-fits output h =
      let b = policy-blocked policy written-accepted in
      let few : rule_count policy ≤ blocks policy = rules-few policy written-accepted in
      record {
        rules = rules-most policy written-accepted;
        some_block = omega (arith, b.some_block);
        few-blocks = omega (arith, b.not-over);
        output = omega (arith, b.whole-blocks);
      }

  -- reading it beside a second image, into an output that the rules and its permissions fit
  module _ (second : List ℕ) (output : ℕ) (numbered : Numbered l) (fit : Fitting second output (policy_of policy).rules) where
    -- meets no fault
    pub text-faultless : policy_fault second ≡ none → read_fault (rules_text l (policy_of policy)) l second output ≡ none
    unfolding read_fault
    text-faultless accepted =
        let p = policy_of policy in
        or_else-none accepted
        (or_else-none written-names
        (or_else-none
        (rw (text-good-tags l p written-good written-writable) (rules-read l second output written-good numbered p written-sound fit).fault)
        (unless-passes (refusal 41 (reach set (rules_text l p)) 0) (text-of-form l p written-good written-writable))))

    -- and gives the image of the rules that were written, with those permissions
    pub text-image :
        read_image (rules_text l (policy_of policy)) l second
        ≡ image_of (tab (λ k. rule_image ((policy_of policy).rule k)) 0 (policy_of policy).rules ++ permission_blocks second)
    unfolding read_image rules_image
    text-image =
        let p = policy_of policy in
        rw (text-good-tags l p written-good written-writable, (rules-read l second output written-good numbered p written-sound fit).after)
        (ap (λ bs. image_of (bs ++ permission_blocks second)) (images-read l second output written-good numbered p written-sound))
