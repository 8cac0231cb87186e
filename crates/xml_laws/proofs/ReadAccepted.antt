-- What is read without a fault is an accepted policy.
-- Assumes nothing.
use Prim.Native.Nat.{ℕ, ◌+◌, ◌*◌, ◌≤◌}
use native.Mathlib.Omega.{arith}
use mathlib.Core.Path.{◌≡◌}
use mathlib.Core.Bool.{true}
use mathlib.Core.List.{List, [], ◌∷◌, ◌++◌}
use mathlib.Core.Option.{none}
use lib.ListN.{length}
use lib.Dec.{leb}
use borrow.Author.Tests.{leb-true}
use Rattle.word_laws.proofs.Bytes.{Byte}
use Rattle.word_laws.proofs.Every.{Every, every-weaken}
use Rattle.word_laws.proofs.First.{none_first, none-second, passes-unless}
use Rattle.format.specs.Layout.{block_bytes, most_rules, policy_blocks}
use Rattle.format.specs.Rule.{Rule}
use Rattle.format.specs.Policy.{rule_count, policy_fault}
use Rattle.forms.specs.Form.{is_of_form}
use Rattle.xml.specs.Grammar.{set}
use Rattle.xml.specs.Names.{good_names, names_fault}
use Rattle.xml.specs.Tags.{Tag, end_set}
use Rattle.xml.specs.Read.{Reading, nothing_read, after_tag, after_tags, good_set, tag_fault, tags_fault, good_tags}
use Rattle.xml_calls.specs.Calls.{read_fault, read_image}
use Rattle.xml_laws.proofs.ImageBlocks.{permissions, image-rules, image-length}
use Rattle.xml_laws.proofs.ImageAccepted.{Proper, image-accepted}
use Rattle.xml_laws.proofs.ImageBytes.{image-bytes}
use Rattle.xml_laws.proofs.ReadExclusion.{four}
use Rattle.xml_laws.proofs.ReadRule.{KnownRule}
use Rattle.xml_laws.proofs.ReadSound.{nothing-sound, tags-sound}
use Rattle.xml_laws.proofs.ReadEnd.{last-tag}

-- where the last tag is the set's end and no tag has a fault, what was read keeps the limits of a set
set-good : (l second : List ℕ) (room : ℕ) (s : Reading) (ts : List Tag) → tags_fault l second room s (ts ++ end_set ∷ []) ≡ none
    → good_set second room (after_tags l s (ts ++ end_set ∷ [])) ≡ true
unfolding tags_fault tag_fault after_tags after_tag
set-good l second room s [] h = passes-unless _ _ (none_first _ _ h)
set-good l second room s (t ∷ ts) h =
    set-good l second room (after_tag l s t) ts
    (none-second (tag_fault l second room s t) (tags_fault l second room (after_tag l s t) (ts ++ end_set ∷ [])) h)

-- the rules that are read of a text
abbrev pub rules_read : List ℕ → List ℕ → List Rule
rules_read text l = (after_tags l nothing_read (good_tags text)).rules

module _ (text l second : List ℕ) (room : ℕ) (faultless : read_fault text l second room ≡ none) where
  -- the four faults in turn
  pub second-accepted : policy_fault second ≡ none
  unfolding read_fault
  second-accepted = none_first _ _ faultless

  pub names-good : good_names l ≡ true
  unfolding read_fault names_fault
  names-good = passes-unless _ _ (none_first _ _ (none-second _ _ faultless))

  tags-faultless : tags_fault l second room nothing_read (good_tags text) ≡ none
  unfolding read_fault
  tags-faultless = none_first _ _ (none-second _ _ (none-second _ _ faultless))

  form-good : is_of_form set text ≡ true
  unfolding read_fault
  form-good = passes-unless _ _ (none-second _ _ (none-second _ _ (none-second _ _ faultless)))

  -- the limits of the set
  pub limits : good_set second room (after_tags l nothing_read (good_tags text)) ≡ true
  limits =
      let t = last-tag text form-good in
      let h = rw t.1 at tags-faultless in
      rw t.1 (set-good l second room nothing_read t.0 h)

  -- how many blocks there will be
  abbrev pub N : ℕ
  N = length (rules_read text l) + permissions second

  -- the limits as numbers
  pub in-limits : (length (rules_read text l) ≤ most_rules) × (1 ≤ N) × (N ≤ policy_blocks) × (block_bytes * N ≤ room)
  unfolding good_set
  in-limits =
      let f = four (leb (length (rules_read text l)) most_rules) (leb 1 N) (leb N policy_blocks) (leb (block_bytes * N) room) limits in
      (leb-true _ _ f.0, leb-true _ _ f.1, leb-true _ _ f.2, leb-true _ _ f.3)

  -- the image has the rules that were read
  pub reads-rules : rule_count (read_image text l second) ≡ length (rules_read text l)
  unfolding read_image
  reads-rules = image-rules (rules_read text l) second second-accepted

  -- and there is room for it
  pub reads_fit : length (read_image text l second) ≤ room
  unfolding read_image
  reads_fit = omega (arith, image-length (rules_read text l) second second-accepted, in-limits.3)

  module _ (bytes : Every Byte l) where
    -- the rules that were read are proper, and their numbers are those of listed names
    pub rules-known : Every (KnownRule l) (rules_read text l)
    rules-known = (tags-sound l second room names-good bytes nothing_read (good_tags text) tags-faultless (nothing-sound l)).rules

    proper : Every Proper (rules_read text l)
    proper = every-weaken (λ r k. k.proper) rules-known

    -- what is read is accepted
    pub reads-accepted : policy_fault (read_image text l second) ≡ none
    unfolding read_image
    reads-accepted =
        image-accepted (rules_read text l) second second-accepted proper in-limits.0 in-limits.1 in-limits.2

    -- and it is bytes
    pub reads_bytes : Every Byte second → Every Byte (read_image text l second)
    unfolding read_image
    reads_bytes = image-bytes (rules_read text l) second second-accepted (every-weaken (λ r k. k.fits) proper)
