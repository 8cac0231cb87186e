-- What reading keeps true, tag by tag, as long as no tag has a fault.
-- Assumes nothing.
use Prim.Native.Nat.{ℕ}
use mathlib.Core.Path.{◌≡◌}
use mathlib.Core.Bool.{true}
use mathlib.Core.List.{List, [], ◌∷◌}
use mathlib.Core.Option.{none}
use Rattle.word_laws.proofs.Bytes.{Byte}
use Rattle.word_laws.proofs.Every.{Every, empty, more, every_append}
use Rattle.word_laws.proofs.First.{none_first, none-second, passes-unless}
use Rattle.xml.specs.Names.{good_names}
use Rattle.xml.specs.Tags.{Tag, start_set, end_set, start_rule, end_rule, first_step, last_step, start_exclusion, end_exclusion, role, privilege, other}
use Rattle.xml.specs.Read.{Members, Draft, Reading, new_draft, nothing_read, in_rule, in_exclusion, after_tag, after_tags, tag_fault, tags_fault}
use Rattle.xml_laws.proofs.ReadNumbers.{KnownMember, a-privilege, not_set, set, known-privilege, known-role}
use Rattle.xml_laws.proofs.ReadExclusion.{known-exclusion}
use Rattle.xml_laws.proofs.ReadRule.{KnownRule, KnownDraft, known-rule}

-- the rules that have ended are proper, and all numbers so far are those of listed names
pub record Sound (l : List ℕ) (s : Reading) : Type 0 where
  pub rules : Every (KnownRule l) s.rules
  pub rule : KnownDraft l s.rule
  pub members : Every (KnownMember l) s.exclusion.members

-- a rule of which no more than the context is read
new-draft : {l : List ℕ} {c : List ℕ} → KnownDraft l (new_draft c)
new-draft = record { first = not_set; last = not_set; exclusions = empty }

-- it is so before the first tag
pub nothing-sound : (l : List ℕ) → Sound l nothing_read
unfolding nothing_read
nothing-sound l = record { rules = empty; rule = new-draft; members = empty }

-- with another rule, another exclusion that is being read
in-rule : {l : List ℕ} {s : Reading} {d : Draft} → Sound l s → KnownDraft l d → Sound l (in_rule s d)
in-rule k d = record { rules = k.rules; rule = d; members = k.members }

in-exclusion : {l : List ℕ} {s : Reading} {x : Members} → Sound l s → Every (KnownMember l) x.members → Sound l (in_exclusion s x)
in-exclusion k x = record { rules = k.rules; rule = k.rule; members = x }

module _ (l second : List ℕ) (room : ℕ) (good : good_names l ≡ true) (bytes : Every Byte l) where
  -- a tag without a fault keeps it so
  pub tag-sound : (s : Reading) (t : Tag) → tag_fault l second room s t ≡ none → Sound l s → Sound l (after_tag l s t)
  unfolding tag_fault after_tag
  tag-sound s start_set h k = k
  tag-sound s end_set h k = k
  tag-sound s (start_rule c) h k = in-rule k new-draft
  tag-sound s end_rule h k =
      let r = known-rule l good bytes s.rule k.rule (none_first _ _ h) (passes-unless _ _ (none-second _ _ h)) in
      record { rules = every_append k.rules (more r empty); rule = new-draft; members = k.members }
  tag-sound s (first_step o t) h k =
      in-rule k (record { first = set (known-privilege l good bytes o t h); last = k.rule.last; exclusions = k.rule.exclusions })
  tag-sound s (last_step o t) h k =
      in-rule k (record { first = k.rule.first; last = set (known-privilege l good bytes o t h); exclusions = k.rule.exclusions })
  tag-sound s (start_exclusion q d) h k = in-exclusion k empty
  tag-sound s end_exclusion h k =
      let x = known-exclusion l s.exclusion k.members (passes-unless _ _ h) in
      record {
        rules = k.rules;
        rule = record { first = k.rule.first; last = k.rule.last; exclusions = every_append k.rule.exclusions (more x empty) };
        members = empty;
      }
  tag-sound s (role v) h k = in-exclusion k (every_append k.members (more (known-role l good bytes v h) empty))
  tag-sound s (privilege o t) h k =
      in-exclusion k (every_append k.members (more (a-privilege (known-privilege l good bytes o t h)) empty))
  tag-sound s other h k = k

  -- and so does a row of tags
  pub tags-sound : (s : Reading) (ts : List Tag) → tags_fault l second room s ts ≡ none → Sound l s → Sound l (after_tags l s ts)
  unfolding tags_fault after_tags
  tags-sound s [] h k = k
  tags-sound s (t ∷ ts) h k =
      tags-sound (after_tag l s t) ts (none-second (tag_fault l second room s t) (tags_fault l second room (after_tag l s t) ts) h)
      (tag-sound s t (none_first (tag_fault l second room s t) (tags_fault l second room (after_tag l s t) ts) h) k)
