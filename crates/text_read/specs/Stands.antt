-- What the code has of what was read so far.
-- Assumes nothing.
use Rattle.std.specs.Prelude.{ℕ, suc, ◌*◌, ◌<◌, min, ◌≡◌, List, [], map, length, get_or, Result, OnOk}
use Rattle.format.specs.Layout.{block_bytes, most_rules}
use Rattle.format.specs.Block.{block}
use Rattle.format.specs.Rule.{Privilege, Rule}
use Rattle.format.specs.Code.{text_fault_of}
use Rattle.format.specs.declared.answer.TextRefusal.{TextRefusal}
use Rattle.xml.specs.Tags.{Tag}
use Rattle.xml.specs.Read.{Reading, nothing_read, with_member, with_first, with_last, in_rule, in_exclusion, tag_fault, after_tag, tags_fault, after_tags}
use Rattle.tags.specs.Code.{value_at, InText}
use Rattle.tags.specs.declared.tag.Place.{Place}
use Rattle.tags.specs.declared.tag.Place.TheVariants.{First, Last, Member}
use Rattle.drafts.specs.Draft.{exclusion_block, draft_block, rule_block, StepFits, MembersFit}
use Rattle.text_read.specs.declared.sheet.Sheet.{Sheet}
use Rattle.text_read.specs.declared.source.Source.{Source}

-- what is read with one privilege more
abbrev pub with_privilege : Place → Reading → Privilege → Reading
with_privilege First s p = in_rule s (with_first s.rule p)
with_privilege Last s p = in_rule s (with_last s.rule p)
with_privilege Member s p = in_exclusion s (with_member s.exclusion p)

-- the first 32 rules that have ended stand in an image, each in its block
abbrev pub Kept : List Rule → List ℕ → Type 0
Kept rules image = (k : ℕ) → k < length rules → k < most_rules → block image k ≡ get_or (map rule_block rules) k []

-- the exclusion and the rule that are being read, in their blocks; where the rule's context stands; how many rules have ended, up to one too many; and the
-- first 32 of them, in their image
pub record Stands (t : List ℕ) (s : Reading) (sheet : Sheet) : Type 0 where
  pub exclusion : sheet.exclusion ≡ exclusion_block s.exclusion
  pub members : MembersFit s.exclusion
  pub draft : sheet.rule ≡ draft_block [] s.rule
  pub first : StepFits s.rule.first
  pub last : StepFits s.rule.last
  pub context : value_at t sheet.context ≡ s.rule.context
  pub in_text : InText t sheet.context
  pub rules : sheet.rules ≡ min (suc most_rules) (length s.rules)
  pub kept : Kept s.rules sheet.kept
  pub sized : length sheet.kept ≡ block_bytes * most_rules

-- a tag was taken in: its fault, or else what is read now
pub record Turned (t l second : List ℕ) (room : ℕ) (s : Reading) (tag : Tag) (sheet : Sheet) (r : Result (Unit {0}) TextRefusal) : Type 0 where
  pub fault : text_fault_of r ≡ tag_fault l second room s tag
  pub now : OnOk r (Stands t (after_tag l s tag) sheet)

-- the same by what is read from
abbrev pub TurnedBy : Source → List ℕ → Reading → Tag → Sheet → Result (Unit {0}) TextRefusal → Type 0
TurnedBy source second s tag sheet r = Turned source.text.now source.names.list.now second source.room s tag sheet r

-- all tags were taken in: the first fault, or else the rules
pub record ReadIs (l second : List ℕ) (room : ℕ) (tags : List Tag) (sheet : Sheet) (r : Result (Unit {0}) TextRefusal) : Type 0 where
  pub fault : text_fault_of r ≡ tags_fault l second room nothing_read tags
  pub rules : OnOk r (sheet.rules ≡ min (suc most_rules) (length (after_tags l nothing_read tags).rules))
  pub kept : OnOk r (Kept (after_tags l nothing_read tags).rules sheet.kept)
  pub sized : OnOk r (length sheet.kept ≡ block_bytes * most_rules)
