-- What the values of the code stand for.
-- Assumes nothing.
use Rattle.std.specs.Prelude.{ℕ, ◌+◌, ◌≤◌, ◌≡◌, List, length}
use Rattle.fields.specs.Code.{exclusion_code}
use Rattle.xml.specs.Tags as said
use Rattle.xml.specs.Tags.{squeezed}
use Rattle.tags.specs.Cut.{span, until, past}
use Rattle.tags.specs.declared.span.Span.{Span}
use Rattle.tags.specs.declared.tag.Place.{Place}
use Rattle.tags.specs.declared.tag.Place.TheVariants.{First, Last, Member}
use Rattle.tags.specs.declared.tag.Tag.{Tag}
use Rattle.tags.specs.declared.tag.Tag.TheVariants.{StartSet, EndSet, StartRule, EndRule, StartExclusion, EndExclusion, Role, Privilege, Other}

-- the bytes of a value, without white space
abbrev pub value_at : List ℕ → Span → List ℕ
value_at t s = squeezed (span t s.from s.to)

-- a span lies in the text
abbrev pub InText : List ℕ → Span → Type 0
InText t s = (s.from ≤ s.to) × (s.to ≤ length t)

-- what a tag with a privilege says
abbrev pub privilege_as : Place → List ℕ → List ℕ → said.Tag
privilege_as First o u = said.first_step o u
privilege_as Last o u = said.last_step o u
privilege_as Member o u = said.privilege o u

-- what a tag says
abbrev pub tag_at : List ℕ → Tag → said.Tag
tag_at t StartSet = said.start_set
tag_at t EndSet = said.end_set
tag_at t (StartRule c) = said.start_rule (value_at t c)
tag_at t EndRule = said.end_rule
tag_at t (StartExclusion k d) = said.start_exclusion (exclusion_code k) (value_at t d)
tag_at t EndExclusion = said.end_exclusion
tag_at t (Role v) = said.role (value_at t v)
tag_at t (Privilege p o u) = privilege_as p (value_at t o) (value_at t u)
tag_at t Other = said.other

-- its values lie in the text
abbrev pub TagIn : List ℕ → Tag → Type 0
TagIn t StartSet = Unit {0}
TagIn t EndSet = Unit {0}
TagIn t (StartRule c) = InText t c
TagIn t EndRule = Unit {0}
TagIn t (StartExclusion k d) = InText t d
TagIn t EndExclusion = Unit {0}
TagIn t (Role v) = InText t v
TagIn t (Privilege p o u) = InText t o × InText t u
TagIn t Other = Unit {0}

-- the piece behind the c at a byte, up to the next c; empty at the end
pub record NextPiece (c : ℕ) (t : List ℕ) (at to : ℕ) (s : Span) : Type 0 where
  pub begins : s.from ≡ past at to
  pub ends : s.to ≡ s.from + until c (span t s.from to)
  pub within : (s.from ≤ s.to) × (s.to ≤ to)
