-- A rule's levels as numbers of 64 bits, two levels each, beside the levels of a context in the same form: how the code tests which contexts
-- a rule is about that has no range. A level of a context is one word of 32 bits, its type the low half.
-- Assumes nothing.
use Rattle.std.specs.Prelude.{◌≡◌, ℕ, ◌+◌, ◌*◌, ◌<◌, Bool, cond, not, ◌&&◌, ◌||◌, List, ◌==◌, bit_and, nat_lt, slice_index_or}
use Rattle.words.specs.Lists.{all_below}
use Rattle.words.specs.Bytes.{bit}
use Rattle.format.specs.Layout.{most_rules, most_levels}
use Rattle.format.specs.Rule.{Rule, is_range}
use Rattle.format.specs.Policy.{Policy}
use Rattle.rule_tests.specs.declared.levels.Levels.{Levels}
use Rattle.rule_tests.specs.declared.shapes.Shape.{Shape}

-- ---- the shape of a rule

-- the word that a context has at level l, as far as the rule asks
unfoldable pub level_want : Rule → ℕ → ℕ
level_want r l = (r.level l).type + 65536 * (r.level l).value

-- the bits of the word that the rule asks: all at mark 1, those of the type at any other, and none past its depth
unfoldable pub level_mask : Rule → ℕ → ℕ
level_mask r l = cond (nat_lt l r.depth) (cond ((r.level l).mark == 1) 4294967295 65535) 0

-- two words as one number, the first of them its low half
abbrev pub paired : (ℕ → ℕ) → ℕ → ℕ
paired f l = f l + 4294967296 * f (l + 1)

-- the words of four levels, two in each number
abbrev pub levels_of : (ℕ → ℕ) → Levels
levels_of f = record { low = paired f 0; high = paired f 2 }

-- what a rule wants of them, and which bits it asks
abbrev pub shape_of : Rule → Shape
shape_of r = record { want = levels_of (level_want r); mask = levels_of (level_mask r) }

-- no level of the rule has a range
unfoldable pub plain : Rule → Bool
plain r = all_below most_levels (λ l. not (is_range (r.level l)))

-- what a read past the end of an array gives
abbrev pub no_shape : Shape
no_shape = record { want = levels_of (λ l. 0); mask = levels_of (λ l. 0) }

-- each number of its levels is one of two bytes
abbrev pub Narrow : Rule → Type 0
Narrow r = (l : ℕ) → l < most_levels → ((r.level l).type < 65536) × ((r.level l).value < 65536) × ((r.level l).tail < 65536)

-- the shapes are those of a policy's rules, as its image has them
pub record Shapes (p : Policy) (rules : ℕ) (shapes : List Shape) : Type 0 where
  pub shape : (i : ℕ) → i < rules → slice_index_or shapes i no_shape ≡ shape_of (p.rule i)
  pub narrow : (i : ℕ) → i < rules → Narrow (p.rule i)

-- ---- a context beside it

-- the levels of a context are as the shape wants them
unfoldable pub shape_fits : Shape → Levels → Bool
shape_fits shape levels = (bit_and levels.low shape.mask.low == shape.want.low) && bit_and levels.high shape.mask.high == shape.want.high

-- each mark that is set is for a rule that there is
unfoldable pub marks_within : ℕ → ℕ → Bool
marks_within rules marks = all_below most_rules (λ i. not (bit i marks) || nat_lt i rules)

-- a test passes for the rule of each mark that is set
abbrev pub marks_pass : (ℕ → Bool) → ℕ → Bool
marks_pass test marks = all_below most_rules (λ i. not (bit i marks) || test i)
