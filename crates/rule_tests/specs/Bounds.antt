-- A rule's levels as bounds: how the code tests which contexts a rule is about if the policy has ranges, for which a mask and what is wanted (Shapes) are
-- not enough. A level of a context is one number here, its type the high half, so that the values of a type follow one another; and what a rule asks
-- is that the number lie from a first one to a last.
-- Assumes nothing.
use Rattle.std.specs.Prelude.{◌≡◌, ℕ, ◌+◌, ◌-◌, ◌*◌, ◌/◌, ◌%◌, ◌<◌, Bool, cond, ◌&&◌, List, [], ◌==◌, nat_le, nat_lt, slice_index, slice_index_or}
use Rattle.words.specs.Lists.{tab}
use Rattle.format.specs.Layout.{most_levels}
use Rattle.format.specs.Rule.{Rule, Level, is_range, low, high}
use Rattle.format.specs.Policy.{Policy}
use Rattle.rule_tests.specs.Shapes.{Narrow}
use Rattle.rule_tests.specs.declared.levels.Levels.{Levels}
use Rattle.rule_tests.specs.declared.bounds.Bound.{Bound}

-- ---- the bounds of a rule

-- the number of a level, from its word in a context, which has the type as its low half
abbrev pub level_number : ℕ → ℕ
level_number word = word / 65536 + 65536 * (word % 65536)

-- the lowest number that the rule asks for at level l: 0 past its depth, where all is zero
unfoldable pub level_first : Rule → ℕ → ℕ
level_first r l = (r.level l).value + 65536 * (r.level l).type

-- how far behind it the highest one lies: a fixed value is one number, a range ends with its high value, all values of the type will do at any other
-- mark, and all numbers past the depth
abbrev pub mark_span : Level → ℕ
mark_span l = cond (l.mark == 1) 0 (cond (is_range l) (high l - low l) 65535)

unfoldable pub level_span : Rule → ℕ → ℕ
level_span r l = cond (nat_lt l r.depth) (mark_span (r.level l)) 4294967295

-- both of each level
unfoldable pub bound_of : Rule → Bound
bound_of r = record { first = tab (level_first r) 0 most_levels; span = tab (level_span r) 0 most_levels }

-- what a read past the end of an array gives
abbrev pub no_bound : Bound
no_bound = record { first = []; span = [] }

-- the bounds are those of a policy's rules, as its image has them
pub record Bounds (p : Policy) (rules : ℕ) (bounds : List Bound) : Type 0 where
  pub bound : (i : ℕ) → i < rules → slice_index_or bounds i no_bound ≡ bound_of (p.rule i)
  pub narrow : (i : ℕ) → i < rules → Narrow (p.rule i)

-- ---- a context beside them

-- a number lies no further than a span behind a first one; counted on from the highest number of 32 bits to 0, as the code does
unfoldable pub reached : ℕ → ℕ → ℕ → Bool
reached number first span = nat_le ((number + (4294967296 - first)) % 4294967296) span

-- two levels of a context, as words in one number, lie within the bounds of two levels, from level l on
unfoldable pub pair_fits : Bound → ℕ → ℕ → Bool
pair_fits b l pair =
    reached (level_number (pair % 4294967296)) (slice_index b.first l) (slice_index b.span l)
    && reached (level_number (pair / 4294967296)) (slice_index b.first (l + 1)) (slice_index b.span (l + 1))

-- the levels of a context lie within the bounds
unfoldable pub bound_fits : Bound → Levels → Bool
bound_fits b levels = pair_fits b 0 levels.low && pair_fits b 2 levels.high
