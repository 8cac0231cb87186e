-- What the check of a table has of a policy's rules: their shapes if none of them has a range, and else their bounds.
-- Assumes nothing.
use Rattle.std.specs.Prelude.{◌≡◌, ℕ, ◌<◌, true}
use Rattle.format.specs.Policy.{Policy}
use Rattle.rule_tests.specs.Shapes.{plain, Shapes}
use Rattle.rule_tests.specs.Bounds.{Bounds}
use Rattle.rule_tests.specs.declared.tests.By.{By}
use Rattle.rule_tests.specs.declared.tests.By.TheVariants.{Shapes as ByShapes, Bounds as ByBounds}

-- the arrays are made of the rules of a policy: shapes, which cannot say a range, only if no rule has one
abbrev pub Made : Policy → ℕ → By → Type 0
Made p rules (ByShapes shapes) = Shapes p rules shapes.now × ((i : ℕ) → i < rules → plain (p.rule i) ≡ true)
Made p rules (ByBounds bounds) = Bounds p rules bounds.now
