-- Which pieces of the text want a name that is not listed.
-- Assumes nothing.
use Rattle.std.specs.Prelude.{ℕ, Bool, true, false, cond, ◌||◌, List, eqb}
use Rattle.std.proofs.Math.Option.{Option, none, some}
use Rattle.words.specs.Lists.{any_below}
use Rattle.format.specs.Rule.{Level, is_range, Privilege, Step, is_set, Exclusion, Rule}
use Rattle.xml.specs.Names.{type_names, value_names, role_names, operation_names, target_names, name_of}

unfoldable pub no_name : Option (List ℕ) → Bool
no_name none = true
no_name (some w) = false

-- a number of a kind has no name
abbrev pub name_lost : List ℕ → ℕ → ℕ → Bool
name_lost l k n = no_name (name_of l k n)

abbrev pub privilege_lost : List ℕ → Privilege → Bool
privilege_lost l p = name_lost l operation_names p.operation || name_lost l target_names p.target

unfoldable pub step_lost : List ℕ → Step → Bool
step_lost l s = cond (is_set s) (privilege_lost l s.privilege) false

unfoldable pub member_lost : List ℕ → ℕ → Privilege → Bool
member_lost l k p = cond (eqb k 1) (name_lost l role_names p.operation) (privilege_lost l p)

unfoldable pub exclusion_lost : List ℕ → Exclusion → Bool
exclusion_lost l x = any_below x.n (λ i. member_lost l x.kind (x.member i))

unfoldable pub exclusions_lost : List ℕ → Rule → Bool
exclusions_lost l r = any_below r.exclusions (λ e. exclusion_lost l (r.exclusion e))

abbrev pub value_lost : List ℕ → Level → Bool
value_lost l x = cond (eqb x.mark 1) (name_lost l value_names x.value) false

unfoldable pub level_lost : List ℕ → Level → Bool
level_lost l x = name_lost l type_names x.type || value_lost l x

unfoldable pub context_lost : List ℕ → Rule → Bool
context_lost l r = any_below r.depth (λ i. level_lost l (r.level i))

unfoldable pub rule_lost : List ℕ → Rule → Bool
rule_lost l r = context_lost l r || (step_lost l r.first_step || step_lost l r.last_step) || exclusions_lost l r

-- a level of the rule is a range, which has no spelling
unfoldable pub has_range : Rule → Bool
has_range r = any_below r.depth (λ i. is_range (r.level i))
