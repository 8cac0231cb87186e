-- The tags of what is written, in the order in which writing makes them.
-- Assumes nothing.
use Prim.Native.Nat.{ℕ, ◌+◌}
use mathlib.Core.Bool.{cond}
use mathlib.Core.List.{List, [], ◌∷◌, ◌++◌, flatten}
use lib.Dec.{eqb}
use Rattle.words.specs.Lists.{tab}
use Rattle.format.specs.Rule.{Privilege, Step, is_set, Exclusion, Rule}
use Rattle.format.specs.Policy.{Policy}
use Rattle.xml.specs.Names.{role_names, operation_names, target_names}
use Rattle.xml.specs.Tags.{Tag, start_set, end_set, start_rule, end_rule, first_step, last_step, start_exclusion, end_exclusion, role, privilege}
use Rattle.xml.specs.Write.{name_text, context_text}

-- a step, if it is set
unfoldable pub step_tags : List ℕ → (List ℕ → List ℕ → Tag) → Step → List Tag
step_tags l says s =
    cond (is_set s) (says (name_text l operation_names s.privilege.operation) (name_text l target_names s.privilege.target) ∷ []) []

unfoldable pub member_tag : List ℕ → ℕ → Privilege → Tag
member_tag l k p =
    cond (eqb k 1) (role (name_text l role_names p.operation))
    (privilege (name_text l operation_names p.operation) (name_text l target_names p.target))

unfoldable pub exclusion_tags : List ℕ → Exclusion → List Tag
exclusion_tags l x = start_exclusion x.kind ((48 + x.m) ∷ []) ∷ tab (λ i. member_tag l x.kind (x.member i)) 0 x.n ++ end_exclusion ∷ []

unfoldable pub rule_tags : List ℕ → Rule → List Tag
rule_tags l r =
    start_rule (context_text l r)
    ∷ (step_tags l first_step r.first_step
    ++ (step_tags l last_step r.last_step ++ (flatten (tab (λ e. exclusion_tags l (r.exclusion e)) 0 r.exclusions) ++ end_rule ∷ [])))

unfoldable pub rules_tags : List ℕ → Policy → List Tag
rules_tags l p = start_set ∷ flatten (tab (λ k. rule_tags l (p.rule k)) 0 p.rules) ++ end_set ∷ []
