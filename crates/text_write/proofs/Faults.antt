-- The fault of a rule: 42 if a name is missing anywhere in it, else 43 if a level is a range.
-- Assumes nothing.
use Prim.Native.Nat.{ℕ, zero, suc, ◌+◌}
use native.Mathlib.Nat.{zero-add, add-zero}
use native.Mathlib.Omega.{arith}
use mathlib.Core.Path.{◌≡◌, refl, sym, ap, ◌∙◌}
use mathlib.Core.Bool.{Bool, true, false, cond, not, ◌||◌}
use mathlib.Core.List.{List}
use mathlib.Core.Option.{Option, none, some}
use lib.Dec.{eqb}
use Rattle.words.specs.Lists.{any_below}
use Rattle.words.specs.First.{◌or_else◌, unless, first}
use Rattle.word_laws.proofs.First.{first-same}
use Rattle.format.specs.Answer.{Refusal, refusal}
use Rattle.format.specs.Rule.{Level, Privilege, Step, is_set, Exclusion, Rule}
use Rattle.xml.specs.Names.{type_names, value_names, role_names, operation_names, target_names, name_of}
use Rattle.xml.specs.Read.{listed, within}
use Rattle.xml.specs.Write.{step_text_fault, member_fault, level_names_fault, rule_text_fault}
use Rattle.text_write.specs.Lost.{no_name, step_lost, member_lost, exclusion_lost, exclusions_lost, level_lost, context_lost, rule_lost, has_range}

-- 42 for a name that is not listed
abbrev noted : Bool → Option Refusal
noted b = cond b (some (refusal 42 0 0)) none

-- ---- several names

-- the first of three, and the first of one
or_else-assoc : {A : Type 0} (x y z : Option A) → (x or_else y) or_else z ≡ x or_else (y or_else z)
unfolding ◌or_else◌
or_else-assoc none y z = refl
or_else-assoc (some a) y z = refl

or_else-none : {A : Type 0} (x : Option A) → x or_else none ≡ x
unfolding ◌or_else◌
or_else-none none = refl
or_else-none (some a) = refl

-- one name more at the end of a row
first-last : {A : Type 0} (f : ℕ → Option A) (k n : ℕ) → first f k (suc n) ≡ first f k n or_else f (k + n)
unfolding first ◌or_else◌
first-last f k zero = or_else-none (f k) ∙ ap f (sym (add-zero k))
first-last f k (suc n) =
    let e : suc k + n ≡ k + suc n = omega arith in
    ap (λ z. f k or_else z) (first-last f (suc k) n)
    ∙ sym (or_else-assoc (f k) (first f (suc k) n) (f (suc k + n)))
    ∙ ap (λ i. (f k or_else first f (suc k) n) or_else f i) e

-- of two names, and of a row of them: 42 if one is missing
noted-or : (a b : Bool) → noted a or_else noted b ≡ noted (a || b)
unfolding ◌or_else◌
noted-or true b = refl
noted-or false b = refl

noted-row : (g : ℕ → Bool) (n : ℕ) → first (λ i. noted (g i)) 0 n ≡ noted (any_below n g)
unfolding first any_below
noted-row g zero = refl
noted-row g (suc n) = first-last (λ i. noted (g i)) 0 n ∙ rw (noted-row g n, zero-add n) (noted-or (any_below n g) (g n))

-- ---- the pieces

-- a name, two names, a step, a member, a level, an exclusion: 42 if a name of it is missing
name-noted : (o : Option (List ℕ)) → listed o ≡ noted (no_name o)
unfolding listed no_name
name-noted none = refl
name-noted (some w) = refl

pair-noted : (x y : Option (List ℕ)) → listed x or_else listed y ≡ noted (no_name x || no_name y)
pair-noted x y = rw (name-noted x, name-noted y) (noted-or (no_name x) (no_name y))

step-noted : (l : List ℕ) (s : Step) → step_text_fault l s ≡ noted (step_lost l s)
unfolding step_text_fault step_lost
step-noted l s = go (is_set s)
  where
    x : Option (List ℕ)
    x = name_of l operation_names s.privilege.operation

    y : Option (List ℕ)
    y = name_of l target_names s.privilege.target

    go : (t : Bool) → cond t (listed x or_else listed y) none ≡ noted (cond t (no_name x || no_name y) false)
    go true = pair-noted x y
    go false = refl

member-noted : (l : List ℕ) (k : ℕ) (p : Privilege) → member_fault l k p ≡ noted (member_lost l k p)
unfolding member_fault member_lost
member-noted l k p = go (eqb k 1)
  where
    x : Option (List ℕ)
    x = name_of l operation_names p.operation

    y : Option (List ℕ)
    y = name_of l target_names p.target

    z : Option (List ℕ)
    z = name_of l role_names p.operation

    go : (t : Bool) → cond t (listed z) (listed x or_else listed y) ≡ noted (cond t (no_name z) (no_name x || no_name y))
    go true = name-noted z
    go false = pair-noted x y

level-noted : (l : List ℕ) (x : Level) → level_names_fault l x ≡ noted (level_lost l x)
unfolding level_names_fault level_lost
level-noted l x = go (eqb x.mark 1)
  where
    y : Option (List ℕ)
    y = name_of l type_names x.type

    z : Option (List ℕ)
    z = name_of l value_names x.value

    go : (t : Bool) → listed y or_else cond t (listed z) none ≡ noted (no_name y || cond t (no_name z) false)
    go true = pair-noted y z
    go false = rw (name-noted y) (noted-or (no_name y) false)

exclusion-noted : (l : List ℕ) (x : Exclusion) → first (λ i. member_fault l x.kind (x.member i)) 0 x.n ≡ noted (exclusion_lost l x)
unfolding exclusion_lost
exclusion-noted l x =
    first-same _ (λ i. noted (member_lost l x.kind (x.member i))) 0 x.n (λ i a b. member-noted l x.kind (x.member i))
    ∙ noted-row (λ i. member_lost l x.kind (x.member i)) x.n

-- ---- the rule

-- all exclusions, and the context
exclusions-noted : (l : List ℕ) (r : Rule)
    → first (λ e. let x = r.exclusion e in first (λ i. member_fault l x.kind (x.member i)) 0 x.n) 0 r.exclusions ≡ noted (exclusions_lost l r)
unfolding exclusions_lost
exclusions-noted l r =
    first-same _ (λ e. noted (exclusion_lost l (r.exclusion e))) 0 r.exclusions (λ e a b. exclusion-noted l (r.exclusion e))
    ∙ noted-row (λ e. exclusion_lost l (r.exclusion e)) r.exclusions

context-noted : (l : List ℕ) (r : Rule) → first (λ i. level_names_fault l (r.level i)) 0 r.depth ≡ noted (context_lost l r)
unfolding context_lost
context-noted l r =
    first-same _ (λ i. noted (level_lost l (r.level i))) 0 r.depth (λ i a b. level-noted l (r.level i))
    ∙ noted-row (λ i. level_lost l (r.level i)) r.depth

-- four pieces, in whatever order
all_noted : (a b c d : Bool) (o : Option Refusal) → noted a or_else noted b or_else noted c or_else noted d or_else o ≡ noted (d || (a || b) || c) or_else o
unfolding ◌or_else◌
all_noted true b c true o = refl
all_noted true b c false o = refl
all_noted false true c true o = refl
all_noted false true c false o = refl
all_noted false false true true o = refl
all_noted false false true false o = refl
all_noted false false false true o = refl
all_noted false false false false o = refl

-- a rule's fault: its names first, wherever they stand, and then its ranges
rule-noted : (l : List ℕ) (r : Rule) → rule_text_fault l r ≡ noted (rule_lost l r) or_else within (not (has_range r))
unfolding rule_text_fault rule_lost has_range
rule-noted l r =
    rw (step-noted l r.first_step, step-noted l r.last_step, exclusions-noted l r, context-noted l r)
    (all_noted (step_lost l r.first_step) (step_lost l r.last_step) (exclusions_lost l r) (context_lost l r) (within (not (has_range r))))

module _ (l : List ℕ) (r : Rule) where
  -- a name is missing
  pub fault-missing : rule_lost l r ≡ true → rule_text_fault l r ≡ some (refusal 42 0 0)
  unfolding ◌or_else◌
  fault-missing e = rule-noted l r ∙ rw e

  -- none is missing, and a level is a range
  pub fault-range : rule_lost l r ≡ false → has_range r ≡ true → rule_text_fault l r ≡ some (refusal 43 0 0)
  unfolding ◌or_else◌ unless
  fault-range e h = rule-noted l r ∙ rw (e, h)

  -- neither
  pub fault-none : rule_lost l r ≡ false → has_range r ≡ false → rule_text_fault l r ≡ none
  unfolding ◌or_else◌ unless
  fault-none e h = rule-noted l r ∙ rw (e, h)
