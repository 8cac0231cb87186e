-- Steps 1 to 3 of the judge. They look at a rule's past in the request's run place and at whether that run place is open, and do not care where
-- these come from: the judge reads them off the table's marks, the full register off its runs.
-- Assumes nothing.
use Rattle.std.specs.Prelude.{ℕ, ◌+◌, Bool, cond, not, ◌&&◌, ◌||◌, List, eqb}
use Rattle.std.proofs.Math.Option.{Option, none}
use Rattle.words.specs.Lists.{any_of}
use Rattle.words.specs.First.{◌or_else◌, unless, first}
use Rattle.format.specs.Answer.{Refusal, refusal}
use Rattle.format.specs.Request.{Request, operation, target, has_role}
use Rattle.format.specs.Rule.{Rule, is_set}
use Rattle.format.specs.Fits.{fits}
use Rattle.format.specs.Policy.{Policy, Permission}
use Rattle.judge.specs.Tally.{does, reached, exclusion_number, counted}

-- "1. Some active role has the permission for operation and target, else 31."
unfoldable pub grants : Request → Permission → Bool
grants q e = has_role e.role q && eqb e.operation (operation q) && eqb e.target (target q)

unfoldable pub permitted : Policy → Request → Bool
permitted p q = any_of (grants q) p.permissions

-- the request is the rule's first step; its last step
unfoldable pub is_first : Rule → Request → Bool
is_first r q = is_set r.first_step && does r.first_step.privilege q

unfoldable pub is_last : Rule → Request → Bool
is_last r q = is_set r.last_step && does r.last_step.privilege q

-- "2. A rule that fits judges if it has no first step, or this is its first step, or its run place has a marked record. Other rules are silent."
-- `open` says that the run place has one.
unfoldable pub judges : Rule → Request → Bool → Bool
judges r q «open» = fits r q && (not (is_set r.first_step) || is_first r q || «open»)

-- "3. .. each exclusion in order": the first that the request would bring to m, with "rule, exclusion", both from 1. i is the rule's index.
unfoldable pub failing : ℕ → Rule → Request → List Request → Option Refusal
failing i r q past =
    first (λ e. unless (not (reached (r.exclusion e) (counted q past))) (refusal (exclusion_number (r.exclusion e)) (i + 1) (e + 1))) 0 r.exclusions

-- steps 1 to 3: "For each judging rule in order .. The first failing exclusion ends the search through rules and exclusions."
unfoldable pub verdict : Policy → Request → (ℕ → Bool) → (ℕ → List Request) → Option Refusal
verdict p q «open» past =
    unless (permitted p q) (refusal 31 0 0)
    or_else first (λ i. cond (judges (p.rule i) q («open» i)) (failing i (p.rule i) q (past i)) none) 0 p.rules
