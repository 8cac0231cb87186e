-- The two calls: reading, "Convert that text to rule blocks, followed by the permission blocks alone of a second lent image, numbered anew"; and writing,
-- "Also write any accepted policy's rules as text". "Checks" of W5 are their faults, in its order.
-- Assumes nothing.
use Rattle.std.specs.Prelude.{ℕ, List, ◌++◌, length, drop, leb}
use Rattle.std.proofs.Math.Option.{Option}
use Rattle.words.specs.First.{◌or_else◌, unless, first}
use Rattle.format.specs.Answer.{Refusal, refusal, accept, Outcome, refusing}
use Rattle.format.specs.Policy.{policy_of, policy_fault}
use Rattle.forms.specs.Form.{reach, is_of_form}
use Rattle.xml.specs.Grammar.{set}
use Rattle.xml.specs.Names.{names_fault}
use Rattle.xml.specs.Blocks.{rules_image}
use Rattle.xml.specs.Read.{within, nothing_read, tags_fault, after_tags, good_tags}
use Rattle.xml.specs.Write.{rules_text, rule_text_fault}

-- the result at the front of the lent output; bytes past it are unaltered
unfoldable pub resulting : List ℕ → List ℕ → Outcome (List ℕ)
resulting result output = record { answer = accept (length result); state = result ++ drop (length result) output }

-- ---- reading

-- "after the permission image has passed as a policy, 42 for a bad list; then going through the text": a fault of a tag stands before the byte that 41 names
unfoldable pub read_fault : List ℕ → List ℕ → List ℕ → ℕ → Option Refusal
read_fault text l second room =
    policy_fault second
    or_else names_fault l
    or_else tags_fault l second room nothing_read (good_tags text)
    or_else unless (is_of_form set text) (refusal 41 (reach set text) 0)

unfoldable pub read_image : List ℕ → List ℕ → List ℕ → List ℕ
read_image text l second = rules_image (after_tags l nothing_read (good_tags text)).rules second

unfoldable pub read_rules : List ℕ → List ℕ → List ℕ → List ℕ → Outcome (List ℕ)
read_rules text l second output =
    refusing (read_fault text l second (length output)) output (resulting (read_image text l second) output)

-- ---- writing

unfoldable pub write_fault : List ℕ → List ℕ → ℕ → Option Refusal
write_fault policy l room =
    let p = policy_of policy in
    policy_fault policy
    or_else names_fault l
    or_else first (λ k. rule_text_fault l (p.rule k)) 0 p.rules
    or_else within (leb (length (rules_text l p)) room)

unfoldable pub write_rules : List ℕ → List ℕ → List ℕ → Outcome (List ℕ)
write_rules policy l output =
    refusing (write_fault policy l (length output)) output (resulting (rules_text l (policy_of policy)) output)
