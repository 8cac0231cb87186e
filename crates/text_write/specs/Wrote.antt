-- What a run over an output answers, and what the call does.
-- Assumes nothing.
use Rattle.std.specs.Prelude.{ℕ, ◌≡◌, length, leb, Result, Ok, Err}
use mathlib.Core.List.{List, flatten}
use Rattle.std.proofs.Math.Option.{Option, none, some}
use Rattle.words.specs.Lists.{tab}
use Rattle.words.specs.First.{◌or_else◌, first}
use Rattle.format.specs.Answer.{Refusal, Outcome, refusing}
use Rattle.format.specs.Code.{text_refusal_of}
use Rattle.format.specs.declared.answer.TextRefusal.{TextRefusal}
use Rattle.format.specs.Policy.{Policy}
use Rattle.xml.specs.Read.{within}
use Rattle.xml_calls.specs.Calls.{resulting}
use Rattle.xml.specs.Write.{rule_text, rule_text_fault, rules_text}
use Rattle.text_write.specs.Laid.{Lays}

-- the rules' texts without the tags around them, and the first fault
unfoldable pub inner_text : List ℕ → Policy → List ℕ
inner_text l p = flatten (tab (λ k. rule_text l (p.rule k)) 0 p.rules)

unfoldable pub rules_fault : List ℕ → Policy → Option Refusal
rules_fault l p = first (λ k. rule_text_fault l (p.rule k)) 0 p.rules

-- a run from a byte on: the first fault, or the whole text laid down
abbrev pub Ran : ℕ → Option Refusal → List ℕ → ℕ → List ℕ → List ℕ → Result ℕ TextRefusal → Type 0
Ran most fault before at text after (Ok next) = (fault ≡ none) × Lays most before at text after next
Ran most fault before at text after (Err r) = fault ≡ some (text_refusal_of r)

-- the call on a good policy and a good list: the answer, and every byte of the output
unfoldable pub writing : List ℕ → Policy → List ℕ → Outcome (List ℕ)
writing l p output =
    refusing (rules_fault l p or_else within (leb (length (rules_text l p)) (length output))) output (resulting (rules_text l p) output)
