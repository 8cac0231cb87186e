-- The two runs, and what the call answers by them.
-- Assumes nothing.
use Prim.Native.Nat.{ℕ, ◌+◌, ◌<◌, ◌≤◌}
use native.Mathlib.Nat.{zero-add}
use mathlib.Core.Path.{◌≡◌, refl, sym, ap₂, ◌∙◌}
use mathlib.Core.List.{List}
use mathlib.Core.Option.{Option, none, some}
use lib.ListN.{length}
use borrow.Author.Tests.{le-leb, lt-leb}
use Rattle.words.specs.First.{◌or_else◌, unless}
use Rattle.forms.specs.Form.{ascii}
use Rattle.format.specs.Answer.{Refusal, refusal, accept, refuse, Outcome, refusing}
use Rattle.format.specs.Policy.{Policy, policy_fault, policy_of}
use Rattle.xml_calls.specs.Calls.{resulting, write_fault, write_rules}
use Rattle.xml.specs.Names.{names_fault}
use Rattle.xml.specs.Write.{rules_text}
use Rattle.text_write.specs.Words.{set_start, set_end}
use Rattle.std.specs.declared.result.Result.{Result}
use Rattle.std.specs.declared.result.Result.TheVariants.{Ok, Err}
use Rattle.format.specs.Code.{text_refusal_of}
use Rattle.format.specs.declared.answer.TextRefusal.{TextRefusal}
use Rattle.text_write.specs.Laid.{Lays}
use Rattle.text_write.specs.Pieces.{most_rules_bytes, most_text_bytes}
use Rattle.answers.specs.Code.{converted_of, outcome}
use Rattle.text_write.specs.Wrote.{inner_text, rules_fault, Ran, writing}
use Rattle.text_write.proofs.Laying.{laid-whole, and_then, told}

-- ---- one run

-- the tags around the rules
pub set-whole : (l : List ℕ) (p : Policy) {o₀ o₁ o₂ o₃ : List ℕ} {a b d m n : ℕ} → Lays m o₀ 0 set_start o₁ a
    → Lays most_rules_bytes o₁ a (inner_text l p) o₂ b
    → Lays n o₂ b set_end o₃ d
    → m + most_rules_bytes + n ≤ most_text_bytes
    → Lays most_text_bytes o₀ 0 (rules_text l p) o₃ d
unfolding ascii inner_text rules_text
set-whole l p x y z h = told (and_then (and_then x y) z) refl h

-- ---- the call

module _ (l : List ℕ) (p : Policy) (out : List ℕ) where
  -- the first run finds a fault
  pub write-refused : (t : TextRefusal) → rules_fault l p ≡ some (text_refusal_of t) → record { answer = refuse (text_refusal_of t); state = out } ≡ writing l p out
  unfolding writing refusing ◌or_else◌
  write-refused t e = rw e

  module _ (m : ℕ) (o o' : List ℕ) (n : ℕ) (x : (rules_fault l p ≡ none) × Lays m o 0 (rules_text l p) o' n) where
    -- what it learnt: the text's length
    size : n ≡ length (rules_text l p)
    size = x.1.behind ∙ zero-add (length (rules_text l p))

    -- it finds none, and there is not room enough
    pub write-short : length out < n → record { answer = refuse (refusal 43 0 0); state = out } ≡ writing l p out
    unfolding writing refusing ◌or_else◌ unless
    write-short h = rw (x.0, lt-leb (length (rules_text l p)) (length out) (rw (← size) h))

    -- there is room, and the second run lays the text down
    pub write-whole : n ≤ length out → (r : Result ℕ TextRefusal) (q : List ℕ) → Ran m (rules_fault l p) out 0 (rules_text l p) q r
        → outcome (converted_of r) q ≡ writing l p out
    unfolding writing refusing ◌or_else◌ unless resulting
    write-whole h (Err t) q y = let never : ◌≡◌ {A = Option Refusal} (some (text_refusal_of t)) none = sym y ∙ x.0 in cc
    write-whole h (Ok k) q y =
        let b : length (rules_text l p) ≤ length out = rw (← size) h in
        rw (x.0, le-leb (length (rules_text l p)) (length out) b)
        (ap₂ {C = Outcome (List ℕ)} (λ a s. record { answer = accept a; state = s }) (y.1.behind ∙ zero-add (length (rules_text l p)))
        (y.1.bytes ∙ laid-whole out (rules_text l p) b))

-- on an accepted policy and a good list the call does what is asked of writing: the checks before it pass
pub writing-is : (policy l out : List ℕ) → policy_fault policy ≡ none → names_fault l ≡ none → writing l (policy_of policy) out ≡ write_rules policy l out
unfolding writing rules_fault write_rules write_fault ◌or_else◌
writing-is policy l out e f = rw (e, f)
