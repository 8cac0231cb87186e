-- What the two calls come to, by the first row that applies: the policy's, the list's, or what lies behind them.
-- Assumes nothing.
use mathlib.Core.Path.{◌≡◌, ap, ◌∙◌}
use mathlib.Core.Bool.{false}
use Prim.Native.Nat.{ℕ}
use mathlib.Core.List.{List}
use mathlib.Core.Option.{none, some}
use lib.ListN.{length}
use Rattle.words.specs.First.{◌or_else◌, unless}
use Rattle.format.specs.Answer.{Answer, refuse, Refusal, refusal, Outcome, refusing}
use Rattle.format.specs.Policy.{policy_fault, policy_of}
use Rattle.xml.specs.Names.{good_names, names_fault}
use Rattle.xml_calls.specs.Calls.{resulting, read_fault, read_image, read_rules, write_fault, write_rules}
use Rattle.text_write.specs.Wrote.{writing}
use Rattle.text_write.proofs.Whole.{writing-is}
use Rattle.answers.specs.Code.{outcome}

-- an answer under another name
answered : {a b : Answer} (s : List ℕ) {o : Outcome (List ℕ)} → a ≡ b → outcome b s ≡ o → outcome a s ≡ o
answered s e h = ap (λ (x : Answer). outcome x s) e ∙ h

module _ (text l second output : List ℕ) where
  pub read-policy : (r : Refusal) → policy_fault second ≡ some r → outcome (refuse r) output ≡ read_rules text l second output
  unfolding read_rules read_fault refusing ◌or_else◌
  read-policy r e = rw e

  pub read-names : (r : Refusal) → policy_fault second ≡ none → names_fault l ≡ some r → outcome (refuse r) output ≡ read_rules text l second output
  unfolding read_rules read_fault refusing ◌or_else◌
  read-names r p e = rw (p, e)

  -- what reading the text has come to is `read_rules` by its own words
  pub read-is : {o : Outcome (List ℕ)} → o ≡ refusing (read_fault text l second (length output)) output (resulting (read_image text l second) output)
      → o ≡ read_rules text l second output
  unfolding read_rules
  read-is e = e

  -- the same of a list that is not good, and of an answer under another name
  pub read_names :
      {a : Answer} → a ≡ refuse (refusal 42 0 0) → policy_fault second ≡ none → good_names l ≡ false → outcome a output ≡ read_rules text l second output
  unfolding read_rules read_fault names_fault unless refusing ◌or_else◌
  read_names is p e = answered output is (rw (p, e))

  pub read_is :
      {a b : Answer} (s : List ℕ) → a ≡ b
      → outcome b s ≡ refusing (read_fault text l second (length output)) output (resulting (read_image text l second) output)
      → outcome a s ≡ read_rules text l second output
  unfolding read_rules
  read_is s is e = answered s is e

module _ (policy l output : List ℕ) where
  pub write-policy : (r : Refusal) → policy_fault policy ≡ some r → outcome (refuse r) output ≡ write_rules policy l output
  unfolding write_rules write_fault refusing ◌or_else◌
  write-policy r e = rw e

  pub write-names : (r : Refusal) → policy_fault policy ≡ none → names_fault l ≡ some r → outcome (refuse r) output ≡ write_rules policy l output
  unfolding write_rules write_fault refusing ◌or_else◌
  write-names r p e = rw (p, e)

  pub write-is :
      {o : Outcome (List ℕ)} → policy_fault policy ≡ none → names_fault l ≡ none → o ≡ writing l (policy_of policy) output → o ≡ write_rules policy l output
  write-is p e h = h ∙ writing-is policy l output p e
