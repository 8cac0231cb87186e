-- Look-ups in a good list, as a tag asks for them: by the numbers that were found.
-- Assumes nothing.
use Prim.Native.Nat.{ℕ, ◌≤◌, ◌<◌}
use mathlib.Core.Path.{◌≡◌, sym, ap, ◌∙◌}
use mathlib.Core.Bool.{Bool, true, not}
use mathlib.Core.List.{List}
use mathlib.Core.Option.{none, some}
use native.Mathlib.Omega.{arith}
use borrow.Author.Tests.{ne_eqb, le-leb, lt-leb}
use lib.Dec.{eqb, leb}
use Rattle.words.specs.First.{◌or_else◌, unless}
use Rattle.word_laws.proofs.First.{unless-passes, unless-fails, test-passes, test-fails}
use Rattle.format.specs.Answer.{refusal}
use Rattle.format.specs.Layout.{highest_role}
use Rattle.format.specs.Rule.{Privilege, full_privilege}
use Rattle.xml.specs.Names.{role_names, good_names, number_of}
use Rattle.xml.specs.Read.{or_zero, privilege_fault, privilege_of, role_fault}
use Rattle.text_read.proofs.LookLaws.{privilege-fault, role-fault}

module _ (l : List ℕ) (good : good_names l ≡ true) where
  -- a test of the privilege that was looked up is the test of its names
  pub privilege-tests :
      (o t : List ℕ) (p : Privilege) → p ≡ privilege_of l o t → (full : Bool) → full ≡ full_privilege p → privilege_fault l o t ≡ unless full (refusal 42 0 0)
  privilege-tests o t p found full tests =
      privilege-fault l good o t ∙ ap (λ b. unless b (refusal 42 0 0)) (sym (tests ∙ ap full_privilege found))

  -- a role has one fault where its number is 0, and another where it is above the highest
  module _ (v : List ℕ) (n : ℕ) (is : n ≡ or_zero (number_of l role_names v)) where
    fault : role_fault l v ≡ unless (not (eqb n 0)) (refusal 42 0 0) or_else unless (leb n highest_role) (refusal 43 0 0)
    fault = rw is (role-fault l good v)

    pub role-unlisted : n ≡ 0 → role_fault l v ≡ some (refusal 42 0 0)
    role-unlisted z = fault ∙ test-fails (refusal 42 0 0) (unless (leb n highest_role) (refusal 43 0 0)) (rw z)

    pub role-too-high : highest_role < n → role_fault l v ≡ some (refusal 43 0 0)
    role-too-high h =
        fault
        ∙ test-passes (refusal 42 0 0) (unless (leb n highest_role) (refusal 43 0 0)) (rw (ne_eqb n 0 (λ z. omega arith)))
        ∙ unless-fails (refusal 43 0 0) (lt-leb n highest_role h)

    pub role-good : (n ≡ 0 → ⊥) → n ≤ highest_role → role_fault l v ≡ none
    role-good z h =
        fault
        ∙ test-passes (refusal 42 0 0) (unless (leb n highest_role) (refusal 43 0 0)) (rw (ne_eqb n 0 z))
        ∙ unless-passes (refusal 43 0 0) (le-leb n highest_role h)
