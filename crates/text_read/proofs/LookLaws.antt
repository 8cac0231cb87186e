-- The numbers of names: what a look-up says, and that they fit their bytes.
-- Assumes nothing.
use Prim.Native.Nat.{ℕ, ◌<◌}
use native.Mathlib.Omega.{arith}
use mathlib.Core.Path.{◌≡◌, refl}
use mathlib.Core.Bool.{Bool, true, false, not, ◌&&◌}
use mathlib.Core.List.{List}
use mathlib.Core.Option as math
use mathlib.Core.Option.{some-ne-none}
use borrow.Author.Tests.{ne_eqb}
use lib.Dec.{eqb, leb}
use Rattle.std.specs.Prelude.{Option, Some, None, Result, Ok, Err, IfOk}
use Rattle.std.specs.Option.{ok_or}
use Rattle.std.specs.Result.{result_unwrap_or, result_and}
use Rattle.words.specs.First.{◌or_else◌, unless}
use Rattle.word_laws.proofs.Bytes.{Byte}
use Rattle.word_laws.proofs.Every.{Every}
use Rattle.format.specs.Answer.{refusal}
use Rattle.format.specs.Layout.{highest_role}
use Rattle.format.specs.Rule.{full_privilege}
use Rattle.format.specs.Code.{text_fault_of}
use Rattle.format.specs.declared.answer.TextRefusal.{TextRefusal}
use Rattle.format.specs.declared.answer.TextRefusal.TheVariants.{NotListed}
use Rattle.xml.specs.Names.{role_names, operation_names, target_names, good_names, number_of}
use Rattle.xml.specs.Read.{listed, within, or_zero, privilege_fault, privilege_of, role_fault, role_of}
use Rattle.names.specs.Code.{number_found}
use Rattle.names.proofs.LookUps.{number-found}
use Rattle.names.proofs.Numbers.{number-from-1, number-to-65535}
use Rattle.drafts.specs.Draft.{PrivilegeFits}

-- what was found, or else that the name is not listed
pub looked : (o : Option ℕ) (m : math.Option ℕ) → number_found o ≡ m → text_fault_of (ok_or o NotListed) ≡ listed m
unfolding listed
looked None m e = rw (← e) refl
looked (Some n) m e = rw (← e) refl

pub looked-number : (o : Option ℕ) (m : math.Option ℕ) → number_found o ≡ m → IfOk (ok_or o NotListed) (λ n. n ≡ or_zero m)
unfolding or_zero
looked-number None m e = tt
looked-number (Some n) m e = rw (← e) refl

-- the number of a look-up, 0 where it is an error
pub looked-or-zero : (r : Result ℕ TextRefusal) (o : math.Option ℕ) → text_fault_of r ≡ listed o → IfOk r (λ n. n ≡ or_zero o) → result_unwrap_or r 0 ≡ or_zero o
unfolding listed or_zero
looked-or-zero (Ok n) o f k = k
looked-or-zero (Err e) math.none f k = refl
looked-or-zero (Err e) (math.some n) f k = absurd (some-ne-none _ f)

-- the first fault of two look-ups
pub both-looked : (q r : Result ℕ TextRefusal) {u : Result ℕ TextRefusal} {v : Result (Unit {0}) TextRefusal} → u ≡ result_and q r → v ≡ result_and u (Ok tt)
    → text_fault_of v ≡ text_fault_of q or_else text_fault_of r
unfolding ◌or_else◌
both-looked (Ok m) (Ok n) e f = rw (f, e) refl
both-looked (Ok m) (Err x) e f = rw (f, e) refl
both-looked (Err x) r e f = rw (f, e) refl

-- a name's number fits two bytes
pub number_fits : (l : List ℕ) → Every Byte l → (k : ℕ) (w : List ℕ) → or_zero (number_of l k w) < 65536
unfolding or_zero
number_fits l bytes k w = go (number_of l k w) refl
  where
    go : (o : math.Option ℕ) → number_of l k w ≡ o → or_zero o < 65536
    go math.none e = omega arith
    go (math.some n) e = omega (arith, number-to-65535 l k n w bytes (number-found l k n w e))

-- then those of a privilege and of a role do
module _ (l : List ℕ) (fits : (k : ℕ) (w : List ℕ) → or_zero (number_of l k w) < 65536) where
  pub privilege-fits : (o t : List ℕ) → PrivilegeFits (privilege_of l o t)
  unfolding privilege_of
  privilege-fits o t = (fits 4 o, fits 5 t)

  pub role-fits : (v : List ℕ) → PrivilegeFits (role_of l v)
  unfolding role_of
  role-fits v = (fits 3 v, omega arith)

-- two tests in a row with one answer are one test
pub unless-both : {A : Type 0} (x y : Bool) (a : A) → unless x a or_else unless y a ≡ unless (x && y) a
unfolding unless ◌or_else◌
unless-both true y a = refl
unless-both false y a = refl

-- ---- in a good list

module _ (l : List ℕ) (good : good_names l ≡ true) where
  -- a name is listed unless its number is 0
  pub listed-unless : (k : ℕ) (w : List ℕ) → listed (number_of l k w) ≡ unless (not (eqb (or_zero (number_of l k w)) 0)) (refusal 42 0 0)
  unfolding listed unless or_zero
  listed-unless k w = go (number_of l k w) refl
    where
      go : (o : math.Option ℕ) → number_of l k w ≡ o → listed o ≡ unless (not (eqb (or_zero o) 0)) (refusal 42 0 0)
      go math.none e = refl
      go (math.some n) e = rw (ne_eqb n 0 (number-from-1 l k n w good (number-found l k n w e)))

  -- a privilege is without a fault if both its numbers are from 1
  pub privilege-fault : (o t : List ℕ) → privilege_fault l o t ≡ unless (full_privilege (privilege_of l o t)) (refusal 42 0 0)
  unfolding privilege_fault privilege_of
  privilege-fault o t =
      rw (listed-unless operation_names o, listed-unless target_names t)
      (unless-both (not (eqb (or_zero (number_of l operation_names o)) 0)) (not (eqb (or_zero (number_of l target_names t)) 0)) (refusal 42 0 0))

  -- a role is without a fault if its number is from 1 to 32
  pub role-fault :
      (v : List ℕ)
      → role_fault l v
      ≡ unless (not (eqb (or_zero (number_of l role_names v)) 0)) (refusal 42 0 0) or_else within (leb (or_zero (number_of l role_names v)) highest_role)
  unfolding role_fault
  role-fault v = rw (listed-unless role_names v)
