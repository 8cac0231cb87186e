-- The numbers of a good list: from 1, and 0 says that a name is not listed.
-- Assumes nothing.
use Prim.Native.Nat.{ℕ, ◌+◌, ◌*◌, ◌≤◌}
use native.Mathlib.Omega.{arith}
use mathlib.Core.Path.{◌≡◌, refl, ◌∙◌}
use mathlib.Core.Bool.{true}
use mathlib.Core.List.{List}
use mathlib.Core.Option.{Option, none, some}
use Rattle.std.specs.declared.option.Option.{Option as Found}
use Rattle.std.specs.declared.option.Option.TheVariants.{None, Some}
use Rattle.std.specs.Option.{unwrap_or}
use Rattle.word_laws.proofs.Bytes.{Byte}
use Rattle.word_laws.proofs.Every.{Every, every-get_d}
use Rattle.xml.specs.Names.{name_in, good_names, number_of}
use Rattle.xml.specs.Read.{listed, or_zero}
use Rattle.names.specs.Code.{number_found}
use Rattle.names.proofs.GoodEntries.{entry_at}
use Rattle.names.proofs.LookUps.{Named, number-found}

module _ (l : List ℕ) (k n : ℕ) (w : List ℕ) where
  -- no number is 0
  pub number-from-1 : good_names l ≡ true → Named l k n w → n ≡ 0 → ⊥
  number-from-1 good x z = (entry_at l good x.entry x.inside).numbered (x.number ∙ z)

  -- none is above 65,535, in a list of bytes
  pub number-to-65535 : Every Byte l → Named l k n w → n ≤ 65535
  unfolding name_in
  number-to-65535 bytes x =
      let i = x.entry in
      let low = every-get_d 0 (64 * i + 2) bytes (omega (arith, x.inside)) in
      let high = every-get_d 0 (64 * i + 2 + 1) bytes (omega (arith, x.inside)) in
      omega (arith, x.number)

-- ---- the number that a look-up gives, 0 for none

-- the number of the code, 0 for none
pub unwrap_or-found : (o : Found ℕ) → unwrap_or o 0 ≡ or_zero (number_found o)
unfolding or_zero
unwrap_or-found None = refl
unwrap_or-found (Some n) = refl

-- a number that is not 0 was found
pub found_number : (o : Option ℕ) → (or_zero o ≡ 0 → ⊥) → o ≡ some (or_zero o)
unfolding or_zero
found_number none h = absurd (h refl)
found_number (some n) h = refl

module _ (l : List ℕ) (good : good_names l ≡ true) (k : ℕ) (w : List ℕ) where
  -- 0 was not
  pub not_found : or_zero (number_of l k w) ≡ 0 → number_of l k w ≡ none
  unfolding or_zero
  not_found z = go (number_of l k w) refl z
    where
      go : (o : Option ℕ) → number_of l k w ≡ o → or_zero o ≡ 0 → o ≡ none
      go none e h = refl
      go (some n) e h = absurd (number-from-1 l k n w good (number-found l k n w e) h)

  -- a name is listed where its number is not 0
  pub listed-number : listed (number_of l k w) ≡ none → or_zero (number_of l k w) ≡ 0 → ⊥
  unfolding listed
  listed-number h z = let e = rw (not_found z) at h in let f : ◌≡◌ {A = ℕ} 0 1 = cc in omega arith

  pub number-listed : (or_zero (number_of l k w) ≡ 0 → ⊥) → listed (number_of l k w) ≡ none
  unfolding listed
  number-listed h = rw (found_number (number_of l k w) h)
