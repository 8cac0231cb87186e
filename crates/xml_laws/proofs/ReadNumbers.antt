-- What reading makes of names that are listed: numbers from 1 to 65,535 whose names are found again, in privileges, steps, members and levels.
-- Assumes nothing.
use Prim.Native.Nat.{ℕ, ◌<◌}
use native.Mathlib.Omega.{arith}
use mathlib.Core.Path.{◌≡◌, refl}
use mathlib.Core.Bool.{Bool, true, false, cond}
use mathlib.Core.List.{List, []}
use mathlib.Core.Option.{none}
use lib.ListN.{get_or}
use lib.Dec.{eqb}
use borrow.Author.Tests.{ne_eqb}
use Rattle.word_laws.proofs.Bytes.{Byte}
use Rattle.word_laws.proofs.Every.{Every}
use Rattle.word_laws.proofs.First.{or_else-none, none_first, none-second}
use Rattle.format.specs.Rule.{Level, is_range, Privilege, Step}
use Rattle.xml.specs.Names.{type_names, value_names, role_names, operation_names, target_names, good_names, number_of, name_of}
use Rattle.xml.specs.Read.{listed, or_zero, privilege_fault, privilege_of, role_fault, role_of, step_of, no_step}
use Rattle.xml.specs.Read.{is_every, is_each, level_from, level_of, level_fault}
use Rattle.xml.specs.Write.{step_text_fault, level_names_fault}
use Rattle.names.proofs.LookUps.{number-found, number-name}
use Rattle.names.proofs.Numbers.{number-from-1, number-to-65535, found_number, listed-number}
use Rattle.xml_laws.proofs.ImageFits.{PrivilegeFits, LevelFits}

-- the number of a listed name of kind k
pub record Known (l : List ℕ) (k n : ℕ) : Type 0 where
  pub from-1 : n ≡ 0 → ⊥
  pub below-65536 : n < 65536
  pub named : listed (name_of l k n) ≡ none

-- both numbers of a privilege are
pub record KnownPrivilege (l : List ℕ) (p : Privilege) : Type 0 where
  pub operation : Known l operation_names p.operation
  pub target : Known l target_names p.target

-- a step is not set and blank, or set to such a privilege
pub data KnownStep (l : List ℕ) : Step → Type 0 where
  not_set : KnownStep l no_step
  set : {p : Privilege} → KnownPrivilege l p → KnownStep l (step_of p)

-- a member is a role or such a privilege
pub data KnownMember (l : List ℕ) (p : Privilege) : Type 0 where
  a-role : Known l role_names p.operation → p.target ≡ 0 → KnownMember l p
  a-privilege : KnownPrivilege l p → KnownMember l p

-- a level fits, its names are found, and it is no range
pub record KnownLevel (l : List ℕ) (x : Level) : Type 0 where
  pub fits : LevelFits x
  pub named : level_names_fault l x ≡ none
  pub no-range : is_range x ≡ false

module _ (l : List ℕ) where
  -- the numbers of a privilege fit
  privilege-fits : {p : Privilege} → KnownPrivilege l p → PrivilegeFits p
  privilege-fits k = record { operation-fits = k.operation.below-65536; target_fits = k.target.below-65536 }

  -- those of a member
  pub member-fits : {p : Privilege} → KnownMember l p → PrivilegeFits p
  member-fits (a-role k z) = record { operation-fits = k.below-65536; target_fits = omega arith }
  member-fits (a-privilege k) = privilege-fits k

  -- those of a step
  pub step_fits : {s : Step} → KnownStep l s → (s.flag < 256) × PrivilegeFits s.privilege
  step_fits not_set = (omega arith, record { operation-fits = omega arith; target_fits = omega arith })
  step_fits (set k) = (omega arith, privilege-fits k)

  -- and a step can be written
  pub step-named : {s : Step} → KnownStep l s → step_text_fault l s ≡ none
  unfolding step_text_fault
  step-named not_set = refl
  step-named (set k) = or_else-none k.operation.named k.target.named

module _ (l : List ℕ) (good : good_names l ≡ true) (bytes : Every Byte l) where
  -- a name that is listed has such a number
  known : (k : ℕ) (w : List ℕ) → listed (number_of l k w) ≡ none → Known l k (or_zero (number_of l k w))
  unfolding listed
  known k w h =
      let n : ℕ = or_zero (number_of l k w) in
      let e = found_number (number_of l k w) (listed-number l good k w h) in
      let x = number-found l k n w e in
      record {
        from-1 = number-from-1 l k n w good x;
        below-65536 = omega (arith, number-to-65535 l k n w bytes x);
        named = rw (number-name l good k n w e) refl;
      }

  -- so has a privilege of listed names
  pub known-privilege : (o t : List ℕ) → privilege_fault l o t ≡ none → KnownPrivilege l (privilege_of l o t)
  unfolding privilege_fault privilege_of
  known-privilege o t h =
      record { operation = known operation_names o (none_first _ _ h); target = known target_names t (none-second _ _ h) }

  -- and a member that is a listed role
  pub known-role : (v : List ℕ) → role_fault l v ≡ none → KnownMember l (role_of l v)
  unfolding role_fault role_of
  known-role v h = a-role (known role_names v (none_first _ _ h)) refl

  -- a level of mark 1, 2 or 3, of which only 1 has a value by name
  marked : {t : ℕ} (m v : ℕ) → m < 4 → v < 65536 → cond (eqb m 1) (listed (name_of l value_names v)) none ≡ none → Known l type_names t
      → KnownLevel l (level_from t m v)
  unfolding level_names_fault
  marked m v few small named k =
      record {
        fits = record {
          type-fits = k.below-65536;
          mark-fits = omega arith;
          pad-fits = omega arith;
          value-fits = small;
          tail-fits = omega arith;
        };
        named = or_else-none k.named named;
        no-range = ne_eqb m 4 (λ e. omega arith);
      }

  -- a level of listed names
  pub known-level : (p : List (List ℕ)) → level_fault l p ≡ none → KnownLevel l (level_of l p)
  unfolding level_fault level_of
  known-level p h = go (is_every v) (is_each v) (none-second _ _ h)
    where
      v : List ℕ
      v = get_or p 1 []

      t : ℕ
      t = or_zero (number_of l type_names (get_or p 0 []))

      k : Known l type_names t
      k = known type_names (get_or p 0 []) (none_first _ _ h)

      go : (a b : Bool) → cond a none (cond b none (listed (number_of l value_names v))) ≡ none
          → KnownLevel l (cond a (level_from t 2 0) (cond b (level_from t 3 0) (level_from t 1 (or_zero (number_of l value_names v)))))
      go true b e = marked 2 0 (omega arith) (omega arith) refl k
      go false true e = marked 3 0 (omega arith) (omega arith) refl k
      go false false e =
          let x = known value_names v e in marked 1 (or_zero (number_of l value_names v)) (omega arith) x.below-65536 x.named k
