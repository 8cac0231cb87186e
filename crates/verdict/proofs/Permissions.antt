-- Step 1: a policy permits a request where an entry of one of its blocks grants it.
-- Assumes nothing.
use Prim.Native.Nat.{ℕ, ◌+◌, ◌-◌, ◌*◌}
use native.Mathlib.Nat.{sub-zero}
use native.Mathlib.Omega.{arith}
use mathlib.Core.Path.{◌≡◌, refl, ap, ◌∙◌}
use mathlib.Core.Bool.{Bool, true, false, ◌&&◌}
use mathlib.Core.List.{List, flatten}
use borrow.Author.Tests.{eq-eqb, ne_eqb}
use lib.Dec.{eqb}
use Rattle.words.specs.Lists.{tab, any_of}
use Rattle.words.specs.Bytes.{u16_at, bit}
use Rattle.format.specs.Layout.{permission_kind}
use Rattle.format.specs.Block.{blocks, block, kind}
use Rattle.format.specs.Request.{Request, roles, operation, target, has_role}
use Rattle.format.specs.Rule.{privilege_at, same_privilege}
use Rattle.format.specs.Policy.{policy_of, permission_at, permissions_at, entries}
use Rattle.judge.specs.Verdict.{grants, permitted}
use Rattle.fields.specs.Code.{done_by}
use Rattle.verdict.specs.Code.{entries_of}

and_assoc : (x y z : Bool) → x && (y && z) ≡ x && y && z
and_assoc true y z = refl
and_assoc false y z = refl

-- an entry's role and privilege, each as the code compares it
pub grants-by :
    (b : List ℕ) (q : Request) (i : ℕ)
    → bit ((permission_at b i).role - 1) (roles q) && same_privilege (privilege_at b (18 + 8 * i)) (done_by q) ≡ grants q (permission_at b i)
unfolding grants has_role
grants-by b q i =
    let e : 18 + 8 * i + 2 ≡ 20 + 8 * i = omega arith in
    ap (λ (k : ℕ). bit ((permission_at b i).role - 1) (roles q) && (eqb (u16_at b (18 + 8 * i)) (operation q) && eqb (u16_at b k) (target q))) e
    ∙ and_assoc (bit ((permission_at b i).role - 1) (roles q)) (eqb (u16_at b (18 + 8 * i)) (operation q)) (eqb (u16_at b (20 + 8 * i)) (target q))

-- a block that is no permission block has no entry, and the others have those that it counts
module _ (b : List ℕ) (q : Request) where
  pub no-entries : (kind b ≡ permission_kind → ⊥) → false ≡ any_of (grants q) (entries_of b)
  unfolding entries_of any_of
  no-entries h = rw (ne_eqb (kind b) permission_kind h)

  pub its-entries : kind b ≡ permission_kind → (n : ℕ) → n ≡ entries b → any_of (grants q) (tab (permission_at b) 0 n) ≡ any_of (grants q) (entries_of b)
  unfolding entries_of
  its-entries h n e = rw (e, eq-eqb (kind b) permission_kind h)

  pub entries-start : kind b ≡ permission_kind → (n : ℕ) → n ≡ entries b → any_of (grants q) (tab (permission_at b) 0 (n - 0)) ≡ any_of (grants q) (entries_of b)
  entries-start h n e = rw (sub-zero n) (its-entries h n e)

-- the entries of a policy are those of its blocks
module _ (s : List ℕ) (q : Request) where
  pub all-entries : any_of (grants q) (flatten (tab (permissions_at s) 0 (blocks s))) ≡ permitted (policy_of s) q
  unfolding permitted policy_of
  all-entries = refl

  pub blocks_start : (n : ℕ) → n ≡ blocks s → any_of (grants q) (flatten (tab (permissions_at s) 0 (n - 0))) ≡ permitted (policy_of s) q
  blocks_start n e = rw (sub-zero n, e) all-entries

  pub block-entries : (k : ℕ) (b : List ℕ) (x : Bool) → b ≡ block s k → x ≡ any_of (grants q) (entries_of b) → x ≡ any_of (grants q) (permissions_at s k)
  unfolding permissions_at entries_of
  block-entries k b x e f = rw e at f
