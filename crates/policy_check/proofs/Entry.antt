-- An entry of a permission block: a role, a privilege and a zero.
-- Assumes nothing.
use Prim.Native.Nat.{ℕ, ◌+◌, ◌*◌}
use native.Mathlib.Omega.{arith}
use mathlib.Core.Path.{◌≡◌, sym, ap}
use mathlib.Core.Bool.{Bool, not, ◌&&◌, and_assoc}
use mathlib.Core.List.{List}
use lib.Dec.{eqb, leb}
use Rattle.format.specs.Layout.{highest_role, entry_bytes, entry_operation_at, entry_target_at}
use Rattle.format.specs.Rule.{privilege_at, full_privilege}
use Rattle.format.specs.Policy.{Permission, permission_at, good_permission}

pub entry-parts : (b : List ℕ) (i : ℕ)
    → let p = permission_at b i in
    leb 1 p.role && leb p.role highest_role && full_privilege (privilege_at b (entry_operation_at + entry_bytes * i)) && eqb p.pad 0 ≡ good_permission p
unfolding good_permission
entry-parts b i =
    let p : Permission = permission_at b i in
    let e : entry_operation_at + entry_bytes * i + 2 ≡ entry_target_at + entry_bytes * i = omega arith in
    rw e
    (ap (λ (t : Bool). t && eqb p.pad 0)
    (sym (and_assoc (leb 1 p.role && leb p.role highest_role) (not (eqb p.operation 0)) (not (eqb p.target 0)))))
