-- Privileges in one number are the same exactly where operation and target are, if the operations are numbers of 2 bytes.
-- Assumes nothing.
use Prim.Native.Nat.{ℕ, ◌+◌, ◌*◌, ◌<◌}
use native.Mathlib.Omega.{arith}
use mathlib.Core.Path.{◌≡◌, refl}
use mathlib.Core.Bool.{Bool, true, false, ◌&&◌}
use borrow.Author.Tests.{eqb-true, eqb-false, eq-eqb, ne_eqb}
use lib.Dec.{eqb}
use Rattle.format.specs.Request.{Request, operation, target}
use Rattle.format.specs.Rule.{Privilege, same_privilege}
use Rattle.judge.specs.Tally.{does}
use Rattle.fields.specs.Code.{packed_of, done_by}

word_same : (x y u v : ℕ) → x < 65536 → u < 65536 → eqb (x + 65536 * y) (u + 65536 * v) ≡ eqb x u && eqb y v
word_same x y u v hx hu = go (eqb x u) (eqb y v) refl refl
  where
    go : (a b : Bool) → eqb x u ≡ a → eqb y v ≡ b → eqb (x + 65536 * y) (u + 65536 * v) ≡ a && b
    go true true e f = let p = eqb-true x u e in let r = eqb-true y v f in eq-eqb (x + 65536 * y) (u + 65536 * v) (omega arith)
    go true false e f = ne_eqb (x + 65536 * y) (u + 65536 * v) (λ w. let p = eqb-true x u e in eqb-false y v f (omega arith))
    go false b e f = ne_eqb (x + 65536 * y) (u + 65536 * v) (λ w. eqb-false x u e (omega arith))

pub packed-same : (p r : Privilege) → p.operation < 65536 → r.operation < 65536 → eqb (packed_of p) (packed_of r) ≡ same_privilege p r
packed-same p r hp hr = word_same p.operation p.target r.operation r.target hp hr

pub packed-does : (q : Request) (p : Privilege) → operation q < 65536 → p.operation < 65536 → eqb (packed_of (done_by q)) (packed_of p) ≡ does p q
unfolding does
packed-does q p hq hp = word_same (operation q) (target q) p.operation p.target hq hp
