-- What may come next in forms that stand in sequence: f and then k, by the shape of f.
-- Assumes nothing.
use Prim.Native.Nat.{ℕ}
use mathlib.Core.Path.{◌≡◌, refl, sym, ap, ◌∙◌}
use mathlib.Core.Bool.{Bool, true, false, cond, not, ◌&&◌, ◌||◌, or-true}
use borrow.Author.Tests.{not-true}
use Rattle.forms.specs.Form.{Kind, is_of, Form, nothing, blank, one, ◌then◌, ◌or◌, many, may_end, hopeless, joined, either, left}
use Rattle.forms.proofs.Laws.{either-nothing, hopeless-either, hopeless-joined, joined-assoc}

-- a byte of a kind in front: the rest, or nothing
pub left_one : (q : Kind) (k : Form) (b : ℕ) → left (joined (one q) k) b ≡ cond (is_of q b) k nothing
unfolding joined left may_end
left_one q k b = either-nothing (joined (cond (is_of q b) blank nothing) k) ∙ go (is_of q b)
  where
    go : (x : Bool) → joined (cond x blank nothing) k ≡ cond x k nothing
    go true = refl
    go false = refl

-- any number in front: one more of them, or what is behind them
pub left-many : (g k : Form) (b : ℕ) → left (joined (many g) k) b ≡ either (joined (left g b) (joined (many g) k)) (left k b)
unfolding joined left may_end
left-many g k b = rw (joined-assoc (left g b) (many g) k)

-- the one or the other in front: the one that goes on, or what is behind them if they may end
pub left_or : (f g k : Form) (b : ℕ)
    → left (joined (f or g) k) b ≡ either (joined (either (left f b) (left g b)) k) (cond (may_end f || may_end g) (left k b) nothing)
unfolding joined left may_end
left_or f g k b = refl

-- the form begins with a part that may not end, so that its next byte is that part's alone
unfoldable pub begun : Form → Bool
begun nothing = true
begun blank = false
begun (one q) = true
begun (f then g) = begun f
begun (f or g) = not (may_end f || may_end g)
begun (many f) = false

-- a form that so begins may not end
begun-must : (f : Form) → begun f ≡ true → may_end f ≡ false
unfolding begun may_end
begun-must nothing e = refl
begun-must blank e = sym e
begun-must (one q) e = refl
begun-must (f then g) e = rw (begun-must f e)
begun-must (f or g) e = not-true (may_end f || may_end g) e
begun-must (many f) e = sym e

-- such a part in front keeps what stands behind it; where the part may end that is not so, as `joined` does not go into the two sides of an `or`
pub left-joined : (f k : Form) (b : ℕ) → begun f ≡ true → left (joined f k) b ≡ joined (left f b) k
unfolding begun joined left may_end
left-joined nothing k b e = refl
left-joined blank k b e = cc
left-joined (one q) k b e = either-nothing (joined (left (one q) b) k)
left-joined (f then g) k b e =
    left-joined f (joined g k) b e
    ∙ rw (begun-must f e, either-nothing (joined (left f b) g)) (sym (joined-assoc (left f b) g k))
left-joined (f or g) k b e = rw (not-true (may_end f || may_end g) e) (either-nothing (joined (left (f or g) b) k))
left-joined (many f) k b e = cc

-- whether a byte may come next in f and then k: in f, or, where f may end, in k
hopeless-next : (f k : Form) (b : ℕ)
    → hopeless (left (f then k) b) ≡ (hopeless (left f b) || hopeless k) && (not (may_end f) || hopeless (left k b))
unfolding left hopeless
hopeless-next f k b =
    rw (hopeless-either (joined (left f b) k) (cond (may_end f) (left k b) nothing), hopeless-joined (left f b) k)
    (ap {B = Bool} (λ x. (hopeless (left f b) || hopeless k) && x) (go (may_end f)))
  where
    go : (x : Bool) → hopeless (cond x (left k b) nothing) ≡ not x || hopeless (left k b)
    go true = refl
    go false = refl

pub hopeless-left-joined : (f k : Form) (b : ℕ)
    → hopeless (left (joined f k) b) ≡ (hopeless (left f b) || hopeless k) && (not (may_end f) || hopeless (left k b))
unfolding hopeless joined left may_end
hopeless-left-joined nothing k b = refl
hopeless-left-joined blank k b = refl
hopeless-left-joined (one q) k b = hopeless-next (one q) k b
hopeless-left-joined (f then g) k b =
    hopeless-left-joined f (joined g k) b
    ∙ rw (hopeless-joined g k, hopeless-left-joined g k b)
    (go (may_end f) (hopeless (left f b)) (hopeless g) (hopeless k) (hopeless (left g b)) (may_end g) (hopeless (left k b))
    ∙ ap {B = Bool} (λ x. (x || hopeless k) && (not (may_end f && may_end g) || hopeless (left k b))) (sym (hopeless-next f g b)))
  where
    go : (mf lf hg hk lg mg lk : Bool) →
        (lf || (hg || hk)) && (not mf || ((lg || hk) && (not mg || lk))) ≡ (((lf || hg) && (not mf || lg)) || hk) && (not (mf && mg) || lk)
    go false true hg hk lg mg lk = refl
    go false false true hk lg mg lk = refl
    go false false false hk lg mg lk = refl
    go true true hg hk lg mg lk = refl
    go true false true hk lg mg lk = refl
    go true false false true lg mg lk = rw or-true
    go true false false false lg mg lk = refl
hopeless-left-joined (f or g) k b = hopeless-next (f or g) k b
hopeless-left-joined (many f) k b = hopeless-next (many f) k b
