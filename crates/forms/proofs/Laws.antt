-- Laws of forms that computing with them needs.
-- Assumes nothing.
use Prim.Native.Nat.{ℕ, suc, ◌+◌}
use native.Mathlib.Nat.{zero-add, add-zero}
use native.Mathlib.Omega.{arith}
use mathlib.Core.Path.{◌≡◌, refl, sym, ap, ◌∙◌}
use mathlib.Core.Bool.{Bool, true, false, cond, ◌&&◌, ◌||◌, and-true, and-false, or-true, or_assoc}
use mathlib.Core.List.{List, [], ◌∷◌, ◌++◌, append-nil}
use lib.ListN.{length}
use Rattle.forms.specs.Form.{Form, nothing, blank, one, ◌then◌, ◌or◌, many, may_end, hopeless, joined, is_nothing, either, left, lefts, is_of_form, reach}
use Rattle.forms.proofs.Tests.{both-pass, one_passes}

-- ---- the one and then the other, the one or the other

-- only `nothing` is nothing
is-nothing : (f : Form) → is_nothing f ≡ true → f ≡ nothing
unfolding is_nothing
is-nothing nothing e = refl
is-nothing blank e = cc
is-nothing (one q) e = cc
is-nothing (f then g) e = cc
is-nothing (f or g) e = cc
is-nothing (many f) e = cc

-- what holds of g where f is nothing, of f where g is nothing, and of f or g, holds of the one or the other
pub either_is : (P : Form → Type 0) (f g : Form) → (f ≡ nothing → P g) → (g ≡ nothing → P f) → P (f or g) → P (either f g)
unfolding either
either_is P f g a b c = go (is_nothing f) refl (is_nothing g) refl
  where
    go : (x : Bool) → is_nothing f ≡ x → (y : Bool) → is_nothing g ≡ y → P (cond x g (cond y f (f or g)))
    go true d y e = a (is-nothing f d)
    go false d true e = b (is-nothing g e)
    go false d false e = c

-- f, or nothing, is f
pub either-nothing : (f : Form) → either f nothing ≡ f
unfolding either is_nothing
either-nothing nothing = refl
either-nothing blank = refl
either-nothing (one q) = refl
either-nothing (f then g) = refl
either-nothing (f or g) = refl
either-nothing (many f) = refl

-- nothing, or g, is g
pub nothing-either : (g : Form) → either nothing g ≡ g
unfolding either is_nothing
nothing-either g = refl

-- of two sides both must be hopeless, of two parts one
pub hopeless-either : (f g : Form) → hopeless (either f g) ≡ hopeless f && hopeless g
unfolding hopeless
hopeless-either f g = either_is (λ h. hopeless h ≡ hopeless f && hopeless g) f g (λ e. rw e) (λ e. rw (e, and-true)) refl

pub hopeless-joined : (f g : Form) → hopeless (joined f g) ≡ hopeless f || hopeless g
unfolding hopeless joined
hopeless-joined nothing g = refl
hopeless-joined blank g = refl
hopeless-joined (one q) g = refl
hopeless-joined (f then h) g = rw (hopeless-joined f (joined h g), hopeless-joined h g, or_assoc (hopeless f) (hopeless h) (hopeless g))
hopeless-joined (f or h) g = refl
hopeless-joined (many f) g = refl

-- "f and then g" needs no brackets
pub joined-assoc : (f g h : Form) → joined (joined f g) h ≡ joined f (joined g h)
unfolding joined
joined-assoc nothing g h = refl
joined-assoc blank g h = refl
joined-assoc (one q) g h = refl
joined-assoc (f then k) g h = rw (joined-assoc f (joined k g) h, joined-assoc k g h)
joined-assoc (f or k) g h = refl
joined-assoc (many f) g h = refl

-- ---- hope

-- a form that may end is not hopeless
pub hopeless-ends : (f : Form) → may_end f ≡ true → hopeless f ≡ false
unfolding may_end hopeless
hopeless-ends nothing e = sym e
hopeless-ends blank e = refl
hopeless-ends (one q) e = refl
hopeless-ends (f then g) e = both-pass (may_end f) (may_end g) e (λ x y. rw (hopeless-ends f x, hopeless-ends g y))
hopeless-ends (f or g) e =
    one_passes (may_end f) (may_end g) e (λ x. rw (hopeless-ends f x)) (λ y. rw (hopeless-ends g y, and-false (hopeless f)))
hopeless-ends (many f) e = refl

-- a hopeless form may not end
pub hopeless-goes-on : (f : Form) → hopeless f ≡ true → may_end f ≡ false
hopeless-goes-on f h = go (may_end f) refl
  where
    go : (x : Bool) → may_end f ≡ x → x ≡ false
    go true e = sym h ∙ hopeless-ends f e
    go false e = refl

-- what is hopeless stays so after a byte
pub hopeless-left : (f : Form) (b : ℕ) → hopeless f ≡ true → hopeless (left f b) ≡ true
unfolding hopeless left
hopeless-left nothing b h = refl
hopeless-left blank b h = refl
hopeless-left (one q) b h = cc
hopeless-left (f then g) b h =
    rw (hopeless-either (joined (left f b) g) (cond (may_end f) (left g b) nothing), hopeless-joined (left f b) g)
    (one_passes (hopeless f) (hopeless g) h
    (λ x. rw (hopeless-left f b x, hopeless-goes-on f x))
    (λ y. rw (y, or-true (hopeless (left f b))) (go (may_end f) (hopeless-left g b y))))
  where
    go : (x : Bool) → hopeless (left g b) ≡ true → hopeless (cond x (left g b) nothing) ≡ true
    go true e = e
    go false e = refl
hopeless-left (f or g) b h =
    rw (hopeless-either (left f b) (left g b))
    (both-pass (hopeless f) (hopeless g) h (λ x y. rw (hopeless-left f b x, hopeless-left g b y)))
hopeless-left (many f) b h = cc

-- where there is hope after some bytes, there was hope before them
pub hope-before : (f : Form) (t : List ℕ) → hopeless (lefts f t) ≡ false → hopeless f ≡ false
unfolding lefts
hope-before f [] h = h
hope-before f (b ∷ t) h = go (hopeless f) refl (hope-before (left f b) t h)
  where
    go : (x : Bool) → hopeless f ≡ x → hopeless (left f b) ≡ false → x ≡ false
    go true e l = sym (hopeless-left f b e) ∙ l
    go false e l = refl

-- and there was hope after the first of them
pub hope-first : (f : Form) (b : ℕ) (t : List ℕ) → hopeless (lefts f (b ∷ t)) ≡ false → hopeless (left f b) ≡ false
unfolding lefts
hope-first f b t h = hope-before (left f b) t h

-- ---- how far a text is good

-- what is left after two texts, one behind the other
pub lefts-++ : (f : Form) (t u : List ℕ) → lefts f (t ++ u) ≡ lefts (lefts f t) u
unfolding lefts
lefts-++ f [] u = refl
lefts-++ f (b ∷ t) u = lefts-++ (left f b) t u

-- no byte, none good
pub reach-none : (f : Form) → reach f [] ≡ 0
unfolding reach
reach-none f = refl

-- a first byte that leaves no hope is the first bad one
pub reach-stops : (f : Form) (b : ℕ) (t : List ℕ) → hopeless (left f b) ≡ true → reach f (b ∷ t) ≡ 0
unfolding reach
reach-stops f b t h = rw h

-- a first byte that leaves hope counts
pub reach-goes-on : (f : Form) (b : ℕ) (t : List ℕ) → hopeless (left f b) ≡ false → reach f (b ∷ t) ≡ suc (reach (left f b) t)
unfolding reach
reach-goes-on f b t h = rw h

-- after a text that leaves hope, the bytes behind it are judged by what is left
pub reach-took : (f : Form) (t u : List ℕ) → hopeless (lefts f t) ≡ false → reach f (t ++ u) ≡ length t + reach (lefts f t) u
unfolding lefts
reach-took f [] u h = sym (zero-add (reach f u))
reach-took f (b ∷ t) u h = reach-goes-on f b (t ++ u) (hope-before (left f b) t h) ∙ rw (reach-took (left f b) t u h) (omega arith)

-- a text of the form is good to its end
pub reach-whole : (f : Form) (t : List ℕ) → is_of_form f t ≡ true → reach f t ≡ length t
unfolding is_of_form
reach-whole f t e =
    ap (reach f) (sym (append-nil t)) ∙ reach-took f t [] (hopeless-ends (lefts f t) e) ∙ rw (reach-none (lefts f t)) (add-zero (length t))
