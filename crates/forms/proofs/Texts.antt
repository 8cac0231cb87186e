-- `reach` gives what the paper asks for: the claim `Adequate` of specs/Texts.antt, by which texts are of a form.
-- Assumes nothing.
use Prim.Native.Nat.{ℕ, suc, ◌<◌}
use native.Mathlib.Omega.{arith}
use mathlib.Core.Path.{◌≡◌, refl, sym, ap, ◌∙◌}
use mathlib.Core.Bool.{Bool, true, false, cond, and-false, or-true, true≢false, false≢true}
use mathlib.Core.List.{List, [], ◌∷◌, ◌++◌, append_assoc}
use borrow.Author.Tests.{eq-eqb}
use lib.ListN.{length, take}
use Rattle.words.specs.Lists.{any_of}
use Rattle.forms.specs.Form.{ascii, Kind, this, space, digit, of_name, name_byte, is_of}
use Rattle.forms.specs.Form.{Form, nothing, blank, one, ◌then◌, ◌or◌, many, may_end, hopeless, joined, either, left, lefts, is_of_form, reach}
use Rattle.forms.specs.Texts.{Of, no_byte, a_byte, in-turn, by_first, by-second, no_more, one_more, Told, Begins, FirstBad, Adequate}
use Rattle.forms.proofs.Tests.{both-pass, one_passes, both-fail, one-fails}
use Rattle.forms.proofs.Laws.{either_is, reach-none, reach-stops, reach-goes-on}

-- ---- forms that have a text

-- a form with a text is not hopeless
pub has-hope : {f : Form} {t : List ℕ} → Of f t → hopeless f ≡ false
unfolding hopeless
has-hope no_byte = refl
has-hope (a_byte e) = refl
has-hope (in-turn u v e x y) = rw (has-hope x, has-hope y)
has-hope (by_first x) = rw (has-hope x)
has-hope (by-second {f} y) = rw (has-hope y, and-false (hopeless f))
has-hope no_more = refl
has-hope (one_more u v e x y) = refl

-- no text is of `nothing`
no_text : {A : Type 0} {t : List ℕ} → Of nothing t → A
unfolding hopeless
no_text x = absurd (true≢false (has-hope x))

-- two texts that make the empty one are empty
both-empty : (u v : List ℕ) → u ++ v ≡ [] → (u ≡ []) × (v ≡ [])
both-empty [] v e = (refl, e)
both-empty (b ∷ u) v e = (cc, cc)

-- the empty text is of a form just if the form may end
pub empty-ends : {f : Form} {t : List ℕ} → Of f t → t ≡ [] → may_end f ≡ true
unfolding may_end
empty-ends no_byte z = refl
empty-ends (a_byte e) z = cc
empty-ends (in-turn u v e x y) z = let p = both-empty u v (sym e ∙ z) in rw (empty-ends x p.0, empty-ends y p.1)
empty-ends (by_first x) z = rw (empty-ends x z)
empty-ends (by-second {f} y) z = rw (empty-ends y z, or-true (may_end f))
empty-ends no_more z = refl
empty-ends (one_more u v e x y) z = refl

pub ends-empty : (f : Form) → may_end f ≡ true → Of f []
unfolding may_end
ends-empty nothing e = absurd (false≢true e)
ends-empty blank e = no_byte
ends-empty (one q) e = absurd (false≢true e)
ends-empty (f then g) e = both-pass (may_end f) (may_end g) e (λ x y. in-turn [] [] refl (ends-empty f x) (ends-empty g y))
ends-empty (f or g) e = one_passes (may_end f) (may_end g) e (λ x. by_first (ends-empty f x)) (λ y. by-second (ends-empty g y))
ends-empty (many f) e = no_more

-- each kind has a byte: itself, a space, 0, a
sample : (q : Kind) → (b : ℕ) × (is_of q b ≡ true)
unfolding is_of name_byte ascii any_of
sample (this n) = (n, eq-eqb n n refl)
sample space = (32, refl)
sample digit = (48, refl)
sample of_name = (97, refl)

-- a form that is not hopeless has a text
pub some-text : (f : Form) → hopeless f ≡ false → (t : List ℕ) × Of f t
unfolding hopeless
some-text nothing h = absurd (true≢false h)
some-text blank h = ([], no_byte)
some-text (one q) h = let s = sample q in (s.0 ∷ [], a_byte s.1)
some-text (f then g) h =
    both-fail (hopeless f) (hopeless g) h
    (λ x y. let s = some-text f x in let r = some-text g y in (s.0 ++ r.0, in-turn s.0 r.0 refl s.1 r.1))
some-text (f or g) h =
    one-fails (hopeless f) (hopeless g) h
    (λ x. let s = some-text f x in (s.0, by_first s.1))
    (λ y. let r = some-text g y in (r.0, by-second r.1))
some-text (many f) h = ([], no_more)

-- ---- the one and then the other, the one or the other

-- a text of f and one of g behind it
pub join : {f g : Form} {u v : List ℕ} → Of f u → Of g v → Of (joined f g) (u ++ v)
unfolding joined
join no_byte z = z
join {v} (a_byte {b} e) z = in-turn (b ∷ []) v refl (a_byte e) z
join {v} (in-turn p q e x y) z = rw (e, append_assoc p q v) (join x (join y z))
join {u} {v} (by_first x) z = in-turn u v refl (by_first x) z
join {u} {v} (by-second y) z = in-turn u v refl (by-second y) z
join {v} no_more z = in-turn [] v refl no_more z
join {u} {v} (one_more p q e x y) z = in-turn u v refl (one_more p q e x y) z

-- the text is one of f and one of g behind it
pub record Split (f g : Form) (t : List ℕ) : Type 0 where
  pub front : List ℕ
  pub back : List ℕ
  pub whole : t ≡ front ++ back
  pub of-front : Of f front
  pub of-back : Of g back

-- every text of the one and then the other is such: of the two as they stand, and of the two joined
in_two : {f g : Form} {t : List ℕ} → Of (f then g) t → Split f g t
in_two (in-turn u v e x y) = record { front = u; back = v; whole = e; of-front = x; of-back = y }

pub unjoin : (f : Form) {g : Form} {t : List ℕ} → Of (joined f g) t → Split f g t
unfolding joined
unjoin nothing z = no_text z
unjoin blank {t} z = record { front = []; back = t; whole = refl; of-front = no_byte; of-back = z }
unjoin (one q) z = in_two z
unjoin (f then h) z =
    let s = unjoin f z in
    let r = unjoin h s.of-back in
    record {
      front = s.front ++ r.front;
      back = r.back;
      whole = s.whole ∙ ap (λ l. s.front ++ l) r.whole ∙ sym (append_assoc s.front r.front r.back);
      of-front = in-turn s.front r.front refl s.of-front r.of-front;
      of-back = r.of-back;
    }
unjoin (f or h) z = in_two z
unjoin (many f) z = in_two z

-- the texts of the one or the other are those of the one and those of the other
module _ (f g : Form) where
  either_first : {t : List ℕ} → Of f t → Of (either f g) t
  either_first {t} x = either_is (λ h. Of h t) f g (λ e. no_text (rw e at x)) (λ e. x) (by_first x)

  either_second : {t : List ℕ} → Of g t → Of (either f g) t
  either_second {t} y = either_is (λ h. Of h t) f g (λ e. y) (λ e. no_text (rw e at y)) (by-second y)

  either-of : {t : List ℕ} → Of (either f g) t → Of (f or g) t
  either-of {t} = either_is (λ h. Of h t → Of (f or g) t) f g (λ e y. by-second y) (λ e x. by_first x) (λ z. z)

  -- what follows from each follows from the one or the other
  by_cases : {A : Type 0} {t : List ℕ} → (Of f t → A) → (Of g t → A) → Of (either f g) t → A
  by_cases {A} {t} a b z = go (either-of z)
    where
      go : Of (f or g) t → A
      go (by_first x) = a x
      go (by-second y) = b y

-- ---- what is left after a byte

-- the empty text alone is blank
blank-empty : {t : List ℕ} → Of blank t → t ≡ []
blank-empty no_byte = refl

-- the byte, and then a text of what is left after it, is of the form
pub taken : (f : Form) (b : ℕ) (t : List ℕ) → Of (left f b) t → Of f (b ∷ t)
unfolding left
taken nothing b t z = no_text z
taken blank b t z = no_text z
taken (one q) b t z = go (is_of q b) refl t z
  where
    go : (x : Bool) → is_of q b ≡ x → (t : List ℕ) → Of (cond x blank nothing) t → Of (one q) (b ∷ t)
    go true e t y = rw (blank-empty y) (a_byte e)
    go false e t y = no_text y
taken (f then g) b t z =
    by_cases (joined (left f b) g) (cond (may_end f) (left g b) nothing)
    (λ x.
    let s = unjoin (left f b) x in
    in-turn (b ∷ s.front) s.back (ap (λ l. b ∷ l) s.whole) (taken f b s.front s.of-front) s.of-back)
    (go (may_end f) refl (λ y. taken g b t y))
    z
  where
    go : (x : Bool) → may_end f ≡ x → (Of (left g b) t → Of g (b ∷ t)) → Of (cond x (left g b) nothing) t → Of (f then g) (b ∷ t)
    go true e h y = in-turn [] (b ∷ t) refl (ends-empty f e) (h y)
    go false e h y = no_text y
taken (f or g) b t z = by_cases (left f b) (left g b) (λ x. by_first (taken f b t x)) (λ y. by-second (taken g b t y)) z
taken (many f) b t z =
    let s = unjoin (left f b) z in
    one_more (b ∷ s.front) s.back (ap (λ l. b ∷ l) s.whole) (taken f b s.front s.of-front) s.of-back

-- a text with a byte is not the empty one
not-empty : {A : Type 0} {b : ℕ} {t : List ℕ} → [] ≡ b ∷ t → A
not-empty e = absurd (let z : ◌≡◌ {A = ℕ} 0 1 = cc in omega arith)

-- of a text of the form, what stands behind the first byte is of what is left after it
pub goes_on : {f : Form} {s : List ℕ} (b : ℕ) (t : List ℕ) → s ≡ b ∷ t → Of f s → Of (left f b) t
unfolding left
goes_on b t e no_byte = not-empty e
goes_on b t e (a_byte {k} {b = c} p) = go (cc) (cc) p
  where
    go : c ≡ b → t ≡ [] → is_of k c ≡ true → Of (cond (is_of k b) blank nothing) t
    go d z p = rw (z, ← d, p) no_byte
goes_on b t e (in-turn {f} {g} [] v d x y) = rw (empty-ends x refl) (either_second (joined (left f b) g) (left g b) (goes_on b t (sym d ∙ e) y))
goes_on b t e (in-turn {f} {g} (c ∷ u) v d x y) =
    let h : c ∷ u ≡ b ∷ u = cc in
    let w : t ≡ u ++ v = cc in
    either_first (joined (left f b) g) (cond (may_end f) (left g b) nothing) (rw w (join (goes_on b u h x) y))
goes_on b t e (by_first {f} {g} x) = either_first (left f b) (left g b) (goes_on b t e x)
goes_on b t e (by-second {f} {g} y) = either_second (left f b) (left g b) (goes_on b t e y)
goes_on b t e no_more = not-empty e
goes_on b t e (one_more [] v d x y) = goes_on b t (sym d ∙ e) y
goes_on b t e (one_more {f} (c ∷ u) v d x y) =
    let h : c ∷ u ≡ b ∷ u = cc in
    let w : t ≡ u ++ v = cc in
    rw w (join (goes_on b u h x) y)

-- ---- the claim

-- the claim, by the number that `reach` gives
first-bad : (f : Form) (t : List ℕ) (n : ℕ) → reach f t ≡ n → Begins f (take n t)
    → (n < length t → Begins f (take (suc n) t) → ⊥) → FirstBad f t
first-bad f t n e good bad = record { good = rw e good; bad = rw e bad }

-- what the paper asks for, of every form that has a text, and every text
pub adequate : Adequate
adequate f hope [] = first-bad f [] 0 (reach-none f) (some-text f hope) (λ l. absurd (omega arith))
adequate f hope (b ∷ t) = go (hopeless (left f b)) refl (λ e. adequate (left f b) e t)
  where
    go : (x : Bool) → hopeless (left f b) ≡ x → (hopeless (left f b) ≡ false → FirstBad (left f b) t) → FirstBad f (b ∷ t)
    go true e h =
        first-bad f (b ∷ t) 0 (reach-stops f b t e) (some-text f hope) (λ l p. true≢false (sym e ∙ has-hope (goes_on b p.0 refl p.1)))
    go false e h =
        let r = h e in
        let n = reach (left f b) t in
        first-bad f (b ∷ t) (suc n) (reach-goes-on f b t e)
        (r.good.0, taken f b (take n t ++ r.good.0) r.good.1)
        (λ l p. r.bad (omega arith) (p.0, goes_on b (take (suc n) t ++ p.0) refl p.1))

-- `is_of_form` tells the texts of a form from others
pub is-of-form : (f : Form) (t : List ℕ) → is_of_form f t ≡ true → Of f t
unfolding is_of_form lefts
is-of-form f [] e = ends-empty f e
is-of-form f (b ∷ t) e = taken f b t (is-of-form (left f b) t e)

pub of-form : (f : Form) (t : List ℕ) → Of f t → is_of_form f t ≡ true
unfolding is_of_form lefts
of-form f [] x = empty-ends x refl
of-form f (b ∷ t) x = of-form (left f b) t (goes_on b t refl x)

-- the texts that `is_of_form` tells are those of the form
pub told : Told
told f t = (is-of-form f t, of-form f t)
