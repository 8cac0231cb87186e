-- What a call leaves, from what the engine's call leaves.
-- Assumes nothing.
use Prim.Native.Nat.{ℕ}
use mathlib.Core.Path.{◌≡◌, ap, ◌∙◌}
use mathlib.Core.List.{List}
use Rattle.format.specs.Answer.{Answer, Outcome}
use Rattle.answers.specs.Numbers.{Four, four, narrowed}
use Rattle.sod.specs.Code.{left}

pub left_is :
    (f : Four) (a : Answer) (t : List ℕ) (o : Outcome (List ℕ)) → f ≡ four a → record { answer = a; state = t } ≡ o
    → left f t ≡ left (four o.answer) o.state
left_is f a t o e h = ap (λ (g : Four). left g t) e ∙ ap (λ (x : Outcome (List ℕ)). left (four x.answer) x.state) h

pub converted_is :
    (f : Four) (a : Answer) (t : List ℕ) (o : Outcome (List ℕ)) → f ≡ narrowed (four a) → record { answer = a; state = t } ≡ o
    → left f t ≡ left (narrowed (four o.answer)) o.state
converted_is f a t o e h = ap (λ (g : Four). left g t) e ∙ ap (λ (x : Outcome (List ℕ)). left (narrowed (four x.answer)) x.state) h
