-- What follows from a test of two that passed or failed.
-- Assumes nothing.
use mathlib.Core.Path.{◌≡◌, refl}
use mathlib.Core.Bool.{Bool, true, false, ◌&&◌, ◌||◌, true≢false, false≢true}

-- where both had to pass, both did; where one had to pass, the first did or the second
pub both-pass : {A : Type 0} (x y : Bool) → x && y ≡ true → (x ≡ true → y ≡ true → A) → A
both-pass true y e f = f refl e
both-pass false y e f = absurd (false≢true e)

pub one_passes : {A : Type 0} (x y : Bool) → x || y ≡ true → (x ≡ true → A) → (y ≡ true → A) → A
one_passes true y e f g = f refl
one_passes false y e f g = g e

-- and so with two that failed
pub both-fail : {A : Type 0} (x y : Bool) → x || y ≡ false → (x ≡ false → y ≡ false → A) → A
both-fail true y e f = absurd (true≢false e)
both-fail false y e f = f refl e

pub one-fails : {A : Type 0} (x y : Bool) → x && y ≡ false → (x ≡ false → A) → (y ≡ false → A) → A
one-fails true y e f g = g e
one-fails false y e f g = f refl
