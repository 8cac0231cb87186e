-- Calls one after another, of any kind: what holds of each one holds of all.
-- Assumes nothing.
use mathlib.Core.Path.{◌≡◌, refl, ap}
use mathlib.Core.List.{List, [], ◌∷◌, map}
use Rattle.format.specs.Answer.{Answer, Outcome}
use Rattle.register.specs.Demand3.{answers, states, after, AtGrant, AtEvery}

-- a claim that holds at the start, and that each call keeps, holds at every point
pub at_every :
    {S C : Type 0} (step : S → C → Outcome S) (AtPoint : S → Type 0) (AtStep : S → C → Type 0)
    → ((s : S) (c : C) → AtPoint s → AtGrant (step s c).answer (AtStep s c) × AtPoint (step s c).state)
    → (cs : List C) (s : S) → AtPoint s → AtEvery step AtPoint AtStep s cs
unfolding AtEvery
at_every step AtPoint AtStep one [] s now = now
at_every step AtPoint AtStep one (c ∷ cs) s now =
    let kept = one s c now in (now, kept.0, at_every step AtPoint AtStep one cs (step s c).state kept.1)

-- Calls on images: where one call on the image of a state answers as the call on the state does, and leaves the image of what that leaves, so do all of
-- them. `Fine` is what the states keep that this needs.
module _ {S T C : Type 0} (outer : S → C → Outcome S) (inner : T → C → Outcome T) (image : T → S) (Fine : T → Type 0)
    (same : (t : T) → Fine t → (c : C) → outer (image t) c ≡ record { answer = (inner t c).answer; state = image (inner t c).state })
    (fine : (t : T) → Fine t → (c : C) → Fine (inner t c).state) where
  pub answers-same : (cs : List C) (t : T) → Fine t → answers outer (image t) cs ≡ answers inner t cs
  unfolding answers
  answers-same [] t f = refl
  answers-same (c ∷ cs) t f = rw (same t f c, answers-same cs (inner t c).state (fine t f c))

  pub states-same : (cs : List C) (t : T) → Fine t → states outer (image t) cs ≡ map image (states inner t cs)
  unfolding states
  states-same [] t f = refl
  states-same (c ∷ cs) t f = rw (same t f c, states-same cs (inner t c).state (fine t f c))

  pub after_same : (cs : List C) (t : T) → Fine t → after outer (image t) cs ≡ image (after inner t cs)
  unfolding after
  after_same [] t f = refl
  after_same (c ∷ cs) t f = rw (same t f c) (after_same cs (inner t c).state (fine t f c))

  pub fine-after : (cs : List C) (t : T) → Fine t → Fine (after inner t cs)
  unfolding after
  fine-after [] t f = f
  fine-after (c ∷ cs) t f = fine-after cs (inner t c).state (fine t f c)

-- Calls that are all made in one way, from something: they are the calls of that way.
module _ {S C D : Type 0} (step : S → D → Outcome S) (f : C → D) where
  pub answers-map : (s : S) (cs : List C) → answers step s (map f cs) ≡ answers (λ t c. step t (f c)) s cs
  unfolding answers
  answers-map s [] = refl
  answers-map s (c ∷ cs) = ap (λ (told : List Answer). (step s (f c)).answer ∷ told) (answers-map (step s (f c)).state cs)

  pub states-map : (s : S) (cs : List C) → states step s (map f cs) ≡ states (λ t c. step t (f c)) s cs
  unfolding states
  states-map s [] = refl
  states-map s (c ∷ cs) = ap (λ (ts : List S). s ∷ ts) (states-map (step s (f c)).state cs)

  pub every_map :
      (AtPoint : S → Type 0) (AtStep : S → D → Type 0) (s : S) (cs : List C)
      → AtEvery step AtPoint AtStep s (map f cs) → AtEvery (λ t c. step t (f c)) AtPoint (λ t c. AtStep t (f c)) s cs
  unfolding AtEvery
  every_map AtPoint AtStep s [] h = h
  every_map AtPoint AtStep s (c ∷ cs) h = (h.0, h.1, every_map AtPoint AtStep (step s (f c)).state cs h.2)
