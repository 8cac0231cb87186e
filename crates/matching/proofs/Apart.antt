-- The code's masks tell run places apart: what they compute is the set of the rules under which two requests have different run places.
-- Assumes nothing.
use Prim.Native.Nat.{ℕ, zero, suc, ◌<◌, ◌≤◌}
use native.Mathlib.Decide.{dec_le}
use native.Mathlib.Omega.{arith}
use mathlib.Core.Path.{◌≡◌, refl, sym, ap, ◌∙◌}
use mathlib.Core.Bool.{Bool, true, false, not, ◌&&◌, ◌||◌, or-false}
use mathlib.Core.List.{List}
use mathlib.Core.Option.{none}
use borrow.Author.Tests.{lt-ltb, le-ltb}
use lib.Dec.{eqb, ltb}
use Rattle.words.specs.Lists.{all_below, any_below}
use Rattle.word_laws.proofs.Bits.{bits-same, any_below-same}
use Rattle.word_laws.proofs.BitLaws.{bits-or, bits-under}
use Rattle.format.specs.Request.{Request, context_of, level_value}
use Rattle.format.specs.Rule.{rule_at}
use Rattle.format.specs.Fits.{same_place}
use Rattle.format.specs.Policy.{Policy, policy_fault, policy_of}
use Rattle.format_laws.proofs.AcceptedPolicy.{depth-few}
use Rattle.matching.specs.Levels.{same_at}
use Rattle.matching.proofs.Levels.{same-place-levels}
use Rattle.matching.specs.declared.masks.Each.{Each}
use Rattle.matching.specs.Masks.{is_each, each_at, EachOf, apart_in, apart_beside, apart_by}

-- not all of the first d pass exactly where one of the first n, of which there are at least d, is among the d and fails
some-fails : (f : ℕ → Bool) (n d : ℕ) → d ≤ n → any_below n (λ l. ltb l d && not (f l)) ≡ not (all_below d f)
unfolding any_below all_below
some-fails f zero d h = let e : d ≡ 0 = omega arith in rw e
some-fails f (suc n) d h = go (some-fails f n d) (some-fails f n n (omega arith)) (dec_le d n)
  where
    last : (a b c : Bool) → a ≡ not b → a || not c ≡ not (b && c)
    last a true c e = rw e
    last a false c e = rw e

    go :
        (d ≤ n → any_below n (λ l. ltb l d && not (f l)) ≡ not (all_below d f))
        → any_below n (λ l. ltb l n && not (f l)) ≡ not (all_below n f) → Dec (d ≤ n)
        → any_below n (λ l. ltb l d && not (f l)) || (ltb n d && not (f n)) ≡ not (all_below d f)
    go ih jh (yes k) = rw (le-ltb n d k) (or-false _ ∙ ih k)
    go ih jh (no k) =
        let e : d ≡ suc n = omega arith in
        rw (e, lt-ltb n (suc n) (omega arith))
        (last _ (all_below n f) (f n)
        (any_below-same n (λ l. ltb l (suc n) && not (f l)) (λ l. ltb l n && not (f l)) (λ l b. rw (lt-ltb l (suc n) (omega arith), lt-ltb l n b)) ∙ jh))

module _ (p : Policy) (q x : Request) where
  -- the two requests differ at level l, and the rule has mark 3 there
  apart_level : ℕ → ℕ → Bool
  apart_level l i = not (eqb (level_value (context_of q) l) (level_value (context_of x) l)) && is_each p l i

  apart-rule :
      (i : ℕ) → (p.rule i).depth ≤ 4
      → ((apart_level 0 i || apart_level 2 i) || apart_level 3 i) || apart_level 1 i ≡ not (same_place (p.rule i) q x)
  unfolding any_below apart_level is_each
  apart-rule i h =
      join (apart_level 0 i) (apart_level 1 i) (apart_level 2 i) (apart_level 3 i)
      ∙ any_below-same 4 (λ l. apart_level l i) (λ l. ltb l (p.rule i).depth && not (same_at (p.rule i) q x l))
      (λ l k. turn (eqb (level_value (context_of q) l) (level_value (context_of x) l)) (ltb l (p.rule i).depth) (eqb ((p.rule i).level l).mark 3))
      ∙ some-fails (same_at (p.rule i) q x) 4 (p.rule i).depth h
      ∙ ap not (sym (same-place-levels (p.rule i) q x))
    where
      join : (a b c d : Bool) → ((a || c) || d) || b ≡ ((a || b) || c) || d
      join true b c d = refl
      join false true true d = refl
      join false true false true = refl
      join false true false false = refl
      join false false c d = or-false (c || d)

      turn : (e d m : Bool) → not e && (d && m) ≡ d && not (not m || e)
      turn true true true = refl
      turn true true false = refl
      turn true false m = refl
      turn false true true = refl
      turn false true false = refl
      turn false false m = refl

  pub apart-all : (e : Each) → EachOf p e → ((i : ℕ) → i < p.rules → (p.rule i).depth ≤ 4) → apart_by e q x ≡ apart_in p q x
  unfolding apart_by apart_beside apart_in each_at apart_level
  apart-all e is few =
      rw (is.at_first, is.at_second, is.at-third, is.at-fourth)
      (rw (bits-under p.rules (is_each p 0) _, bits-under p.rules (is_each p 1) _, bits-under p.rules (is_each p 2) _, bits-under p.rules (is_each p 3) _)
      (rw (bits-or p.rules (apart_level 0) (apart_level 2))
      (rw (bits-or p.rules (λ i. apart_level 0 i || apart_level 2 i) (apart_level 3))
      (rw (bits-or p.rules (λ i. (apart_level 0 i || apart_level 2 i) || apart_level 3 i) (apart_level 1))
      (bits-same p.rules (λ i. ((apart_level 0 i || apart_level 2 i) || apart_level 3 i) || apart_level 1 i) (λ i. not (same_place (p.rule i) q x))
      (λ i h. apart-rule i (few i h)))))))

-- under an accepted policy
pub apart-is : (s : List ℕ) → policy_fault s ≡ none → (e : Each) → EachOf (policy_of s) e → (q x : Request) → apart_by e q x ≡ apart_in (policy_of s) q x
unfolding policy_of rule_at
apart-is s accepted e is q x = apart-all (policy_of s) q x e is (λ i h. depth-few s accepted i h)
