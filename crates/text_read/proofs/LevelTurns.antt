-- The levels of a context, one after the other: what the loop over them keeps.
-- Assumes nothing.
use Prim.Native.Nat.{ℕ, suc, ◌+◌, ◌≤◌, ◌<◌}
use native.Mathlib.Omega.{arith}
use native.Mathlib.Numerals.{add-one}
use mathlib.Core.Path.{◌≡◌, refl, sym, ap, ◌∙◌}
use mathlib.Core.Bool.{Bool, true, false, cond}
use mathlib.Core.List.{List, [], ◌∷◌, ◌++◌, map}
use mathlib.Core.Option.{Option, none, some}
use Rattle.std.specs.Prelude.{Result, Ok, Err, IfOk}
use Rattle.std.specs.Result.{result_and}
use Rattle.words.specs.First.{◌or_else◌}
use Rattle.format.specs.Answer.{Refusal}
use Rattle.format.specs.Code.{text_fault_of}
use Rattle.format.specs.declared.answer.TextRefusal.{TextRefusal}
use borrow.Author.Tests.{ltb-true, ltb-false, le-leb, lt-leb}
use lib.ListN.{length, get_or, take, drop, length-map, length-take, length-drop}
use lib.Dec.{leb, ltb}
use lib.Seq.{take-suc, drop-cons, take_all}
use Rattle.word_laws.proofs.Keep.{map-append}
use Rattle.format.specs.Rule.{Level}
use Rattle.forms.specs.Form.{is_of}
use Rattle.xml.specs.Tags.{squeezed, parted}
use Rattle.xml.specs.Read.{Draft, level_of, level_fault, first_of, level_texts}
use Rattle.tags.specs.Cut.{span, until}
use Rattle.tags.specs.Code.{value_at}
use Rattle.tags.specs.declared.span.Span.{Span}
use Rattle.tags.proofs.SpanPieces.{parted-span, parted-span-none}
use Rattle.drafts.specs.Draft.{draft_block}

-- ---- what is left of a context from a byte on

-- the texts of its levels; none behind its end
unfoldable pub levels_from : List ℕ → ℕ → ℕ → List (List (List ℕ))
levels_from t at to = cond (leb at to) (map (parted 61) (parted 44 (squeezed (span t at to)))) []

-- a context that is not blank has those from its beginning on
from_start : (t : List ℕ) (s : Span) → s.from ≤ s.to → (length (value_at t s) ≡ 0 → ⊥) → level_texts (value_at t s) ≡ levels_from t s.from s.to
unfolding levels_from level_texts
from_start t s h more = rw (le-leb s.from s.to h) (go (value_at t s) more)
  where
    go : (v : List ℕ) → (length v ≡ 0 → ⊥) → level_texts v ≡ map (parted 61) (parted 44 v)
    go [] k = absurd (k refl)
    go (b ∷ v) k = refl

-- one stands up to the next comma or the end, and the others behind it
from_more :
    (t : List ℕ) (at to e : ℕ) → at ≤ to → to ≤ length t → e ≡ at + until 44 (span t at to) → e ≤ to
    → levels_from t at to ≡ parted 61 (squeezed (span t at e)) ∷ levels_from t (suc e) to
unfolding levels_from is_of
from_more t at to e h k end low = rw (le-leb at to h) (go (ltb e to) refl)
  where
    go : (x : Bool) → ltb e to ≡ x
        → map (parted 61) (parted 44 (squeezed (span t at to))) ≡ parted 61 (squeezed (span t at e)) ∷ levels_from t (suc e) to
    go true f =
        let b : e < to = ltb-true e to f in
        rw (le-leb (suc e) to b, parted-span 44 t at to k e end refl b)
    go false f =
        let b : to ≤ e = ltb-false e to f in
        let same : e ≡ to = omega arith in
        rw (lt-leb (suc e) to (omega arith), parted-span-none 44 t at to k e end refl b, same)

-- behind the end there is none
from_end : (t : List ℕ) (at to : ℕ) → to < at → levels_from t at to ≡ []
unfolding levels_from
from_end t at to h = rw (lt-leb at to h)

-- ---- one more element of a list

module _ {A : Type 0} (xs : List A) (n : ℕ) (x : A) (ys : List A) (e : drop n xs ≡ x ∷ ys) where
  -- where an element is left, it is in the list
  more_left : n < length xs
  more_left = let l = ap (λ (l : List A). length l) e in let m = length-drop n xs in omega arith

  -- it is the next one
  next-is : get_or xs n x ≡ x
  next-is = ap (λ (l : List A). get_or l 0 x) (sym (drop-cons xs n x more_left) ∙ e)

  -- the front with it, and what is left then
  front-more : take (n + 1) xs ≡ take n xs ++ x ∷ []
  front-more = rw (add-one n) (take-suc xs n x more_left ∙ rw next-is)

  left-more : drop (n + 1) xs ≡ ys
  left-more = rw (add-one n) (ap (λ (l : List A). drop 1 l) (sym (drop-cons xs n x more_left) ∙ e))

-- ---- the loop

-- two results in a row have one first fault, and so has the one by itself
both-first : (q r : Result (Unit {0}) TextRefusal) (o : Option Refusal) → text_fault_of q or_else (text_fault_of r or_else o) ≡ text_fault_of (result_and q r) or_else o
unfolding ◌or_else◌
both-first (Ok x) r o = refl
both-first (Err e) r o = refl

first-alone : (o : Option Refusal) → o or_else none ≡ o
unfolding ◌or_else◌
first-alone none = refl
first-alone (some r) = refl

-- the first n levels were read, and whether their names are listed: the block with them, what is left, and that the first fault of both is that of all
pub record Taken (l t : List ℕ) (s : Span) (d₀ d : List ℕ) (named : Result (Unit {0}) TextRefusal) (n at : ℕ) : Type 0 where
  pub few : n ≤ length (level_texts (value_at t s))
  pub left : drop n (level_texts (value_at t s)) ≡ levels_from t at s.to
  pub names : first_of (level_fault l) (level_texts (value_at t s)) ≡ text_fault_of named or_else first_of (level_fault l) (levels_from t at s.to)
  pub block : (dr : Draft) → d₀ ≡ draft_block [] dr → d ≡ draft_block (map (level_of l) (take n (level_texts (value_at t s)))) dr

module _ (l t : List ℕ) (s : Span) (d₀ : List ℕ) where
  -- none was, at the beginning
  pub taken_start : s.from ≤ s.to → (length (value_at t s) ≡ 0 → ⊥) → Taken l t s d₀ d₀ (Ok tt) 0 s.from
  unfolding ◌or_else◌
  taken_start h more =
      let left = from_start t s h more in
      record { few = omega arith; left = left; names = ap (first_of (level_fault l)) left; block = λ dr e. e }

  module _
      {d : List ℕ} {named : Result (Unit {0}) TextRefusal} {n at e : ℕ} (x : Taken l t s d₀ d named n at) (h : at ≤ s.to) (k : s.to ≤ length t)
      (end : e ≡ at + until 44 (span t at s.to)) (low : e ≤ s.to) where
    next-fault :
        first_of (level_fault l) (level_texts (value_at t s))
        ≡ text_fault_of named or_else (level_fault l (parted 61 (squeezed (span t at e))) or_else first_of (level_fault l) (levels_from t (suc e) s.to))
    unfolding first_of
    next-fault = x.names ∙ ap (λ ps. text_fault_of named or_else first_of (level_fault l) ps) (from_more t at s.to e h k end low)

    -- the next has a fault: it is the first, where none was before it
    pub taken-fault : named ≡ Ok tt → {f : Refusal} → some f ≡ level_fault l (parted 61 (squeezed (span t at e)))
        → some f ≡ first_of (level_fault l) (level_texts (value_at t s))
    unfolding ◌or_else◌
    taken-fault good is = sym (next-fault ∙ rw (good, ← is) refl)

    -- one more is read
    pub taken_more :
        {d' : List ℕ} (r : Result (Unit {0}) TextRefusal) → text_fault_of r ≡ level_fault l (parted 61 (squeezed (span t at e)))
        → ((ls : List Level) (dr : Draft) → length ls ≡ n → d ≡ draft_block ls dr
        → d' ≡ draft_block (ls ++ level_of l (parted 61 (squeezed (span t at e))) ∷ []) dr)
        → Taken l t s d₀ d' (result_and named r) (n + 1) (e + 1)
    taken_more r is put =
        let ps = level_texts (value_at t s) in
        let p = parted 61 (squeezed (span t at e)) in
        let rest = levels_from t (suc e) s.to in
        let next = x.left ∙ from_more t at s.to e h k end low in
        let front = front-more ps n p rest next in
        let more = more_left ps n p rest next in
        let long : length (map (level_of l) (take n ps)) ≡ n = simp (length-map, length-take) (omega (arith, x.few)) in
        record {
          few = omega arith;
          left = rw (add-one e) (left-more ps n p rest next);
          names =
              rw (add-one e)
              (next-fault
              ∙ ap (λ o. text_fault_of named or_else (o or_else first_of (level_fault l) rest)) (sym is)
              ∙ both-first named r (first_of (level_fault l) rest));
          block = λ dr f. put (map (level_of l) (take n ps)) dr long (x.block dr f) ∙ rw (front, map-append (level_of l) (take n ps) (p ∷ []));
        }

  -- all were, behind the end
  pub taken-end :
      {d : List ℕ} {named : Result (Unit {0}) TextRefusal} {n at : ℕ} → Taken l t s d₀ d named n at → s.to < at
      → (text_fault_of named ≡ first_of (level_fault l) (level_texts (value_at t s))) × (n ≡ length (level_texts (value_at t s)))
      × ((dr : Draft) → d₀ ≡ draft_block [] dr → d ≡ draft_block (map (level_of l) (level_texts (value_at t s))) dr)
  unfolding first_of
  taken-end {d} {named} {n} {at} x h =
      let ps = level_texts (value_at t s) in
      let none = ap (λ (p : List (List (List ℕ))). length p) (x.left ∙ from_end t at s.to h) in
      let gone = length-drop n ps in
      let all : n ≡ length ps = omega (arith, x.few) in
      let whole : take n ps ≡ ps = take_all n ps (omega arith) in (
        sym (x.names ∙ ap (λ qs. text_fault_of named or_else first_of (level_fault l) qs) (from_end t at s.to h) ∙ first-alone (text_fault_of named)),
        all,
        λ dr e. x.block dr e ∙ rw whole,
      )

-- a blank context has no level
pub taken_none :
    (l v d : List ℕ) → length v ≡ 0
    → (none ≡ first_of (level_fault l) (level_texts v)) × (0 ≡ length (level_texts v))
    × ((dr : Draft) → d ≡ draft_block [] dr → d ≡ draft_block (map (level_of l) (level_texts v)) dr)
unfolding level_texts first_of
taken_none l [] d h = (refl, refl, λ dr e. e)
taken_none l (b ∷ v) d h = absurd (omega arith)

-- what is told of all, with their number
pub counted-fault : (q : Result (Unit {0}) TextRefusal) (n : ℕ) {r : Result ℕ TextRefusal} → r ≡ result_and q (Ok n) → text_fault_of r ≡ text_fault_of q
counted-fault (Ok x) n e = rw e refl
counted-fault (Err f) n e = rw e refl

pub counted-depth : (q : Result (Unit {0}) TextRefusal) (n : ℕ) {r : Result ℕ TextRefusal} {m : ℕ} → r ≡ result_and q (Ok n) → n ≡ m → IfOk r (λ k. k ≡ m)
counted-depth (Ok x) n e h = rw e h
counted-depth (Err f) n e h = rw e tt
