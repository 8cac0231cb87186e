-- One call after another: where each one's bytes are, its four numbers, and what a turn of the loop keeps.
-- Assumes nothing.
use Prim.Native.Nat.{ℕ, ◌+◌, ◌-◌, ◌*◌, ◌≤◌, ◌<◌, min}
use mathlib.Core.Path.{◌≡◌, refl, sym, ◌∙◌}
use mathlib.Core.List.{List, [], ◌∷◌, ◌++◌, flatten, append_assoc, append-nil}
use native.Mathlib.Omega.{arith}
use native.Mathlib.Decide.{dec_le}
use native.Mathlib.Numerals.{add-one}
use lib.ListN.{length, get_or, take, drop, length-append, length-take, length-drop, drop_of_length-le}
use borrow.Author.Tests.{eq-eqb, ne_eqb}
use lib.Seq.{sets, sets-eq, take_at, take_all, drop-cons, drop-drop}
use Rattle.format.specs.Answer.{Answer, Outcome}
use Rattle.judge.specs.Decide.{decide}
use Rattle.judge.specs.Close.{close}
use Rattle.register.specs.Calls.{Call, call_step}
use Rattle.register.specs.Demand3.{answers, after}
use Rattle.session.specs.Session.{call_of, cut, four_numbers, written}

-- ---- a call's bytes

-- a piece that ends where the bytes do
module _ (bytes : List ℕ) (at n end : ℕ) (inside : at ≤ length bytes) (ends : end ≡ at + min n (length bytes - at)) where
  piece : take (end - at) (drop at bytes) ≡ take n (drop at bytes)
  piece = go (dec_le n (length bytes - at))
    where
      go : Dec (n ≤ length bytes - at) → take (end - at) (drop at bytes) ≡ take n (drop at bytes)
      go (yes h) = let e : end - at ≡ n = omega arith in rw e
      go (no h) = take_all (end - at) (drop at bytes) (rw length-drop (omega arith)) ∙ sym (take_all n (drop at bytes) (rw length-drop (omega arith)))

  left : drop end bytes ≡ drop n (drop at bytes)
  left = go (dec_le n (length bytes - at))
    where
      go : Dec (n ≤ length bytes - at) → drop end bytes ≡ drop n (drop at bytes)
      go (yes h) = let e : end ≡ at + n = omega arith in rw (e, drop-drop)
      go (no h) = rw drop-drop (drop_of_length-le bytes {i = end} (omega arith) ∙ sym (drop_of_length-le bytes {i = at + n} (omega arith)))

-- ---- which call it is

module _ (policy table bytes : List ℕ) (kind : ℕ) {o : Outcome (List ℕ)} where
  pub call-of-decision : kind ≡ 0 → o ≡ decide policy table bytes → o ≡ call_step policy table (call_of kind bytes)
  unfolding call_step call_of
  call-of-decision e h = h ∙ rw (eq-eqb kind 0 e)

  pub call-of-closing : (kind ≡ 0 → ⊥) → o ≡ close policy table bytes → o ≡ call_step policy table (call_of kind bytes)
  unfolding call_step call_of
  call-of-closing e h = h ∙ rw (ne_eqb kind 0 e)

-- ---- one call more

four-long : (a : Answer) → length (four_numbers a) ≡ 4
unfolding four_numbers
four-long a = refl

written_one : (a : Answer) (l : List Answer) → written (a ∷ l) ≡ four_numbers a ++ written l
unfolding written flatten
written_one a l = refl

module _ (step : List ℕ → Call → Outcome (List ℕ)) where
  -- a call with the first piece, and the calls with the rest
  module _ (table next kinds lengths bytes q rest : List ℕ) (k n : ℕ) (a : Answer) (p : q ≡ take n bytes) (r : rest ≡ drop n bytes)
      (h : record { answer = a; state = next } ≡ step table (call_of k q)) where
    after_one : after step table (cut (k ∷ kinds) (n ∷ lengths) bytes) ≡ after step next (cut kinds lengths rest)
    unfolding after cut
    after_one = rw (← p, ← h, ← r)

    answers_one : answers step table (cut (k ∷ kinds) (n ∷ lengths) bytes) ≡ a ∷ answers step next (cut kinds lengths rest)
    unfolding answers cut
    answers_one = rw (← p, ← h, ← r)

-- Before call i, whose bytes begin at a byte: what the whole session leaves is what the calls from here on leave, on the table as it stands and behind
-- the answers that are written.
pub record Running (step : List ℕ → Call → Outcome (List ℕ)) (start kinds lengths bytes : List ℕ) (i at : ℕ) (table out : List ℕ) : Type 0 where
  pub tables : after step start (cut kinds lengths bytes) ≡ after step table (cut (drop i kinds) (drop i lengths) (drop at bytes))
  pub outs :
      written (answers step start (cut kinds lengths bytes))
      ≡ take (4 * i) out ++ written (answers step table (cut (drop i kinds) (drop i lengths) (drop at bytes)))

-- the list from a place on: what stands there, and the rest
from-here : (l : List ℕ) (i : ℕ) → i < length l → drop i l ≡ get_or l i 0 ∷ drop (i + 1) l
from-here l i h = rw (add-one i, ← drop-cons l i 0 h)

module _ (step : List ℕ → Call → Outcome (List ℕ)) (start kinds lengths bytes : List ℕ) (both : length kinds ≡ length lengths) where
  pub running_more :
      (i at end : ℕ) (table out next after-out : List ℕ) (a : Answer) → Running step start kinds lengths bytes i at table out
      → i < length lengths → at ≤ length bytes → 4 * i + 4 ≤ length out
      → end ≡ at + min (get_or lengths i 0) (length bytes - at)
      → record { answer = a; state = next } ≡ step table (call_of (get_or kinds i 0) (take (end - at) (drop at bytes)))
      → after-out ≡ sets out (4 * i) (four_numbers a)
      → Running step start kinds lengths bytes (i + 1) end next after-out
  running_more i at end table out next after-out a s more inside room ends h puts =
      record {
        tables =
            s.tables
            ∙ rw (here, kind)
            (after_one step table next (drop (i + 1) kinds) (drop (i + 1) lengths) (drop at bytes) _ (drop end bytes) (get_or kinds i 0) (get_or lengths i 0) a p l h);
        outs =
            s.outs ∙ rw (here, kind, one, written_one, front, append_assoc);
      }
    where
      here : drop i lengths ≡ get_or lengths i 0 ∷ drop (i + 1) lengths
      here = from-here lengths i more

      kind : drop i kinds ≡ get_or kinds i 0 ∷ drop (i + 1) kinds
      kind = from-here kinds i (omega (arith, both, more))

      p : take (end - at) (drop at bytes) ≡ take (get_or lengths i 0) (drop at bytes)
      p = piece bytes at (get_or lengths i 0) end inside ends

      l : drop end bytes ≡ drop (get_or lengths i 0) (drop at bytes)
      l = left bytes at (get_or lengths i 0) end inside ends

      one :
          answers step table (cut (get_or kinds i 0 ∷ drop (i + 1) kinds) (get_or lengths i 0 ∷ drop (i + 1) lengths) (drop at bytes))
          ≡ a ∷ answers step next (cut (drop (i + 1) kinds) (drop (i + 1) lengths) (drop end bytes))
      one = answers_one step table next (drop (i + 1) kinds) (drop (i + 1) lengths) (drop at bytes) _ (drop end bytes) (get_or kinds i 0) (get_or lengths i 0) a p l h

      front : take (4 * (i + 1)) after-out ≡ take (4 * i) out ++ four_numbers a
      front =
          let e : 4 * (i + 1) ≡ 4 * i + 4 = omega arith in
          let roomy : 4 * i + length (four_numbers a) ≤ length out = rw (four-long a) room in
          rw (puts, e, sets-eq (four_numbers a) out (4 * i) roomy)
          (take_at (take (4 * i) out ++ four_numbers a) _ (4 * i + 4) (rw (length-append, length-take, four-long a) (omega arith)))

  module _ (i at : ℕ) (table out : List ℕ) (s : Running step start kinds lengths bytes i at table out) (all : i ≡ length lengths) where
    none_left : drop i kinds ≡ []
    none_left = drop_of_length-le kinds {i = i} (omega (arith, both))

    pub running-table : table ≡ after step start (cut kinds lengths bytes)
    unfolding after cut
    running-table = sym (s.tables ∙ rw none_left)

    pub running-out : length out ≡ 4 * length lengths → out ≡ written (answers step start (cut kinds lengths bytes))
    unfolding answers cut written flatten
    running-out e = sym (s.outs ∙ rw (none_left, append-nil) (take_all (4 * i) out (omega arith)))
