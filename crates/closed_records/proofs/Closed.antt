-- The records that a closing leaves, record by record; and a level of a context and of a request, compared as words.
-- Assumes nothing.
use Prim.Native.Nat.{ℕ, ◌+◌, ◌*◌, ◌<◌, ◌≤◌}
use native.Mathlib.Decide.{dec_lt}
use native.Mathlib.Omega.{arith}
use mathlib.Core.Path.{◌≡◌, refl, sym, ap, ap₂, ◌∙◌}
use mathlib.Core.Bool.{Bool, true, false, cond, not, ◌&&◌}
use mathlib.Core.List.{List, [], ◌∷◌}
use lib.ListN.{length, get_or}
use lib.Dec.{eqb}
use Rattle.words.specs.Lists.{keep}
use Rattle.words.specs.Bytes.{u32_at, part}
use Rattle.word_laws.proofs.Keep.{keep_append, keep-split}
use Rattle.word_laws.proofs.Below.{sum-most}
use Rattle.word_laws.proofs.Bytes.{Byte}
use Rattle.format.specs.Layout.{most_levels, request_bytes}
use Rattle.format.specs.Request.{context_of, used_level, depth_of}
use Rattle.format.specs.Context.{same_level, begins}
use Rattle.format.specs.Table.{Record}
use Rattle.format.specs.Records.{record_here}
use Rattle.judge.specs.Close.{closed, closed_out}
use Rattle.request_check.proofs.RequestWords.{halves-same, low, high, type-word, value-word}
use Rattle.fields.specs.declared.blocks.BlockSet.{BlockSet}
use Rattle.clearing.specs.Settling.{OneByOne, Settling, StayIn}

-- ---- what is left

module _ (c : List ℕ) where
  pub closed-by-one : OneByOne (closed c)
  unfolding closed keep
  closed-by-one = record { nothing = refl; more = λ rs r. keep_append (λ (x : Record). not (begins c x.request)) rs (r ∷ []) }

  -- a record that the context names goes, any other stays
  pub closed_none : (r : Record) → begins c r.request ≡ true → closed c (r ∷ []) ≡ []
  unfolding closed keep
  closed_none r is = ap {B = List Record} (λ (b : Bool). cond (not b) (r ∷ []) []) is

  pub closed-one : (r : Record) → begins c r.request ≡ false → closed c (r ∷ []) ≡ r ∷ []
  unfolding closed keep
  closed-one r is = ap {B = List Record} (λ (b : Bool). cond (not b) (r ∷ []) []) is

  -- those that go and those that stay are all
  pub closed-split : (rs : List Record) → closed_out c rs + length (closed c rs) ≡ length rs
  unfolding closed closed_out
  closed-split rs = keep-split (λ (x : Record). begins c x.request) rs

  -- no record is named before i, and record i is not
  pub named_more :
      (t : List ℕ) (from i : ℕ) → ((k : ℕ) → from ≤ k → k < i → begins c (record_here t k).request ≡ false)
      → begins c (record_here t i).request ≡ false → (k : ℕ) → from ≤ k → k < i + 1 → begins c (record_here t k).request ≡ false
  named_more t from i before not k lo hi = go (dec_lt k i)
    where
      go : Dec (k < i) → begins c (record_here t k).request ≡ false
      go (yes h) = before k lo h
      go (no h) = let e : k ≡ i = omega arith in rw e not

  -- ---- between two that it names: a record that has not been come to is where it was

  module _ {s : List ℕ} {i : ℕ} {t : List ℕ} {j : ℕ} {set : BlockSet} (w : Settling (closed c) s i t j set) where
    pub closed-stay : (from to : ℕ) → i ≤ from → ((k : ℕ) → from ≤ k → k < to → begins c (record_here t k).request ≡ false) → StayIn (closed c) s from to
    closed-stay from to behind out k lo hi =
        closed-one (record_here s k) (ap (λ (r : Record). begins c r.request) (sym (w.placed.behind k (omega (arith, w.few)))) ∙ out k lo hi)

    pub still-named :
        {e : ℕ} {t' : List ℕ} {j' : ℕ} {set' : BlockSet} → Settling (closed c) s e t' j' set' → i ≤ e
        → begins c (record_here t e).request ≡ true → begins c (record_here t' e).request ≡ true
    still-named {e} v lo is =
        ap (λ (r : Record). begins c r.request) (v.placed.behind e v.few ∙ sym (w.placed.behind e (omega (arith, w.few)))) ∙ is

-- ---- a level

pub depth-most : (c : List ℕ) → depth_of c ≤ most_levels
unfolding depth_of
depth-most c = sum-most most_levels (used_level c)

pub level-same :
    (c s : List ℕ) → ((i : ℕ) → Byte (get_or c i 0)) → ((i : ℕ) → Byte (get_or s i 0)) → (at i : ℕ) → i < most_levels
    → eqb (u32_at s (at + 12 + 4 * i)) (u32_at c (4 * i)) ≡ same_level (context_of (part s at request_bytes)) c i
unfolding same_level
level-same c s bytes bytes' at i four =
    sym
    (ap₂ {C = Bool} (λ (x y : Bool). x && y)
    (ap₂ {C = Bool} eqb (type-word s at i four bytes') (sym (low c bytes (4 * i))))
    (ap₂ {C = Bool} eqb (value-word s at i four bytes') (sym (high c bytes (4 * i))))
    ∙ halves-same (u32_at s (at + 12 + 4 * i)) (u32_at c (4 * i)))
