-- What a pass over records finds, with one record more; and a past, with one deed more.
-- Assumes nothing.
use Prim.Native.Nat.{ℕ, ◌+◌, ◌/◌, ◌<◌, ◌≤◌}
use native.Mathlib.Decide.{dec_lt}
use native.Mathlib.Numerals.{add-one}
use native.Mathlib.Omega.{arith}
use mathlib.Core.Path.{◌≡◌, refl, sym, ap, ap₂, ◌∙◌}
use mathlib.Core.Bool.{Bool, true, false, cond, not, ◌&&◌, ◌||◌, false≢true}
use mathlib.Core.List.{List, [], ◌∷◌, ◌++◌, append-nil, map}
use borrow.Author.Tests.{eqb-true}
use lib.Bits.{bit_and, bit_or, or_zero_l, or_zero_r}
use lib.Dec.{eqb}
use lib.ListN.{length, get_or, take, set, length-set}
use lib.Seq.{take-suc, take-suc-set, take-length}
use Rattle.words.specs.Lists.{keep, tab}
use Rattle.words.specs.Bytes.{part, bit}
use Rattle.word_laws.proofs.Keep.{keep-more, map-append}
use Rattle.word_laws.proofs.Parts.{part-whole}
use Rattle.word_laws.proofs.BitLaws.{or_assoc}
use Rattle.word_laws.proofs.Lists.{tab-next}
use Rattle.format.specs.Layout.{request_bytes, record_bytes, block_records}
use Rattle.format.specs.Request.{Request, user}
use Rattle.format.specs.Table.{Record, marked}
use Rattle.format.specs.Records.{record_start, record_from, record_here, records_here}
use Rattle.judge.specs.Tally.{same_user}
use Rattle.fields.specs.Code.{HasRoom, has_block}
use Rattle.matching.specs.declared.masks.Each.{Each}
use Rattle.matching.specs.Masks.{apart_by, together_by, NearOf}
use Rattle.matching.proofs.Together.{together-with}
use Rattle.fields.specs.declared.blocks.BlockSet.{BlockSet}
use Rattle.fields.proofs.BlockSets.{not-with}
use Rattle.tally.specs.declared.deed.Deed.{Deed}
use Rattle.tally.specs.Code.{deed_of}
use Rattle.history.specs.Code.{shared_by, open_by, may_count, found_in, stands_by, past_by}

-- ---- where the records of a table stand

module _ (s : List ℕ) (n : ℕ) (room : HasRoom s n) where
  pub room-few : n ≤ 1920
  room-few = omega (arith, room.most, room.few)

  pub record-inside : (k : ℕ) → k < n → record_start k + record_bytes ≤ length s
  record-inside k h = omega (arith, room.whole, room.most, room.few)

  pub start-few : (k : ℕ) → k < n → record_start k < 65536
  start-few k h = omega (arith, room.whole, room.most, room.few)

-- ---- a record more

module _ (e : Each) (rules : ℕ) (q : Request) where
  open_snoc : (rs : List Record) (r : Record) → open_by e rules q (rs ++ (r ∷ [])) ≡ bit_or (open_by e rules q rs) (shared_by e rules q r)
  unfolding open_by
  open_snoc [] r = or_zero_r (shared_by e rules q r) ∙ sym (or_zero_l (shared_by e rules q r))
  open_snoc (x ∷ rs) r = rw (open_snoc rs r) (sym (or_assoc (shared_by e rules q x) (open_by e rules q rs) (shared_by e rules q r)))

  -- record k, which begins at a byte
  module _ (s : List ℕ) (k at : ℕ) (here : at ≡ record_start k) where
    open_more :
        {x y : ℕ} → x ≡ open_by e rules q (records_here s k) → y ≡ shared_by e rules q (record_from s at) → bit_or x y ≡ open_by e rules q (records_here s (k + 1))
    unfolding records_here
    open_more f g =
        ap₂ bit_or f g
        ∙ sym (open_snoc (tab (record_here s) 0 k) (record_from s at))
        ∙ ap (λ (l : List Record). open_by e rules q l) (ap (λ (i : ℕ). tab (record_here s) 0 k ++ (record_from s i ∷ [])) here ∙ sym (tab-next (record_here s) k))

    found-more : found_in e rules q s (k + 1) ≡ found_in e rules q s k ++ cond (may_count e rules q (record_from s at)) (at ∷ []) []
    unfolding found_in
    found-more =
        ap (keep (λ i. may_count e rules q (record_from s i))) (tab-next record_start k ∙ ap (λ (i : ℕ). tab record_start 0 k ++ (i ∷ [])) (sym here))
        ∙ keep-more (λ i. may_count e rules q (record_from s i)) (tab record_start 0 k) at

    -- whether it may count
    may-count :
        {y : ℕ} {b u : Bool} → y ≡ shared_by e rules q (record_from s at) → eqb y 0 ≡ b → same_user (user q) (part s at request_bytes) ≡ u
        → may_count e rules q (record_from s at) ≡ not b && u
    unfolding may_count
    may-count f g h = rw (← f, g, h)

-- ---- the blocks that have a record there

module _ (e : Each) (rules : ℕ) (q : Request) (s : List ℕ) (k : ℕ) (near : BlockSet) (was : NearOf e rules q s k near) where
  one_more : (near' : BlockSet) → ((i : ℕ) → i < k → has_block near' (i / block_records) ≡ false → has_block near (i / block_records) ≡ false)
      → (has_block near' (k / block_records) ≡ false → bit_and (record_here s k).marks (together_by e rules q (record_here s k).request) ≡ 0)
      → NearOf e rules q s (k + 1) near'
  one_more near' before last i h off = go (dec_lt i k)
    where
      go : Dec (i < k) → bit_and (record_here s i).marks (together_by e rules q (record_here s i).request) ≡ 0
      go (yes l) = was i l (before i l off)
      go (no g) = let z : i ≡ k = omega arith in rw z (last (rw z at off))

  -- a record that shares no run place
  near_apart : shared_by e rules q (record_here s k) ≡ 0 → NearOf e rules q s (k + 1) near
  unfolding shared_by
  near_apart z =
      one_more near (λ i l off. off)
      (λ off. together-with e rules q (record_here s k).request (record_here s k).marks ∙ z)

  -- one whose block is in the set
  near-more : (near' : BlockSet) → ((i : ℕ) → has_block near' i ≡ eqb i (k / block_records) || has_block near i) → NearOf e rules q s (k + 1) near'
  near-more near' grown =
      one_more near' (λ i l off. (not-with near near' (k / block_records) (i / block_records) (grown (i / block_records)) off).1)
      (λ off. absurd ((not-with near near' (k / block_records) (k / block_records) (grown (k / block_records)) off).0 refl))

-- ---- the pass

-- when k records have been looked at: x is what is open, the blocks of a set have a record there, and c places of found records stand in the list l
pub record Passed (e : Each) (rules : ℕ) (q : Request) (s : List ℕ) (len k x : ℕ) (near : BlockSet) (c : ℕ) (l : List ℕ) : Type 0 where
  pub few : c ≤ k
  pub sized : length l ≡ len
  pub opens : x ≡ open_by e rules q (records_here s k)
  pub nears : NearOf e rules q s k near
  pub founds : take c l ≡ found_in e rules q s k

module _ (e : Each) (rules : ℕ) (q : Request) (s : List ℕ) where
  pub pass-start : (near : BlockSet) (l : List ℕ) → Passed e rules q s (length l) 0 0 near 0 l
  unfolding open_by records_here found_in tab keep
  pass-start near l = record { few = omega arith; sized = refl; opens = refl; nears = λ i h. absurd (omega arith); founds = refl }

  module _
      {len k at y : ℕ} (here : at ≡ record_start k) (shared : y ≡ shared_by e rules q (record_from s at)) {x : ℕ} {near : BlockSet} {c : ℕ} {l : List ℕ}
      (p : Passed e rules q s len k x near c l) where
    same-found : may_count e rules q (record_from s at) ≡ false → take c l ≡ found_in e rules q s (k + 1)
    same-found g = p.founds ∙ sym (found-more e rules q s k at here ∙ rw g (append-nil (found_in e rules q s k)))

    -- it shares no run place
    pub pass-apart : eqb y 0 ≡ true → Passed e rules q s len (k + 1) x near c l
    pass-apart h =
        record {
          few = omega (arith, p.few);
          sized = p.sized;
          opens = sym (or_zero_r x) ∙ ap (bit_or x) (sym (eqb-true y 0 h)) ∙ open_more e rules q s k at here p.opens shared;
          nears = near_apart e rules q s k near p.nears (sym (ap (λ (i : ℕ). shared_by e rules q (record_from s i)) here) ∙ sym shared ∙ eqb-true y 0 h);
          founds = same-found (may-count e rules q s k at here shared h refl);
        }

    module _ (h : eqb y 0 ≡ false) {z : ℕ} (either : z ≡ bit_or x y) (near' : BlockSet)
        (grown : (i : ℕ) → has_block near' i ≡ eqb i (k / block_records) || has_block near i) where
      -- it is another user's
      pub pass-other : same_user (user q) (part s at request_bytes) ≡ false → Passed e rules q s len (k + 1) z near' c l
      pass-other u =
          record {
            few = omega (arith, p.few);
            sized = p.sized;
            opens = either ∙ open_more e rules q s k at here p.opens shared;
            nears = near-more e rules q s k near p.nears near' grown;
            founds = same-found (may-count e rules q s k at here shared h u);
          }

      -- it is the user's
      pub pass-found :
          same_user (user q) (part s at request_bytes) ≡ true → c < length l → Passed e rules q s len (k + 1) z near' (c + 1) (set l c at)
      pass-found u r =
          record {
            few = omega (arith, p.few);
            sized = length-set l c at ∙ p.sized;
            opens = either ∙ open_more e rules q s k at here p.opens shared;
            nears = near-more e rules q s k near p.nears near' grown;
            founds =
                rw (add-one c, take-suc-set l c at r, p.founds)
                (sym (found-more e rules q s k at here ∙ rw (may-count e rules q s k at here shared h u)));
          }

  pub pass-end : {len k n x : ℕ} {near : BlockSet} {c : ℕ} {l : List ℕ} → k ≡ n → Passed e rules q s len k x near c l
      → (x ≡ open_by e rules q (records_here s n)) × NearOf e rules q s n near × (c ≤ n) × (take c l ≡ found_in e rules q s n) × (length l ≡ len)
  pass-end f p = rw (← f) (p.opens, p.nears, p.few, p.founds, p.sized)

-- the request at byte 0 is the whole
pub of-user : (q x : Request) → length q ≡ request_bytes → {u : ℕ} {b r : Bool} → u ≡ user (part q 0 request_bytes) → b ≡ same_user u x → b ≡ r → same_user (user q) x ≡ r
of-user q x h f g e = ap (λ (u : ℕ). same_user u x) (sym (f ∙ ap user (part-whole q 28 h))) ∙ sym g ∙ e

-- ---- whether a record counts for a rule

module _ (e : Each) (q : Request) (i : ℕ) (r : Record) where
  pub stands-unmarked : (b : Bool) → b ≡ marked i r → not b ≡ true → stands_by e q i r ≡ false
  unfolding stands_by
  stands-unmarked true m h = absurd (false≢true h)
  stands-unmarked false m h = rw (← m)

  pub stands-marked : (b : Bool) → b ≡ marked i r → not b ≡ false → stands_by e q i r ≡ not (bit i (apart_by e q r.request))
  unfolding stands_by
  stands-marked true m h = rw (← m)
  stands-marked false m h = absurd (false≢true (sym h))

  pub stands : (b a : Bool) → b ≡ marked i r → a ≡ bit i (apart_by e q r.request) → b && not a ≡ stands_by e q i r
  unfolding stands_by
  stands b a m o = rw (m, o)

-- ---- the past

-- when j found records have been looked at: what was done in c of them stands in the list l
pub record Counted (e : Each) (q : Request) (i : ℕ) (s found : List ℕ) (len j c : ℕ) (l : List Deed) : Type 0 where
  pub few : c ≤ j
  pub sized : length l ≡ len
  pub past : take c l ≡ map deed_of (past_by e q i s (take j found))

module _ (e : Each) (q : Request) (i : ℕ) (s found : List ℕ) where
  pub count-start : (l : List Deed) → Counted e q i s found (length l) 0 0 l
  unfolding past_by keep
  count-start l = record { few = omega arith; sized = refl; past = refl }

  -- the record found as number j
  module _ {len j c at : ℕ} (here : at ≡ get_or found j 0) (h : j < length found) {l : List Deed} (p : Counted e q i s found len j c l) where
    by-more : past_by e q i s (take (j + 1) found) ≡ past_by e q i s (take j found) ++ map (λ k. part s k request_bytes) (cond (stands_by e q i (record_from s at)) (at ∷ []) [])
    unfolding past_by
    by-more =
        rw (add-one j, take-suc found j 0 h, ← here, keep-more (λ k. stands_by e q i (record_from s k)) (take j found) at)
        (map-append (λ k. part s k request_bytes) (keep (λ k. stands_by e q i (record_from s k)) (take j found)) (cond (stands_by e q i (record_from s at)) (at ∷ []) []))

    pub count-apart : {b : Bool} → b ≡ stands_by e q i (record_from s at) → b ≡ false → Counted e q i s found len (j + 1) c l
    count-apart o g =
        record {
          few = omega (arith, p.few);
          sized = p.sized;
          past = p.past ∙ ap (map deed_of) (sym (by-more ∙ rw (← o, g) (append-nil (past_by e q i s (take j found)))));
        }

    pub count-more :
        {o : Bool} → o ≡ stands_by e q i (record_from s at) → o ≡ true → {d : Deed} → d ≡ deed_of (part s at request_bytes) → c < length l
        → Counted e q i s found len (j + 1) (c + 1) (set l c d)
    count-more stands g {d} f r =
        record {
          few = omega (arith, p.few);
          sized = length-set l c d ∙ p.sized;
          past =
              rw (add-one c, take-suc-set l c d r, p.past, f)
              (sym (ap (map deed_of) (by-more ∙ rw (← stands, g)) ∙ map-append deed_of (past_by e q i s (take j found)) (part s at request_bytes ∷ [])));
        }

  pub count-end : {len j c : ℕ} {l : List Deed} → j ≡ length found → Counted e q i s found len j c l
      → (c ≤ length found) × (take c l ≡ map deed_of (past_by e q i s found)) × (length l ≡ len)
  count-end {len} {j} {c} {l} f p =
      (omega (arith, p.few), p.past ∙ ap (λ (m : List ℕ). map deed_of (past_by e q i s m)) (ap (λ (n : ℕ). take n found) f ∙ take-length found), p.sized)
