-- What a pass over a table's records finds is what the judge asks of them: which run places are open, and what the user did there.
-- Assumes nothing.
use Prim.Native.Nat.{ℕ, ◌+◌, ◌<◌, ◌≤◌}
use native.Mathlib.Decide.{dec_lt}
use native.Mathlib.Omega.{arith}
use mathlib.Core.Path.{◌≡◌, refl, sym, ap, ap₂, ◌∙◌}
use mathlib.Core.Bool.{Bool, true, false, not, ◌&&◌, ◌||◌, false≢true}
use mathlib.Core.List.{List, [], ◌∷◌, map}
use mathlib.Core.Option.{none}
use borrow.Author.Tests.{eqb-true}
use lib.Bits.{bit_and}
use lib.Dec.{eqb}
use lib.ListN.{length, get_or}
use Rattle.words.specs.Bytes.{part, bit}
use Rattle.words.specs.Lists.{keep, any_of, tab}
use Rattle.word_laws.proofs.Bits.{bit-none, bit-bits, bit-beyond, bits-same}
use Rattle.word_laws.proofs.BitLaws.{bit-and, bit-or, bit-without}
use Rattle.word_laws.proofs.Every.{every-all, every_map, every-tab, every-keep, every-get_d, keep_same}
use Rattle.word_laws.proofs.Keep.{keep-keep, keep-map, map-map}
use Rattle.word_laws.proofs.Lists.{map-tab}
use Rattle.word_laws.proofs.Parts.{u16_at-part}
use Rattle.format.specs.Layout.{request_bytes, record_bytes}
use Rattle.format.specs.Block.{block}
use Rattle.format.specs.Request.{Request, user, operation}
use Rattle.format.specs.Rule.{rule_at}
use Rattle.format.specs.Fits.{fits, same_place}
use Rattle.format.specs.Policy.{policy_fault, policy_of, rule_count}
use Rattle.format.specs.Table.{Record, marked}
use Rattle.format.specs.Records.{record_start, record_from, record_here, records_here}
use Rattle.judge.specs.Tally.{same_user}
use Rattle.judge.specs.Verdict.{judges}
use Rattle.judge.specs.NewTable.{stands_in, open_in, past_in}
use Rattle.fields.specs.Code.{HasRoom}
use Rattle.matching.specs.declared.masks.Each.{Each}
use Rattle.matching.specs.Masks.{EachOf, apart_in, apart_by, together_by}
use Rattle.matching.specs.Sets.{fitting_in, judging_in}
use Rattle.matching.proofs.Apart.{apart-is}
use Rattle.history.specs.Code.{shared_by, open_by, may_count, found_in, stands_by, past_by}
use Rattle.history.proofs.Turns.{record-inside}

-- under an accepted policy, for the rules that the request fits
module _
    (policy : List ℕ) (accepted : policy_fault policy ≡ none) (e : Each) (is : EachOf (policy_of policy) e) (q : Request) (fitting : ℕ)
    (fitting-are : fitting ≡ fitting_in (policy_of policy) q) where
  fitting-bit : (i : ℕ) → i < rule_count policy → bit i fitting ≡ fits (rule_at (block policy i)) q
  unfolding fitting_in policy_of
  fitting-bit i h = ap (bit i) fitting-are ∙ bit-bits (rule_count policy) _ i h

  fitting-below : (i : ℕ) → bit i fitting ≡ true → i < rule_count policy
  unfolding fitting_in policy_of
  fitting-below i f = go (dec_lt i (rule_count policy))
    where
      go : Dec (i < rule_count policy) → i < rule_count policy
      go (yes h) = h
      go (no h) = absurd (false≢true (sym (ap (bit i) fitting-are ∙ bit-beyond (rule_count policy) _ i (omega arith)) ∙ f))

  -- ---- a record

  module _ (i : ℕ) (f : bit i fitting ≡ true) (r : Record) where
    stands-is : stands_by e q i r ≡ stands_in (policy_of policy) q i r
    unfolding stands_by stands_in apart_in policy_of
    stands-is =
        ap (λ (b : Bool). marked i r && b)
        (ap not (ap (bit i) (apart-is policy accepted e is q r.request) ∙ bit-bits (rule_count policy) (λ j. not (same_place (rule_at (block policy j)) q r.request)) i (fitting-below i f))
        ∙ twice (same_place (rule_at (block policy i)) q r.request))
      where
        twice : (b : Bool) → not (not b) ≡ b
        twice true = refl
        twice false = refl

    shared-bit : bit i (shared_by e fitting q r) ≡ stands_by e q i r
    unfolding shared_by together_by stands_by
    shared-bit =
        bit-without i (bit_and r.marks fitting) (apart_by e q r.request)
        ∙ ap (λ (b : Bool). b && not (bit i (apart_by e q r.request))) (bit-and i r.marks fitting ∙ ap (λ (b : Bool). bit i r.marks && b) f ∙ both (bit i r.marks))
      where
        both : (b : Bool) → b && true ≡ b
        both true = refl
        both false = refl

    -- the user's records that are marked for the rule in its run place are among those found
    counts-is : may_count e fitting q r && stands_by e q i r ≡ stands_in (policy_of policy) q i r && same_user (user q) r.request
    unfolding may_count
    counts-is = go (stands_by e q i r) (same_user (user q) r.request) (eqb (shared_by e fitting q r) 0) refl refl ∙ ap (λ (b : Bool). b && same_user (user q) r.request) stands-is
      where
        go : (b u z : Bool) → stands_by e q i r ≡ b → eqb (shared_by e fitting q r) 0 ≡ z → (not z && u) && b ≡ b && u
        go true u true g h = absurd (false≢true (sym (bit-none i) ∙ ap (bit i) (sym (eqb-true (shared_by e fitting q r) 0 h)) ∙ shared-bit ∙ g))
        go true true false g h = refl
        go true false false g h = refl
        go false true true g h = refl
        go false false true g h = refl
        go false true false g h = refl
        go false false false g h = refl

  -- ---- which run places are open

  pub open_is : (i : ℕ) → bit i fitting ≡ true → (rs : List Record) → bit i (open_by e fitting q rs) ≡ open_in (policy_of policy) rs q i
  unfolding open_by open_in any_of
  open_is i f [] = bit-none i
  open_is i f (r ∷ rs) =
      bit-or i (shared_by e fitting q r) (open_by e fitting q rs) ∙ ap₂ {C = Bool} ◌||◌ (shared-bit i f r ∙ stands-is i f r) (open_is i f rs)

  -- so the same rules judge
  pub judging-same : (rs : List Record) → judging_in (policy_of policy) q (λ i. bit i (open_by e fitting q rs)) ≡ judging_in (policy_of policy) q (open_in (policy_of policy) rs q)
  unfolding judging_in judges policy_of
  judging-same rs =
      bits-same (rule_count policy) (λ i. judges (rule_at (block policy i)) q (bit i (open_by e fitting q rs))) (λ i. judges (rule_at (block policy i)) q (open_in (policy_of policy) rs q i))
      (λ i h. go i h (fits (rule_at (block policy i)) q) refl)
    where
      go : (i : ℕ) → i < rule_count policy → (b : Bool) → fits (rule_at (block policy i)) q ≡ b
          → judges (rule_at (block policy i)) q (bit i (open_by e fitting q rs)) ≡ judges (rule_at (block policy i)) q (open_in (policy_of policy) rs q i)
      go i h true f = ap (judges (rule_at (block policy i)) q) (open_is i (fitting-bit i h ∙ f) rs)
      go i h false f = rw f

  -- ---- what the user did there

  pub past_is :
      (i : ℕ) → bit i fitting ≡ true → (s : List ℕ) (n : ℕ)
      → past_by e q i s (found_in e fitting q s n) ≡ keep (same_user (user q)) (past_in (policy_of policy) (records_here s n) q i)
  unfolding past_by found_in past_in records_here
  past_is i f s n =
      ap (map (λ at. part s at request_bytes)) (keep-keep (λ at. may_count e fitting q (record_from s at)) (λ at. stands_by e q i (record_from s at)) (tab record_start 0 n) ∙ same)
      ∙ sym (map-map (record_from s) (λ r. r.request) (keep (λ at. both (record_from s at)) (tab record_start 0 n)))
      ∙ ap (map (λ (r : Record). r.request)) (sym (keep-map (record_from s) both (tab record_start 0 n)) ∙ ap (keep both) (map-tab (record_from s) record_start 0 n))
      ∙ sym (keep-map (λ (r : Record). r.request) (same_user (user q)) (keep (stands_in (policy_of policy) q i) (tab (record_here s) 0 n))
      ∙ ap (map (λ (r : Record). r.request)) (keep-keep (stands_in (policy_of policy) q i) (λ r. same_user (user q) r.request) (tab (record_here s) 0 n)))
    where
      both : Record → Bool
      both r = stands_in (policy_of policy) q i r && same_user (user q) r.request

      same : keep (λ at. may_count e fitting q (record_from s at) && stands_by e q i (record_from s at)) (tab record_start 0 n) ≡ keep (λ at. both (record_from s at)) (tab record_start 0 n)
      same = keep_same _ _ (every-all _ (λ at. counts-is i f (record_from s at)) (tab record_start 0 n))

-- ---- of any records found

-- a request among bytes has an operation of two bytes
pub past-small :
    (e : Each) (q : Request) (i : ℕ) (s found : List ℕ) → ((k : ℕ) → get_or s k 0 < 256)
    → (j : ℕ) → j < length (past_by e q i s found) → operation (get_or (past_by e q i s found) j []) < 65536
unfolding past_by
past-small e q i s found bytes j h =
    every-get_d {P = Few} [] j (every_map (λ at. part s at request_bytes) (λ at p. p) (every-all Small small (keep (λ at. stands_by e q i (record_from s at)) found))) h
  where
    Few : Request → Type 0
    Few r = operation r < 65536

    Small : ℕ → Type 0
    Small at = Few (part s at request_bytes)

    small : (at : ℕ) → Small at
    small at = omega (arith, u16_at-part s at request_bytes 8 (omega arith), bytes (at + 8), bytes (at + 8 + 1))

-- the records found lie in the table
pub found_inside :
    (e : Each) (rules : ℕ) (q : Request) (s : List ℕ) (n : ℕ) → HasRoom s n
    → (j : ℕ) → j < length (found_in e rules q s n) → get_or (found_in e rules q s n) j 0 + record_bytes ≤ length s
unfolding found_in
found_inside e rules q s n room j h =
    every-get_d 0 j (every-keep Inside (λ at. may_count e rules q (record_from s at)) (every-tab record_start 0 n (λ i l m. record-inside s n room i (omega arith)))) h
  where
    Inside : ℕ → Type 0
    Inside at = at + record_bytes ≤ length s
