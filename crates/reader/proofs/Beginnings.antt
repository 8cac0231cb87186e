-- Which tag begins at a place: the one whose word is all there; and if none is, the text goes as far as the longest beginning of a word.
-- Assumes nothing.
use Prim.Native.Nat.{ℕ, zero, suc, ◌+◌, ◌≤◌, ◌<◌}
use native.Mathlib.Omega.{arith}
use native.Mathlib.Numerals.{add-one}
use mathlib.Core.Path.{◌≡◌, refl, sym, subst, ◌∙◌}
use mathlib.Core.Bool.{Bool, true, false, cond, not, ◌&&◌, false≢true}
use mathlib.Core.List.{List, [], ◌∷◌}
use borrow.Author.Tests.{eqb-true, eqb-false, ne_eqb, eq-eqb, ltb-true, ltb-false, not-true}
use lib.Dec.{eqb, ltb}
use lib.ListN.{length, take, drop, get_or, length-drop, length-take}
use Rattle.std.specs.Prelude.{max}
use Rattle.std.proofs.Math.Nat.{max-eq_left}
use Rattle.words.specs.Lists.{all_below, any_below, same_list}
use Rattle.word_laws.proofs.Tests.{both_first, both-second, all_below-at}
use Rattle.word_laws.proofs.Same.{same-eq}
use Rattle.forms.specs.Form.{Kind, this, space, digit, of_name, is_of, Form, may_end, hopeless, lefts}
use Rattle.forms.specs.Run.{common}
use Rattle.forms.proofs.Tests.{one_passes}
use Rattle.forms.proofs.Runs.{common-fits, common-fits-text, common-same}
use Rattle.reader.specs.Words.{word}
use Rattle.reader.specs.Table.{elements, inner, table, next, may_stand}
use Rattle.reader.specs.Scan.{Goes, Stops}
use Rattle.reader.specs.Begin.{share, longest, Stands}
use Rattle.reader.proofs.Letters.{word-starts}
use Rattle.reader.proofs.Counts.{common-more}
use Rattle.reader.proofs.Scans.{goes-stops}
use Rattle.reader.proofs.Steps.{goes_after, goes-lefts, stops-here}
use Rattle.reader.proofs.Firsts.{none-by, no-first}
use Rattle.reader.proofs.Rule.{inside, firsts, is_this, has_next, goes_on, right, right-hope, going_on}

-- ---- the longest beginning

-- some tag that may stand in each state
unfoldable some-tag : ℕ → ℕ
some-tag s = get_or (0 ∷ 1 ∷ 3 ∷ 3 ∷ 3 ∷ 7 ∷ 9 ∷ []) s 0

some-stands : all_below inside (λ s. may_stand s (some-tag s) && ltb (some-tag s) elements) ≡ true
unfolding all_below some-tag table next may_stand
some-stands = refl

module _ (s : ℕ) (u : List ℕ) where
  -- no tag has more
  most : (n d : ℕ) → d < n → share s u d ≤ longest s u n
  unfolding longest
  most zero d l = absurd (omega arith)
  most (suc n) d l = go (ltb d n) refl (λ h. most n d h)
    where
      go : (x : Bool) → ltb d n ≡ x → (d < n → share s u d ≤ longest s u n) → share s u d ≤ max (longest s u n) (share s u n)
      go true e h = omega (arith, h (ltb-true d n e))
      go false e h = let k = ltb-false d n e in let same : d ≡ n = omega arith in rw same (omega arith)

  -- nor has the text
  pub share-fits : (d : ℕ) → share s u d ≤ length u
  unfolding share
  share-fits d = go (may_stand s d)
    where
      go : (x : Bool) → cond x (common (word d) u) 0 ≤ length u
      go true = common-fits-text (word d) u
      go false = omega arith

  pub longest-fits : (n : ℕ) → longest s u n ≤ length u
  unfolding longest
  longest-fits zero = omega arith
  longest-fits (suc n) = omega (arith, longest-fits n, share-fits n)

  -- a tag that may stand has that much
  pub record Leader (m : ℕ) : Type 0 where
    pub tag : ℕ
    pub known : tag < elements
    pub stands : may_stand s tag ≡ true
    pub has : m ≤ common (word tag) u

  share-stands : (d : ℕ) → 1 ≤ share s u d → may_stand s d ≡ true
  unfolding share
  share-stands d = go (may_stand s d) refl
    where
      go : (x : Bool) → may_stand s d ≡ x → 1 ≤ cond x (common (word d) u) 0 → x ≡ true
      go true e l = refl
      go false e l = absurd (omega arith)

  share-common : (d : ℕ) → may_stand s d ≡ true → share s u d ≡ common (word d) u
  unfolding share
  share-common d e = rw e

  leader : s < inside → (n : ℕ) → n ≤ elements → Leader (longest s u n)
  unfolding longest
  leader l zero h =
      let e = all_below-at inside s (λ s. may_stand s (some-tag s) && ltb (some-tag s) elements) some-stands l in
      record {
        tag = some-tag s;
        known = ltb-true (some-tag s) elements (both-second (may_stand s (some-tag s)) _ e);
        stands = both_first (may_stand s (some-tag s)) _ e;
        has = omega arith;
      }
  leader l (suc n) h = go (ltb (longest s u n) (share s u n)) refl (leader l n (omega arith))
    where
      go : (x : Bool) → ltb (longest s u n) (share s u n) ≡ x → Leader (longest s u n) → Leader (max (longest s u n) (share s u n))
      go true e r =
          let k = ltb-true (longest s u n) (share s u n) e in
          let may = share-stands n (omega arith) in
          let same = share-common n may in
          record { tag = n; known = omega arith; stands = may; has = omega arith }
      go false e r = let k = ltb-false (longest s u n) (share s u n) e in rw (max-eq_left k) r

-- ---- a word of which a part is there

-- as many bytes as are the same, are in common
common-long : (w u : List ℕ) (n : ℕ) → n ≤ length w → n ≤ length u → take n u ≡ take n w → n ≤ common w u
unfolding common
common-long w u zero l m e = omega arith
common-long [] u (suc n) l m e = absurd (omega arith)
common-long (c ∷ w) [] (suc n) l m e = absurd (omega arith)
common-long (c ∷ w) (b ∷ u) (suc n) l m e =
    let same : b ≡ c = cc in
    let more : take n u ≡ take n w = cc in
    let r = common-long w u n (omega arith) (omega arith) more in
    rw (eq-eqb b c same) (omega arith)

-- only the one byte is of a kind that is one byte alone
this-only : (x b : ℕ) (k : Kind) → is_this x k ≡ true → is_of k b ≡ true → b ≡ x
unfolding is_this is_of
this-only x b (this n) e d = eqb-true b n d ∙ eqb-true n x e
this-only x b space e d = absurd (false≢true e)
this-only x b digit e d = absurd (false≢true e)
this-only x b of_name e d = absurd (false≢true e)

-- some number below n passes, so what follows from each that does, follows
some_below : {A : Type 0} (n : ℕ) (f : ℕ → Bool) → any_below n f ≡ true → ((i : ℕ) → i < n → f i ≡ true → A) → A
unfolding any_below
some_below zero f e h = absurd (false≢true e)
some_below (suc n) f e h = one_passes (any_below n f) (f n) e (λ x. some_below n f x (λ i l. h i (omega arith))) (λ y. h n (omega arith) y)

-- ---- tag by tag

-- the first c tags are not all there
abbrev pub none-whole : ℕ → List ℕ → ℕ → Bool
none-whole s u c = all_below c (λ d. not (eqb (share s u d) (length (word d))))

module _ (s : ℕ) (u : List ℕ) (c n m : ℕ) (e : n ≡ share s u c) where
  pub none_more : none-whole s u c ≡ true → (n ≡ length (word c) → ⊥) → none-whole s u (c + 1) ≡ true
  unfolding all_below
  none_more h d = rw (add-one c, h, ← e, ne_eqb n (length (word c)) d)

  pub longest-more : m ≡ longest s u c → max m n ≡ longest s u (c + 1)
  unfolding longest
  longest-more h = rw (add-one c, h, e)

-- ---- what a scanner finds

module _ (s : ℕ) (l : s < inside) (t : List ℕ) (a : ℕ) (fit : a ≤ length t) where
  -- a tag whose word is all there
  pub begins-tag : (c : ℕ) → c < elements → share s (drop a t) c ≡ length (word c) → Stands s t a (record { element = c; at = a + share s (drop a t) c })
  begins-tag c k e =
      let some = word-starts c (omega arith) in
      let may = share-stands s (drop a t) c (omega arith) in
      let goes = goes-lefts (inner s) (word c) fit (sym (share-common s (drop a t) c may) ∙ e) (rw (right s c l k may) (right-hope s c l k may)) in
      record { goes = rw (e, ← right s c l k may) goes; past = omega arith; tag = k; stands = may }

  module _ (none : none-whole s (drop a t) elements ≡ true) where
    abbrev u : List ℕ
    u = drop a t

    abbrev n : ℕ
    n = longest s u elements

    -- tag d has the longest beginning, and it is not whole
    module _ (d : ℕ) (known : d < elements) (stands : may_stand s d ≡ true) (has : n ≤ common (word d) u) where
      part : n ≡ common (word d) u
      part = let m = most s u elements d known in let e = share-common s u d stands in omega arith

      short : n < length (word d)
      short =
          let m = common-fits (word d) u in
          let e = share-common s u d stands in
          let other = eqb-false (share s u d) (length (word d)) (not-true _ (all_below-at elements d (λ c. not (eqb (share s u c) (length (word c)))) none known)) in
          let p = part in
          omega arith

      abbrev behind : Form
      behind = lefts (inner s) (take n (word d))

      test : goes_on s d n ≡ true
      test = going_on s d l known stands n short

      same : take n u ≡ take n (word d)
      same = let p = part in rw (part) (common-same (word d) u)

      goes : Goes (inner s) t a behind (a + n)
      unfolding goes_on
      goes =
          let w = take n (word d) in
          let m = short in
          let p = part in
          let fits = common-fits-text (word d) u in
          let size = length-drop a t in
          let taken = length-take n (word d) in
          let long : length w ≡ n = omega arith in
          subst (λ m. Goes (inner s) t a behind (a + m)) long
          (goes_after (inner s) w (omega arith) (rw long same)
          (not-true (hopeless behind) (both_first (not (hopeless behind)) _ (both_first (not (hopeless behind) && not (may_end behind)) _ test))))

      -- a tag that may stand would have one byte more in common
      excluded : (b : ℕ) → a + n < length t → get_or t (a + n) 0 ≡ b → (k : Kind) → any_below elements (has_next s d n k) ≡ true → is_of k b ≡ false
      unfolding has_next
      excluded b h e k any = go (is_of k b) refl
        where
          more : is_of k b ≡ true → (i : ℕ) → i < elements → has_next s d n k i ≡ true → ⊥
          more of i il hi =
              let rest = both-second (may_stand s i) _ hi in
              let tail = both-second (same_list (take n (word i)) (take n (word d))) _ rest in
              let starts = same-eq (take n (word i)) (take n (word d)) (both_first (same_list (take n (word i)) (take n (word d))) _ rest) in
              let longer = ltb-true n (length (word i)) (both_first (ltb n (length (word i))) _ tail) in
              let byte = this-only (get_or (word i) n 0) b k (both-second (ltb n (length (word i))) _ tail) of in
              let size = length-drop a t in
              let low = common-long (word i) u n (omega arith) (omega arith) (same ∙ sym starts) in
              let over = common-more (word i) t a n low longer (omega arith) (e ∙ byte) in
              let m = most s u elements i il in
              let sh = share-common s u i (both_first (may_stand s i) _ hi) in
              absurd (omega arith)

          go : (x : Bool) → is_of k b ≡ x → x ≡ false
          go true of = absurd (some_below elements (has_next s d n k) any (more of))
          go false of = refl

      -- so no byte may follow that is there
      stops : Stops behind t (a + n) (a + n)
      unfolding goes_on
      stops =
          stops-here behind (not-true (may_end behind) (both-second (not (hopeless behind)) _ (both_first (not (hopeless behind) && not (may_end behind)) _ test)))
          (λ h.
          no-first behind (get_or t (a + n) 0)
          (none-by (λ k. is_of k (get_or t (a + n) 0)) (λ k. any_below elements (has_next s d n k)) (firsts behind)
          (not-true _ (both-second (not (hopeless behind) && not (may_end behind)) _ test)) (excluded (get_or t (a + n) 0) h refl)))

    -- no tag's word is all there
    pub begins-none : Stops (inner s) t a (a + n)
    begins-none =
        let r = leader s u l elements (omega arith) in
        goes-stops (inner s) (behind r.tag r.known r.stands r.has) (goes r.tag r.known r.stands r.has) (stops r.tag r.known r.stands r.has)
