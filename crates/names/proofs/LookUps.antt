-- Looking up in a good list: what is found is an entry, and a number and its name find one another.
-- Assumes nothing.
use Prim.Native.Nat.{ℕ, ◌<◌}
use native.Mathlib.Omega.{arith}
use mathlib.Core.Path.{◌≡◌, refl, sym, ap, ◌∙◌}
use mathlib.Core.Bool.{true}
use mathlib.Core.List.{List}
use mathlib.Core.Option.{Option, none, some}
use lib.ListN.{length}
use lib.Dec.{eqb}
use borrow.Author.Tests.{eq-eqb, eqb-true}
use Rattle.words.specs.Lists.{same_list}
use Rattle.word_laws.proofs.Tests.{both_first, both-second}
use Rattle.word_laws.proofs.Same.{same_refl, same-eq}
use Rattle.xml.specs.Names.{most_name_bytes, names, name_in, good_names, number_of, name_of}
use Rattle.names.specs.Parts.{is_name, is_number, number_here, name_here}
use Rattle.names.proofs.FirstHit.{Hit, found, found-only, passed, passed-as}
use Rattle.names.proofs.GoodEntries.{entry_at, one_number, one-text}
use Rattle.names.proofs.GoodTexts.{GoodText, good-text}

-- some entry has this kind, this number and this name
pub record Named (l : List ℕ) (k n : ℕ) (w : List ℕ) : Type 0 where
  pub entry : ℕ
  pub inside : entry < names l
  pub kind : (name_in l entry).kind ≡ k
  pub number : (name_in l entry).number ≡ n
  pub text : (name_in l entry).bytes ≡ w

module _ (l : List ℕ) (k n : ℕ) (w : List ℕ) where
  -- ---- an entry, and what a look-up meets at it

  -- where a name was met, an entry has it
  from-number : Hit (number_here l k w) 0 (names l) n → Named l k n w
  from-number x =
      let i = x.place in
      let t = passed (is_name l k w i) (name_in l i).number n x.hit in
      record {
        entry = i;
        inside = omega (arith, x.high);
        kind = eqb-true (name_in l i).kind k (both_first (eqb (name_in l i).kind k) (same_list (name_in l i).bytes w) t);
        number = passed-as (is_name l k w i) (name_in l i).number n x.hit;
        text = same-eq (name_in l i).bytes w (both-second (eqb (name_in l i).kind k) (same_list (name_in l i).bytes w) t);
      }

  -- where an entry has a name, it is met
  to_number : Named l k n w → Hit (number_here l k w) 0 (names l) n
  to_number x =
      record {
        place = x.entry;
        low = omega arith;
        high = omega (arith, x.inside);
        hit = rw (x.kind, x.number, x.text, eq-eqb k k refl, same_refl w);
      }

  -- the same of a number
  from-name : Hit (name_here l k n) 0 (names l) w → Named l k n w
  from-name x =
      let i = x.place in
      let t = passed (is_number l k n i) (name_in l i).bytes w x.hit in
      record {
        entry = i;
        inside = omega (arith, x.high);
        kind = eqb-true (name_in l i).kind k (both_first (eqb (name_in l i).kind k) (eqb (name_in l i).number n) t);
        number = eqb-true (name_in l i).number n (both-second (eqb (name_in l i).kind k) (eqb (name_in l i).number n) t);
        text = passed-as (is_number l k n i) (name_in l i).bytes w x.hit;
      }

  to-name : Named l k n w → Hit (name_here l k n) 0 (names l) w
  to-name x =
      record {
        place = x.entry;
        low = omega arith;
        high = omega (arith, x.inside);
        hit = rw (x.kind, x.number, x.text, eq-eqb k k refl, eq-eqb n n refl);
      }

  -- ---- what was found

  -- a number that was found is an entry's
  pub number-found : number_of l k w ≡ some n → Named l k n w
  unfolding number_of
  number-found e = from-number (found (number_here l k w) 0 (names l) n e)

  -- a name that was found is an entry's
  pub name-found : name_of l k n ≡ some w → Named l k n w
  unfolding name_of
  name-found e = from-name (found (name_here l k n) 0 (names l) w e)

module _ (l : List ℕ) (good : good_names l ≡ true) (k n : ℕ) (w : List ℕ) where
  -- ---- what must be found

  -- an entry's name finds its number
  pub finds-number : Named l k n w → number_of l k w ≡ some n
  unfolding number_of
  finds-number x = found-only (number_here l k w) 0 (names l) n (to_number l k n w x) same
    where
      same : (m : ℕ) → Hit (number_here l k w) 0 (names l) m → m ≡ n
      same m h =
          let y = from-number l k m w h in
          let e = one-text l good y.entry x.entry y.inside x.inside (y.kind ∙ sym x.kind) (y.text ∙ sym x.text) in
          sym y.number ∙ ap (λ i. (name_in l i).number) e ∙ x.number

  -- an entry's number finds its name
  pub finds-name : Named l k n w → name_of l k n ≡ some w
  unfolding name_of
  finds-name x = found-only (name_here l k n) 0 (names l) w (to-name l k n w x) same
    where
      same : (v : List ℕ) → Hit (name_here l k n) 0 (names l) v → v ≡ w
      same v h =
          let y = from-name l k n v h in
          let e = one_number l good y.entry x.entry y.inside x.inside (y.kind ∙ sym x.kind) (y.number ∙ sym x.number) in
          sym y.text ∙ ap (λ i. (name_in l i).bytes) e ∙ x.text

  -- ---- look-ups undo one another

  -- the name of a number has that number
  pub name-number : name_of l k n ≡ some w → number_of l k w ≡ some n
  name-number e = finds-number (name-found l k n w e)

  -- the number of a name has that name
  pub number-name : number_of l k w ≡ some n → name_of l k n ≡ some w
  number-name e = finds-name (number-found l k n w e)

  -- a listed name is 1 to 60 bytes of names
  pub named-text : Named l k n w → GoodText w
  named-text x = rw x.text at (good-text l x.entry x.inside (entry_at l good x.entry x.inside))

-- a name of more than 60 bytes is not listed
pub too_long : (l : List ℕ) → good_names l ≡ true → (k : ℕ) (w : List ℕ) → most_name_bytes < length w → number_of l k w ≡ none
too_long l good k w h = go (number_of l k w) refl
  where
    go : (o : Option ℕ) → number_of l k w ≡ o → o ≡ none
    go none e = refl
    go (some n) e = let t = named-text l good k n w (number-found l k n w e) in absurd (omega (arith, t.length_to))
