-- What a good list says of each entry, and of two of one kind.
-- Assumes nothing.
use Prim.Native.Nat.{ℕ, ◌*◌, ◌≤◌, ◌<◌}
use native.Mathlib.Decide.{dec_lt}
use native.Mathlib.Omega.{arith}
use mathlib.Core.Path.{◌≡◌, refl, sym}
use mathlib.Core.Bool.{Bool, true, false, not, ◌&&◌, false≢true}
use mathlib.Core.List.{List}
use lib.ListN.{length}
use lib.Dec.{eqb, leb}
use borrow.Author.Tests.{leb-true, eqb-false}
use Rattle.words.specs.Lists.{all_below}
use Rattle.words.specs.Bytes.{byte_at}
use Rattle.word_laws.proofs.Tests.{both_first, both-second, below_suc, all_below-at}
use Rattle.xml.specs.Names.{entry_bytes, most_names, most_name_bytes, type_names, target_names, names, length_of, name_in, good_name, apart, good_names}
use Rattle.names.specs.Parts.{good_bytes, new_name, good_at}
use Rattle.names.proofs.Apart.{two-numbers, two-texts}

-- ---- one entry

-- all that the test of an entry says
pub record GoodEntry (l : List ℕ) (i : ℕ) : Type 0 where
  pub kind_from : type_names ≤ byte_at l (entry_bytes * i)
  pub kind_to : byte_at l (entry_bytes * i) ≤ target_names
  pub length_from : 1 ≤ length_of l i
  pub length_to : length_of l i ≤ most_name_bytes
  pub numbered : (name_in l i).number ≡ 0 → ⊥
  pub bytes : good_bytes l i ≡ true

-- the test, taken apart
pub good-entry : (l : List ℕ) (i : ℕ) → good_name l i ≡ true → GoodEntry l i
unfolding good_name name_in
good-entry l i good =
    go (leb 1 (byte_at l (64 * i))) (leb (byte_at l (64 * i)) 5) (leb 1 (length_of l i)) (leb (length_of l i) 60) (eqb (name_in l i).number 0)
    (good_bytes l i) refl refl refl refl refl refl good
  where
    go : (a b c d e f : Bool) → leb 1 (byte_at l (64 * i)) ≡ a → leb (byte_at l (64 * i)) 5 ≡ b → leb 1 (length_of l i) ≡ c
        → leb (length_of l i) 60 ≡ d → eqb (name_in l i).number 0 ≡ e → good_bytes l i ≡ f → a && b && c && d && not e && f ≡ true → GoodEntry l i
    go true true true true false true p q r s t u h =
        record {
          kind_from = leb-true 1 (byte_at l (64 * i)) p;
          kind_to = leb-true (byte_at l (64 * i)) 5 q;
          length_from = leb-true 1 (length_of l i) r;
          length_to = leb-true (length_of l i) 60 s;
          numbered = eqb-false (name_in l i).number 0 t;
          bytes = u;
        }
    go false b c d e f p q r s t u h = absurd (false≢true h)
    go true false c d e f p q r s t u h = absurd (false≢true h)
    go true true false d e f p q r s t u h = absurd (false≢true h)
    go true true true false e f p q r s t u h = absurd (false≢true h)
    go true true true true true f p q r s t u h = absurd (false≢true h)
    go true true true true false false p q r s t u h = absurd (false≢true h)

-- ---- a good list

-- entries that are good one after the other have names of at most 60 bytes
pub lengths-to : (l : List ℕ) (i : ℕ) → all_below i (good_at l) ≡ true → good_name l i ≡ true → (j : ℕ) → j ≤ i → length_of l j ≤ most_name_bytes
lengths-to l i before here j h =
    below_suc (λ m. length_of l m ≤ 60) i j (omega arith)
    (λ b. (good-entry l j (both_first (good_name l j) (new_name l j) (all_below-at i j (good_at l) before b))).length_to) (good-entry l i here).length_to

module _ (l : List ℕ) (good : good_names l ≡ true) where
  entries : all_below (names l) (good_at l) ≡ true
  unfolding good_names
  entries = both-second (eqb (64 * names l) (length l) && leb (names l) most_names) (all_below (names l) (good_at l)) good

  -- each of its entries is good
  pub good-at : (i : ℕ) → i < names l → good_name l i ≡ true
  good-at i h = both_first (good_name l i) (new_name l i) (all_below-at (names l) i (good_at l) entries h)

  pub entry_at : (i : ℕ) → i < names l → GoodEntry l i
  entry_at i h = good-entry l i (good-at i h)

  -- each is apart from those before it
  apart-at : (j i : ℕ) → j < i → i < names l → apart (name_in l j) (name_in l i) ≡ true
  apart-at j i g h =
      all_below-at i j (λ m. apart (name_in l m) (name_in l i))
      (both-second (good_name l i) (new_name l i) (all_below-at (names l) i (good_at l) entries h)) g

  -- what no two entries of one kind share, one entry alone has
  one_entry :
      (P : ℕ → ℕ → Type 0) → ((j i : ℕ) → P j i → P i j)
      → ((j i : ℕ) → apart (name_in l j) (name_in l i) ≡ true → P j i → ⊥)
      → (j i : ℕ) → j < names l → i < names l → P j i → j ≡ i
  one_entry P swap never j i g h p = go (dec_lt j i) (dec_lt i j)
    where
      go : Dec (j < i) → Dec (i < j) → j ≡ i
      go (yes b) d = absurd (never j i (apart-at j i b h) p)
      go (no b) (yes d) = absurd (never i j (apart-at i j d g) (swap j i p))
      go (no b) (no d) = omega arith

  -- of one kind, one number is one entry's
  pub one_number : (j i : ℕ) → j < names l → i < names l → (name_in l j).kind ≡ (name_in l i).kind → (name_in l j).number ≡ (name_in l i).number → j ≡ i
  one_number j i g h k e =
      one_entry (λ m n. ((name_in l m).kind ≡ (name_in l n).kind) × ((name_in l m).number ≡ (name_in l n).number))
      (λ m n p. (sym p.0, sym p.1)) (λ m n a p. two-numbers (name_in l m) (name_in l n) p.0 a p.1) j i g h (k, e)

  -- and one name is one entry's
  pub one-text : (j i : ℕ) → j < names l → i < names l → (name_in l j).kind ≡ (name_in l i).kind → (name_in l j).bytes ≡ (name_in l i).bytes → j ≡ i
  one-text j i g h k e =
      one_entry (λ m n. ((name_in l m).kind ≡ (name_in l n).kind) × ((name_in l m).bytes ≡ (name_in l n).bytes))
      (λ m n p. (sym p.0, sym p.1)) (λ m n a p. two-texts (name_in l m) (name_in l n) p.0 a p.1) j i g h (k, e)
