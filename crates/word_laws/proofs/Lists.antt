-- Lists that are made by index, joined, and cut into parts of one width: `tab`, `flatten`, and `take w (drop (w * i) l)`.
-- Assumes nothing.
use Prim.Native.Nat.{ℕ, zero, suc, ◌+◌, ◌*◌, ◌≤◌, ◌<◌}
use native.Mathlib.Nat.{mul-suc, mul-zero, add_comm, zero-add}
use native.Mathlib.Numerals.{add-one}
use native.Mathlib.Omega.{arith}
use mathlib.Core.Path.{◌≡◌, refl, sym, ap, ap₂, ◌∙◌}
use mathlib.Core.List.{List, [], ◌∷◌, ◌++◌, flatten, map, append_assoc, append-nil}
use lib.ListN.{length, get_or, take, drop, length-append}
use lib.Seq.{take_at, drop_at, drop-drop, take-add, drop-cons}
use Rattle.words.specs.Lists.{tab}
use Rattle.word_laws.proofs.Every.{Every, empty, more}

-- each list has the length w
abbrev pub OfLength : {A : Type 0} → ℕ → List A → Type 0
OfLength w l = length l ≡ w

module _ {A : Type 0} where
  -- ---- a list that is made by index

  pub length-tab : (f : ℕ → A) (k n : ℕ) → length (tab f k n) ≡ n
  unfolding tab
  length-tab f k zero = refl
  length-tab f k (suc n) = ap suc (length-tab f (suc k) n)

  pub get_d-tab : (f : ℕ → A) (k n i : ℕ) (d : A) → i < n → get_or (tab f k n) i d ≡ f (k + i)
  unfolding tab
  get_d-tab f k zero i d h = absurd (omega arith)
  get_d-tab f k (suc n) zero d h = ap f (omega arith)
  get_d-tab f k (suc n) (suc i) d h = get_d-tab f (suc k) n i d (omega arith) ∙ ap f (omega arith)

  pub tab-cong : (f g : ℕ → A) (k n : ℕ) → ((i : ℕ) → k ≤ i → i < k + n → f i ≡ g i) → tab f k n ≡ tab g k n
  unfolding tab
  tab-cong f g k zero h = refl
  tab-cong f g k (suc n) h =
      ap₂ {C = List A} (λ x xs. x ∷ xs) (h k (omega arith) (omega arith)) (tab-cong f g (suc k) n (λ i lo hi. h i (omega arith) (omega arith)))

  -- the elements of a list, by index, are the list
  -- one value more
  pub tab-more : (f : ℕ → A) (k n : ℕ) → tab f k (suc n) ≡ tab f k n ++ (f (k + n) ∷ [])
  unfolding tab
  tab-more f k zero = ap {B = List A} (λ i. f i ∷ []) (omega arith)
  tab-more f k (suc n) =
      ap {B = List A} (λ r. f k ∷ r) (tab-more f (suc k) n ∙ ap {B = List A} (λ i. tab f (suc k) n ++ (f i ∷ [])) (omega arith))

  pub tab-next : (f : ℕ → A) (k : ℕ) → tab f 0 (k + 1) ≡ tab f 0 k ++ (f k ∷ [])
  tab-next f k = rw (add-one k, tab-more f 0 k, zero-add k)

  pub tab-get_d : (l : List A) (d : A) (k n : ℕ) → k + n ≤ length l → tab (λ i. get_or l i d) k n ≡ take n (drop k l)
  unfolding tab
  tab-get_d l d k zero h = refl
  tab-get_d l d k (suc n) h =
      let b : k < length l = omega arith in
      rw (drop-cons l k d b) (ap {B = List A} (λ r. get_or l k d ∷ r) (tab-get_d l d (suc k) n (omega arith)))

  -- ---- lists joined

  pub length-flatten : (w : ℕ) {ls : List (List A)} → Every (OfLength w) ls → length (flatten ls) ≡ w * length ls
  unfolding flatten
  length-flatten w empty = sym (mul-zero w)
  length-flatten w (more {x = l} {xs = ls} p ps) = length-append l (flatten ls) ∙ rw (mul-suc, length-flatten w ps) (omega arith)

  -- past a list of the width there is one part less
  pub drop-part : (w i : ℕ) (l rest : List A) → length l ≡ w → drop (w * suc i) (l ++ rest) ≡ drop (w * i) rest
  drop-part w i l rest p = rw (mul-suc, add_comm (w * i) w, ← drop-drop (w * i) w (l ++ rest), drop_at l rest w p)

  -- of lists of one width, the part at index i is list i
  pub part-flatten : (w i : ℕ) {ls : List (List A)} (rest : List A) → Every (OfLength w) ls → i < length ls
      → take w (drop (w * i) (flatten ls ++ rest)) ≡ get_or ls i []
  unfolding flatten
  part-flatten w i rest empty h = absurd (omega arith)
  part-flatten w zero rest (more {x = l} {xs = ls} p ps) h = rw (mul-zero, append_assoc) (take_at l (flatten ls ++ rest) w p)
  part-flatten w (suc i) rest (more {x = l} {xs = ls} p ps) h =
      rw (append_assoc, drop-part w i l (flatten ls ++ rest) p) (part-flatten w i rest ps (omega arith))

  -- the parts of a list from the k-th on, joined, are what they are parts of
  pub flatten-parts : (w : ℕ) (l : List A) (k n : ℕ) → flatten (tab (λ i. take w (drop (w * i) l)) k n) ≡ take (w * n) (drop (w * k) l)
  unfolding flatten tab
  flatten-parts w l k zero = rw mul-zero
  flatten-parts w l k (suc n) =
      rw (flatten-parts w l (suc k) n, mul-suc w n, add_comm (w * n) w, take-add, drop-drop w (w * k) l, ← mul-suc w k)

-- a front, and the part that stands behind it
pub front-grows : {A : Type 0} {p q : List A} (l : List A) (i n : ℕ) → p ≡ take i l → q ≡ take n (drop i l) → p ++ q ≡ take (i + n) l
front-grows l i n e f = ap₂ ◌++◌ e f ∙ sym (take-add i n l)

pub map-tab : {A B : Type 0} (f : A → B) (g : ℕ → A) (k n : ℕ) → map f (tab g k n) ≡ tab (λ i. f (g i)) k n
unfolding tab
map-tab f g k zero = refl
map-tab {B} f g k (suc n) = ap {B = List B} (λ r. f (g k) ∷ r) (map-tab f g (suc k) n)

pub get_d_map : {A B : Type 0} (f : A → B) (l : List A) (i : ℕ) (d : A) (e : B) → i < length l → get_or (map f l) i e ≡ f (get_or l i d)
get_d_map f [] i d e h = absurd (omega arith)
get_d_map f (x ∷ xs) zero d e h = refl
get_d_map f (x ∷ xs) (suc i) d e h = get_d_map f xs i d e (omega arith)

-- of lists of one width that are made by index, the part at index i is list i
pub part-tab : {A : Type 0} (w : ℕ) (f : ℕ → List A) (n i : ℕ) → Every (OfLength w) (tab f 0 n) → i < n
    → take w (drop (w * i) (flatten (tab f 0 n))) ≡ f i
part-tab w f n i ps h =
    rw (← append-nil (flatten (tab f 0 n)))
    (part-flatten w i [] ps (rw length-tab h) ∙ get_d-tab f 0 n i [] h ∙ ap f (zero-add i))
