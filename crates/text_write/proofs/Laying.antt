-- Text laid down piece by piece is the whole text laid down.
-- Assumes nothing.
use Prim.Native.Nat.{ℕ, suc, ◌+◌, ◌*◌, ◌≤◌, ◌<◌}
use native.Mathlib.Nat.{add-zero, add-suc, suc-add, add_assoc}
use native.Mathlib.Numerals.{add-one}
use native.Mathlib.Omega.{arith}
use mathlib.Core.Path.{◌≡◌, refl, sym, ◌∙◌}
use mathlib.Core.Bool.{Bool, true, false, ◌||◌}
use mathlib.Core.List.{List, [], ◌∷◌, ◌++◌, flatten, append-nil, append_assoc}
use lib.ListN.{length, get_or, set, take, drop, length-append, length-take}
use lib.Seq.{sets-eq, length-sets, take-suc}
use Rattle.words.specs.Lists.{tab, any_below}
use Rattle.word_laws.proofs.Lists.{tab-next}
use Rattle.word_laws.proofs.Tests.{any_below-at}
use Rattle.word_laws.proofs.Below.{any-more}
use Rattle.std.specs.Prelude.{Result, ⊤}
use Rattle.std.specs.Result.{result_and}
use Rattle.std.specs.declared.result.Result.TheVariants.{Ok, Err}
use Rattle.format.specs.declared.answer.TextRefusal.{TextRefusal}
use Rattle.format.specs.declared.answer.TextRefusal.TheVariants.{NotListed}
use Rattle.text_write.specs.Laid.{laid, Lays, refused_if, Puts}
use Rattle.text_write.specs.declared.put.Placed.{Placed}

-- ---- bytes

-- two pieces, one behind the other, are laid down as one
pub laid-twice : (o : List ℕ) (a : ℕ) (w v : List ℕ) → laid (laid o a w) (a + length w) v ≡ laid o a (w ++ v)
unfolding laid
laid-twice o a [] v = rw (add-zero a)
laid-twice o a (x ∷ w) v = rw (add-suc a (length w), ← suc-add a (length w)) (laid-twice (set o a x) (suc a) w v)

-- laying down alters no length
pub laid-length : (o : List ℕ) (a : ℕ) (w : List ℕ) → length (laid o a w) ≡ length o
unfolding laid
laid-length o a w = length-sets o a w

-- in an output without a byte nothing is laid down
pub laid-nowhere : (a : ℕ) (w : List ℕ) → laid [] a w ≡ []
unfolding laid
laid-nowhere a [] = refl
laid-nowhere a (x ∷ w) = laid-nowhere (suc a) w

-- from the first byte on, with room enough: the text, and behind it the output as it was
pub laid-whole : (o w : List ℕ) → length w ≤ length o → laid o 0 w ≡ w ++ drop (length w) o
unfolding laid
laid-whole o w h = let e : 0 + length w ≡ length w = omega arith in rw (← e) (sets-eq w o 0 (omega arith))

-- one byte is a store
laid_one : (o : List ℕ) (a x : ℕ) → set o a x ≡ laid o a (x ∷ [])
unfolding laid
laid_one o a x = refl

-- a loop's turn: one byte more of a list
pub laid_more : (o s : List ℕ) (a i : ℕ) {x y : List ℕ} → i < length s → x ≡ laid o a (take i s) → y ≡ set x (a + i) (get_or s i 0)
    → y ≡ laid o a (take (i + 1) s)
laid_more o s a i {x} {y} h e g =
    let n : length (take i s) ≡ i = rw length-take (omega arith) in
    rw (add-one i, take-suc s i 0 h, ← laid-twice o a (take i s) (get_or s i 0 ∷ []), n, ← e) (g ∙ laid_one x (a + i) (get_or s i 0))

-- ---- pieces

module _ {o o' o'' : List ℕ} {a a' a'' : ℕ} {w v : List ℕ} {m n : ℕ} where
  -- the one piece and then the other
  pub and_then : Lays m o a w o' a' → Lays n o' a' v o'' a'' → Lays (m + n) o a (w ++ v) o'' a''
  and_then x y =
      record {
        bytes = y.bytes ∙ rw (x.bytes, x.behind) (laid-twice o a w v);
        behind = y.behind ∙ rw (x.behind, length-append w v) (add_assoc a (length w) (length v));
        few = rw length-append (omega (arith, x.few, y.few));
      }

-- the same piece, its text told in other words, and a wider bound
pub told : {o o' : List ℕ} {a a' : ℕ} {w v : List ℕ} {m n : ℕ} → Lays m o a w o' a' → w ≡ v → m ≤ n → Lays n o a v o' a'
told x e h = record { bytes = x.bytes ∙ rw e; behind = x.behind ∙ rw e; few = rw (← e) (omega (arith, x.few)) }

-- nothing laid down yet
pub lays-nothing : (o : List ℕ) (a : ℕ) → Lays 0 o a [] o a
unfolding laid
lays-nothing o a = record { bytes = refl; behind = sym (add-zero a); few = omega arith }

-- ---- pieces with names

-- two answers in a row are one, which refuses if either does
pub refused-both : (l k : Bool) {q r s : Result ⊤ TextRefusal} → q ≡ refused_if l → r ≡ refused_if k → s ≡ result_and q r → s ≡ refused_if (l || k)
refused-both l k d e f = rw (f, d, e) (go l)
  where
    go : (b : Bool) → result_and (refused_if b) (refused_if k) ≡ refused_if (b || k)
    go true = refl
    go false = refl

-- what is not refused has all its names, and what is refused has not
pub all-listed : (l : Bool) → refused_if l ≡ Ok tt → l ≡ false
all-listed false e = refl
all-listed true e = absurd (cc)

pub one-missing : (l : Bool) {t : TextRefusal} → refused_if l ≡ Err t → (l ≡ true) × (t ≡ NotListed)
one-missing true e = (refl, cc)
one-missing false e = absurd (cc)

-- a piece of which all names are listed, or that has none
pub puts-ok : {m : ℕ} {o o' : List ℕ} {a n : ℕ} {w : List ℕ} {l : Bool} → l ≡ false → Lays m o a w o' n → Puts m o a w l o' (record { next = n; named = Ok tt })
puts-ok e x = record { lays = x; named = rw e }

-- the same told in other words, and with a wider bound
pub retold : (r : Placed) {o o' : List ℕ} {a : ℕ} {w v : List ℕ} {l k : Bool} {m n : ℕ}
    → Puts m o a w l o' r → w ≡ v → l ≡ k → m ≤ n → Puts n o a v k o' r
retold r x e f h = record { lays = told x.lays e h; named = x.named ∙ rw f }

-- such a piece behind another without names
pub then-puts : (r : Placed) {o o' o'' : List ℕ} {a a' : ℕ} {w v : List ℕ} {l : Bool} {m n : ℕ}
    → Lays m o a w o' a' → Puts n o' a' v l o'' r → Puts (m + n) o a (w ++ v) l o'' r
then-puts r x y = record { lays = and_then x y.lays; named = y.named }

-- one with names behind another with names
pub puts-both : (r s : Placed) {o o' o'' : List ℕ} {a : ℕ} {w v : List ℕ} {l k : Bool} {m n : ℕ}
    → Puts m o a w l o' r → Puts n o' r.next v k o'' s
    → Puts (m + n) o a (w ++ v) (l || k) o'' (record { next = s.next; named = result_and r.named s.named })
puts-both r s x y = record { lays = and_then x.lays y.lays; named = refused-both _ _ x.named y.named refl }

-- ---- a row of pieces

-- one list more, joined
flatten-snoc : (ls : List (List ℕ)) (l : List ℕ) → flatten (ls ++ (l ∷ [])) ≡ flatten ls ++ l
unfolding flatten
flatten-snoc [] l = append-nil l
flatten-snoc (x ∷ ls) l = rw (flatten-snoc ls l) (sym (append_assoc x (flatten ls) l))

module _ (m : ℕ) (f : ℕ → List ℕ) (g : ℕ → Bool) (o : List ℕ) (a : ℕ) where
  -- the first i pieces of a row, none of which wants a name that is not listed
  abbrev pub Row : ℕ → List ℕ → ℕ → Type 0
  Row i o' a' = (any_below i g ≡ false) × Lays (m * i) o a (flatten (tab f 0 i)) o' a'

  -- none yet
  pub row-start : Row 0 o a
  unfolding flatten tab any_below
  row-start = (refl, told (lays-nothing o a) refl (omega arith))

  -- one piece more
  pub row_more : {o' o'' : List ℕ} {a' a'' : ℕ} (i : ℕ) → Row i o' a' → (g i ≡ false) × Lays m o' a' (f i) o'' a'' → Row (i + 1) o'' a''
  row_more i x y = (
    sym (any-more g i (any_below i g) (g i) refl refl) ∙ rw (x.0, y.0),
    told (and_then x.1 y.1) (sym (rw (tab-next f i) (flatten-snoc (tab f 0 i) (f i)))) (omega arith),
  )

  -- the loop's end
  pub row_done : {o' : List ℕ} {a' : ℕ} (i n most : ℕ) → Row i o' a' → i ≡ n → m * n ≤ most
      → (any_below n g ≡ false) × Lays most o a (flatten (tab f 0 n)) o' a'
  row_done i n most x e h = let y = rw e at x in (y.0, told y.1 refl h)

-- a row with a piece that wants a name that is not listed
pub row-lost : (g : ℕ → Bool) (n i : ℕ) → i < n → g i ≡ true → any_below n g ≡ true
row-lost g n i h e = go (any_below n g) refl
  where
    go : (b : Bool) → any_below n g ≡ b → b ≡ true
    go true t = refl
    go false t = sym (any_below-at n i g t h) ∙ e

module _ (m : ℕ) (f : ℕ → List ℕ) (g : ℕ → Bool) (o : List ℕ) (a : ℕ) where
  -- the first i pieces of a row, with nothing in place of a name that is not listed
  abbrev pub PutRow : ℕ → List ℕ → Placed → Type 0
  PutRow i o' r = Puts (m * i) o a (flatten (tab f 0 i)) (any_below i g) o' r

  -- none yet
  pub put_row-start : PutRow 0 o (record { next = a; named = Ok tt })
  put_row-start = let x = row-start m f g o a in puts-ok x.0 x.1

  -- one piece more
  pub put_row-more : {o' o'' : List ℕ} (r s : Placed) (i : ℕ) → PutRow i o' r → Puts m o' r.next (f i) (g i) o'' s
      → PutRow (i + 1) o'' (record { next = s.next; named = result_and r.named s.named })
  put_row-more r s i x y =
      retold _ (puts-both r s x y) (sym (rw (tab-next f i) (flatten-snoc (tab f 0 i) (f i)))) (any-more g i (any_below i g) (g i) refl refl) (omega arith)

  -- the loop's end
  pub put_row-done : {o' : List ℕ} (r : Placed) (i n most : ℕ) → PutRow i o' r → i ≡ n → m * n ≤ most
      → Puts most o a (flatten (tab f 0 n)) (any_below n g) o' r
  put_row-done r i n most x e h = retold r (rw e at x) refl refl h
