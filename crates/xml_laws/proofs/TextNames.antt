-- Texts of names: what a good list has under a number, and what a reader of forms, and one who looks for a byte, does with them.
-- Assumes nothing.
use Prim.Native.Nat.{ℕ, zero, suc, ◌+◌, ◌*◌, ◌≤◌, ◌<◌}
use native.Mathlib.Omega.{arith}
use mathlib.Core.Path.{◌≡◌, refl, sym, ap, subst, ◌∙◌}
use mathlib.Core.Bool.{Bool, true, false, cond, not, ◌&&◌}
use mathlib.Core.List.{List, [], ◌∷◌, ◌++◌}
use mathlib.Core.Option.{Option, none, some, none-ne-some, some-ne-none, some-injective}
use borrow.Author.Tests.{eqb-true, leb-true, lt-ltb}
use lib.Dec.{eqb, leb, ltb}
use lib.ListN.{length, get_or}
use Rattle.words.specs.Lists.{all_below}
use Rattle.words.specs.First.{◌or_else◌, first}
use Rattle.words.specs.Bytes.{byte_at, part}
use Rattle.word_laws.proofs.Every.{Every, empty, more}
use Rattle.word_laws.proofs.Tests.{both_first, both-second, all_below-at}
use Rattle.word_laws.proofs.Parts.{byte_at-part, part_length}
use Rattle.forms.specs.Form.{name_byte, Kind, of_name, is_of, Form, nothing, one, many, bytes, left, lefts}
use Rattle.forms.proofs.Sequence.{left_one}
use Rattle.forms.proofs.Runs.{many-same, many-past, left_word}
use Rattle.format.specs.Answer.{refusal}
use Rattle.xml.specs.Grammar.{◌▸◌}
use Rattle.xml.specs.Names.{entry_bytes, bytes_at, most_names, names, length_of, name_in, good_name, apart, good_names, name_of}
use Rattle.xml.specs.Read.{listed}
use Rattle.xml.specs.Write.{or_blank, name_text}

-- ---- bytes of a kind

-- each byte is of the kind
abbrev pub EachOf : Kind → List ℕ → Type 0
EachOf q t = Every (λ b. is_of q b ≡ true) t

-- one or more bytes of the kind
abbrev pub SomeOf : Kind → List ℕ → Type 0
SomeOf q t = 1 ≤ length t × EachOf q t

-- a byte of the kind is not a byte that is not of the kind
pub other_byte : (q : Kind) (b c : ℕ) → is_of q b ≡ true → is_of q c ≡ false → eqb b c ≡ false
other_byte q b c e f = go (eqb b c) refl
  where
    go : (x : Bool) → eqb b c ≡ x → x ≡ false
    go true h = sym e ∙ ap (is_of q) (eqb-true b c h) ∙ f
    go false h = refl

-- no byte of the kind begins k
abbrev pub Apart : Kind → Form → Type 0
Apart q k = (b : ℕ) → is_of q b ≡ true → left k b ≡ nothing

-- as where k begins with a byte that is not of the kind
pub byte-apart : (q : Kind) (c : ℕ) (k : Form) → is_of q c ≡ false → Apart q (bytes (c ∷ []) ▸ k)
byte-apart q c k f b e = left_word c [] k b ∙ rw (other_byte q b c e f)

-- any number of the kind, and then k, are left as they were by bytes of the kind
pub lefts-many : (q : Kind) (k : Form) (u : List ℕ) {w : List ℕ} → Apart q k → EachOf q w
    → lefts (many (one q) ▸ k) (w ++ u) ≡ lefts (many (one q) ▸ k) u
unfolding lefts
lefts-many q k u apart empty = refl
lefts-many q k u apart (more {x = b} {xs = w} e h) = ap (λ f. lefts f (w ++ u)) (many-same q k b e (apart b e)) ∙ lefts-many q k u apart h

-- and by the first byte of another kind k alone is left to be met
pub lefts-past : (q : Kind) (k : Form) (b : ℕ) (u : List ℕ) → is_of q b ≡ false → lefts (many (one q) ▸ k) (b ∷ u) ≡ lefts k (b ∷ u)
unfolding lefts
lefts-past q k b u e = ap (λ f. lefts f u) (many-past q k b e)

-- so one or more of the kind, in front of k, are met by one or more bytes of the kind up to one of another kind
pub lefts-some : (q : Kind) (k : Form) (c : ℕ) (u w : List ℕ) → Apart q k → is_of q c ≡ false → SomeOf q w
    → lefts (one q ▸ many (one q) ▸ k) (w ++ c ∷ u) ≡ lefts k (c ∷ u)
unfolding lefts
lefts-some q k c u [] apart e (l, h) = absurd (omega arith)
lefts-some q k c u (b ∷ w) apart e (l, more d h) =
    ap (λ f. lefts f (w ++ c ∷ u)) (left_one q (many (one q) ▸ k) b ∙ rw d) ∙ lefts-many q k (c ∷ u) apart h ∙ lefts-past q k c u e

-- ---- names of a list

-- what holds of all that is found in a row holds of the first that is found
pub first_found : {A : Type 0} (P : A → Type 0) (f : ℕ → Option A) (k n : ℕ) {a : A}
    → ((i : ℕ) → k ≤ i → i < k + n → (x : A) → f i ≡ some x → P x) → first f k n ≡ some a → P a
unfolding first ◌or_else◌
first_found P f k zero {a} all e = absurd (none-ne-some a e)
first_found {A} P f k (suc n) {a} all e = go (f k) refl e (first_found P f (suc k) n (λ i l h. all i (omega arith) (omega arith)))
  where
    go : (o : Option A) → f k ≡ o → o or_else first f (suc k) n ≡ some a → (first f (suc k) n ≡ some a → P a) → P a
    go none d e rest = rest e
    go (some x) d e rest = all k (omega arith) (omega arith) a (d ∙ e)

-- what holds of each byte by its place holds of each
every-by-place : (P : ℕ → Type 0) (t : List ℕ) → ((i : ℕ) → i < length t → P (get_or t i 0)) → Every P t
every-by-place P [] h = empty
every-by-place P (b ∷ t) h = more (h 0 (omega arith)) (every-by-place P t (λ i l. h (suc i) (omega arith)))

-- of six tests that pass, the third, the fourth and the last
three-of-six : (a b c d e f : Bool) → a && b && c && d && e && f ≡ true → (c ≡ true) × (d ≡ true) × (f ≡ true)
three-of-six a b c d e f h =
    let k = both_first (a && b && c && d) e (both_first (a && b && c && d && e) f h) in
    (both-second (a && b) c (both_first (a && b && c) d k), both-second (a && b && c) d k, both-second (a && b && c && d && e) f h)

-- what each byte of an entry must be
abbrev good_byte : List ℕ → ℕ → ℕ → Bool
good_byte l i j = let b = byte_at l (entry_bytes * i + bytes_at + j) in cond (ltb j (length_of l i)) (name_byte b) (eqb b 0)

-- the bytes of a good entry are a name
name-in-form : (l : List ℕ) (i : ℕ) → entry_bytes * names l ≡ length l → i < names l → good_name l i ≡ true → SomeOf of_name (name_in l i).bytes
unfolding name_in good_name is_of
name-in-form l i whole h good =
    let n = length_of l i in
    let at = entry_bytes * i + bytes_at in
    let kind = byte_at l (entry_bytes * i) in
    let tests = three-of-six (leb 1 kind) (leb kind 5) (leb 1 n) (leb n 60) (not (eqb (name_in l i).number 0)) (all_below 60 (good_byte l i)) good in
    let least : 1 ≤ n = leb-true 1 n tests.0 in
    let most : n ≤ 60 = leb-true n 60 tests.1 in
    let long : length (part l at n) ≡ n = part_length l at n (omega arith) in
    let each : (j : ℕ) → j < length (part l at n) → name_byte (get_or (part l at n) j 0) ≡ true =
    λ j b.
    let c : j < n = rw long at b in
    let g = all_below-at 60 j (good_byte l i) tests.2 (omega arith) in
    rw (byte_at-part l at n j c) (rw (lt-ltb j n c) at g) in
    (rw long least, every-by-place (λ b. name_byte b ≡ true) (part l at n) each)

-- a good list's name of a number is a name
pub name-of : (l : List ℕ) (k n : ℕ) {w : List ℕ} → good_names l ≡ true → name_of l k n ≡ some w → SomeOf of_name w
unfolding good_names name_of
name-of l k n good found =
    let each : ℕ → Bool = λ i. good_name l i && all_below i (λ j. apart (name_in l j) (name_in l i)) in
    let t = eqb (entry_bytes * names l) (length l) in
    let u = leb (names l) most_names in
    let whole = eqb-true (entry_bytes * names l) (length l) (both_first t u (both_first (t && u) (all_below (names l) each) good)) in
    let entries = both-second (t && u) (all_below (names l) each) good in
    let good-at : (i : ℕ) → i < names l → good_name l i ≡ true =
    λ i h. both_first (good_name l i) (all_below i (λ j. apart (name_in l j) (name_in l i))) (all_below-at (names l) i each entries h) in
    let meets : ℕ → Bool = λ i. eqb (name_in l i).kind k && eqb (name_in l i).number n in
    first_found (SomeOf of_name) (λ i. cond (meets i) (some (name_in l i).bytes) none) 0 (names l)
    (λ i a b x e. go (name_in l i).bytes (meets i) x e (name-in-form l i whole (omega arith) (good-at i (omega arith)))) found
  where
    go : (w : List ℕ) (t : Bool) (x : List ℕ) → cond t (some w) none ≡ some x → SomeOf of_name w → SomeOf of_name x
    go w true x e s = subst (SomeOf of_name) (some-injective w x e) s
    go w false x e s = absurd (none-ne-some x e)

-- so a number that a good list has a name of is written as a name
pub named : (l : List ℕ) (k n : ℕ) → good_names l ≡ true → listed (name_of l k n) ≡ none → SomeOf of_name (name_text l k n)
unfolding listed or_blank
named l k n good found = go (name_of l k n) refl found
  where
    go : (o : Option (List ℕ)) → name_of l k n ≡ o → listed o ≡ none → SomeOf of_name (or_blank o)
    go none e h = absurd (some-ne-none (refusal 42 0 0) h)
    go (some w) e h = name-of l k n good e
