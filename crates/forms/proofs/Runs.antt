-- Bytes of one kind, or of a word, at the beginning of a text, beside a form that begins with them.
-- Assumes nothing.
use Prim.Native.Nat.{ℕ, zero, suc, ◌+◌, ◌≤◌, ◌<◌}
use native.Mathlib.Nat.{zero-add}
use native.Mathlib.Omega.{arith}
use mathlib.Core.Path.{◌≡◌, refl, sym, ap, ◌∙◌}
use mathlib.Core.Bool.{Bool, true, false, cond}
use mathlib.Core.List.{List, [], ◌∷◌}
use borrow.Author.Tests.{eqb-true, eqb-false, eq-eqb, ne_eqb}
use lib.Dec.{eqb}
use lib.ListN.{length, take, drop, get_or}
use Rattle.forms.specs.Form.{Kind, this, is_of, Form, nothing, one, many, hopeless, joined, bytes, left, lefts, reach}
use Rattle.forms.specs.Run.{run, common}
use Rattle.forms.proofs.Laws.{either-nothing, nothing-either, hopeless-joined}
use Rattle.forms.proofs.Sequence.{left_one, left-many}

-- ---- bytes of one kind

-- a first byte of the kind counts, and another ends the run
pub run_more : (q : Kind) (b : ℕ) (t : List ℕ) → is_of q b ≡ true → run q (b ∷ t) ≡ suc (run q t)
unfolding run
run_more q b t e = rw e

pub run_ends : (q : Kind) (b : ℕ) (t : List ℕ) → is_of q b ≡ false → run q (b ∷ t) ≡ 0
unfolding run
run_ends q b t e = rw e

-- what holds of a text with no byte, of one whose first byte is not of the kind, and of one byte of the kind more, holds of every text
pub run-induction : (q : Kind) (P : List ℕ → ℕ → Type 0) → P [] 0 → ((b : ℕ) (t : List ℕ) → is_of q b ≡ false → P (b ∷ t) 0)
    → ((b : ℕ) (t : List ℕ) → is_of q b ≡ true → P t (run q t) → P (b ∷ t) (suc (run q t))) → (t : List ℕ) → P t (run q t)
unfolding run
run-induction q P none other more [] = none
run-induction q P none other more (b ∷ t) = go (is_of q b) refl (run-induction q P none other more t)
  where
    go : (x : Bool) → is_of q b ≡ x → P t (run q t) → P (b ∷ t) (cond x (suc (run q t)) 0)
    go true e h = more b t e h
    go false e h = other b t e

-- a run is no longer than the text
pub run_fits : (q : Kind) (t : List ℕ) → run q t ≤ length t
run_fits q = run-induction q (λ t n. n ≤ length t) (omega arith) (λ b t e. omega arith) (λ b t e h. omega arith)

-- every byte of the run is of the kind
pub run-all : (q : Kind) (t : List ℕ) (i : ℕ) → i < run q t → is_of q (get_or t i 0) ≡ true
run-all q =
    run-induction q (λ t n. (i : ℕ) → i < n → is_of q (get_or t i 0) ≡ true)
    (λ i l. absurd (omega arith)) (λ b t e i l. absurd (omega arith)) more
  where
    more : (b : ℕ) (t : List ℕ) → is_of q b ≡ true → ((i : ℕ) → i < run q t → is_of q (get_or t i 0) ≡ true)
        → (i : ℕ) → i < suc (run q t) → is_of q (get_or (b ∷ t) i 0) ≡ true
    more b t e h zero l = e
    more b t e h (suc i) l = h i (omega arith)

-- the byte after the run, if there is one, is not
pub run-stops : (q : Kind) (t : List ℕ) (b : ℕ) (u : List ℕ) → drop (run q t) t ≡ b ∷ u → is_of q b ≡ false
run-stops q =
    run-induction q (λ t n. (b : ℕ) (u : List ℕ) → drop n t ≡ b ∷ u → is_of q b ≡ false)
    (λ b u d. cc) (λ c t e b u d. let f : c ≡ b = cc in rw (← f) e) (λ c t e h. h)

-- a byte of the kind in front of any number of its kind, where nothing behind them begins so, leaves the form as it was
pub many-same : (q : Kind) (k : Form) (b : ℕ) → is_of q b ≡ true → left k b ≡ nothing → left (joined (many (one q)) k) b ≡ joined (many (one q)) k
unfolding left joined
many-same q k b e l = left-many (one q) k b ∙ rw (e, l) (either-nothing (joined (many (one q)) k))

-- any other byte is left to what stands behind them
pub many-past : (q : Kind) (k : Form) (b : ℕ) → is_of q b ≡ false → left (joined (many (one q)) k) b ≡ left k b
unfolding left joined
many-past q k b e = left-many (one q) k b ∙ rw e (nothing-either (left k b))

-- so after the run the form is the same
pub run-many : (q : Kind) (k : Form) (t : List ℕ) → ((b : ℕ) → is_of q b ≡ true → left k b ≡ nothing)
    → lefts (joined (many (one q)) k) (take (run q t) t) ≡ joined (many (one q)) k
unfolding lefts
run-many q k t other =
    run-induction q (λ t n. lefts (joined (many (one q)) k) (take n t) ≡ joined (many (one q)) k) refl (λ b t e. refl)
    (λ b t e h. ap (λ g. lefts g (take (run q t) t)) (many-same q k b e (other b e)) ∙ h) t

-- and where one byte of the kind must stand first, it is what stands behind that one
pub run-some : (q : Kind) (k : Form) (t : List ℕ) → ((b : ℕ) → is_of q b ≡ true → left k b ≡ nothing) → 1 ≤ run q t
    → lefts (joined (one q) (joined (many (one q)) k)) (take (run q t) t) ≡ joined (many (one q)) k
unfolding lefts
run-some q k t other =
    run-induction q (λ t n. 1 ≤ n → lefts (joined (one q) (joined (many (one q)) k)) (take n t) ≡ joined (many (one q)) k)
    (λ l. absurd (omega arith)) (λ b t e l. absurd (omega arith))
    (λ b t e h l. ap (λ g. lefts g (take (run q t) t)) (left_one q (joined (many (one q)) k) b ∙ rw e) ∙ run-many q k t other) t

-- a text is good for the run and for as far as what is behind the run is good
pub run-reach : (q : Kind) (k : Form) (t : List ℕ) → ((b : ℕ) → is_of q b ≡ true → left k b ≡ nothing) → hopeless k ≡ false
    → reach (joined (many (one q)) k) t ≡ run q t + reach k (drop (run q t) t)
unfolding reach hopeless
run-reach q k t other hope =
    run-induction q (λ t n. reach (joined (many (one q)) k) t ≡ n + reach k (drop n t)) (sym (zero-add 0))
    (λ b t e. rw (many-past q k b e) (sym (zero-add (reach k (b ∷ t))))) more t
  where
    more : (b : ℕ) (t : List ℕ) → is_of q b ≡ true → reach (joined (many (one q)) k) t ≡ run q t + reach k (drop (run q t) t)
        → reach (joined (many (one q)) k) (b ∷ t) ≡ suc (run q t) + reach k (drop (run q t) t)
    more b t e h = rw (many-same q k b e (other b e), hopeless-joined (many (one q)) k) (rw (hope, h) (omega arith))

-- a run is as long as bytes of the kind follow one another
pub run_is : (q : Kind) (t : List ℕ) (n : ℕ) → n ≤ length t → ((i : ℕ) → i < n → is_of q (get_or t i 0) ≡ true)
    → (n < length t → is_of q (get_or t n 0) ≡ false) → run q t ≡ n
unfolding run
run_is q [] zero l all end = refl
run_is q [] (suc n) l all end = absurd (omega arith)
run_is q (b ∷ t) zero l all end = run_ends q b t (end (omega arith))
run_is q (b ∷ t) (suc n) l all end =
    run_more q b t (all 0 (omega arith)) ∙ ap suc (run_is q t n (omega arith) (λ i h. all (suc i) (omega arith)) (λ h. end (omega arith)))

-- ---- bytes of a word

-- what holds of a word with no byte, of a text with none, of two first bytes that differ, and of one byte more in common, holds of all
pub common-induction : (P : List ℕ → List ℕ → ℕ → Type 0) → ((t : List ℕ) → P [] t 0) → ((c : ℕ) (w : List ℕ) → P (c ∷ w) [] 0)
    → ((c : ℕ) (w : List ℕ) (b : ℕ) (t : List ℕ) → eqb b c ≡ false → P (c ∷ w) (b ∷ t) 0)
    → ((c : ℕ) (w : List ℕ) (b : ℕ) (t : List ℕ) → eqb b c ≡ true → P w t (common w t) → P (c ∷ w) (b ∷ t) (suc (common w t)))
    → (w t : List ℕ) → P w t (common w t)
unfolding common
common-induction P word text differ more [] t = word t
common-induction P word text differ more (c ∷ w) [] = text c w
common-induction P word text differ more (c ∷ w) (b ∷ t) = go (eqb b c) refl (common-induction P word text differ more w t)
  where
    go : (x : Bool) → eqb b c ≡ x → P w t (common w t) → P (c ∷ w) (b ∷ t) (cond x (suc (common w t)) 0)
    go true e h = more c w b t e h
    go false e h = differ c w b t e

-- two texts have no more in common than either is long
pub common-fits : (w t : List ℕ) → common w t ≤ length w
common-fits =
    common-induction (λ w t n. n ≤ length w) (λ t. omega arith) (λ c w. omega arith) (λ c w b t e. omega arith) (λ c w b t e h. omega arith)

pub common-fits-text : (w t : List ℕ) → common w t ≤ length t
common-fits-text =
    common-induction (λ w t n. n ≤ length t) (λ t. omega arith) (λ c w. omega arith) (λ c w b t e. omega arith) (λ c w b t e h. omega arith)

-- what they have in common is the same
pub common-same : (w t : List ℕ) → take (common w t) t ≡ take (common w t) w
common-same =
    common-induction (λ w t n. take n t ≡ take n w) (λ t. refl) (λ c w. refl) (λ c w b t e. refl)
    (λ c w b t e h. cc (eqb-true b c e))

-- and the byte after it, if both have one, is not
pub common-stops : (w t : List ℕ) → common w t < length w → common w t < length t → get_or t (common w t) 0 ≡ get_or w (common w t) 0 → ⊥
common-stops =
    common-induction (λ w t n. n < length w → n < length t → get_or t n 0 ≡ get_or w n 0 → ⊥)
    (λ t l m. absurd (omega arith)) (λ c w l m. absurd (omega arith)) (λ c w b t e l m. eqb-false b c e)
    (λ c w b t e h l m. h (omega arith) (omega arith))

-- a text has as much in common with a word as bytes are the same one after another
pub common-is : (w t : List ℕ) (n : ℕ) → n ≤ length w → n ≤ length t → ((i : ℕ) → i < n → get_or t i 0 ≡ get_or w i 0)
    → (n < length w → n < length t → get_or t n 0 ≡ get_or w n 0 → ⊥) → common w t ≡ n
unfolding common
common-is [] t zero l m all end = refl
common-is [] t (suc n) l m all end = absurd (omega arith)
common-is (c ∷ w) [] zero l m all end = refl
common-is (c ∷ w) [] (suc n) l m all end = absurd (omega arith)
common-is (c ∷ w) (b ∷ t) zero l m all end = rw (ne_eqb b c (end (omega arith) (omega arith)))
common-is (c ∷ w) (b ∷ t) (suc n) l m all end =
    rw (eq-eqb b c (all 0 (omega arith)))
    (ap suc (common-is w t n (omega arith) (omega arith) (λ i h. all (suc i) (omega arith)) (λ h j. end (omega arith) (omega arith))))

-- what is left of a word after its first byte, or another
pub left_word : (c : ℕ) (w : List ℕ) (k : Form) (b : ℕ) → left (joined (bytes (c ∷ w)) k) b ≡ cond (eqb b c) (joined (bytes w) k) nothing
unfolding bytes joined is_of
left_word c w k b = left_one (this c) (joined (bytes w) k) b

-- a word in front takes no hope away
pub hopeless-word : (w : List ℕ) (k : Form) → hopeless (joined (bytes w) k) ≡ hopeless k
unfolding bytes joined hopeless
hopeless-word [] k = refl
hopeless-word (c ∷ w) k = hopeless-word w k

-- after a whole word what is left is what stands behind it
pub common-word : (w t : List ℕ) (k : Form) → common w t ≡ length w → lefts (joined (bytes w) k) (take (length w) t) ≡ k
unfolding lefts bytes joined
common-word w t k =
    common-induction (λ w t n. n ≡ length w → lefts (joined (bytes w) k) (take (length w) t) ≡ k)
    (λ t e. refl) (λ c w e. absurd (omega arith)) (λ c w b t d e. absurd (omega arith))
    (λ c w b t d h e. ap (λ g. lefts g (take (length w) t)) (left_word c w k b ∙ rw d) ∙ h (omega arith)) w t

-- a text that has not the whole word is good for what it has of it
pub common-reach : (w t : List ℕ) (k : Form) → hopeless k ≡ false → common w t < length w → reach (joined (bytes w) k) t ≡ common w t
unfolding reach hopeless
common-reach w t k hope =
    common-induction (λ w t n. n < length w → reach (joined (bytes w) k) t ≡ n)
    (λ t l. absurd (omega arith)) (λ c w l. refl) (λ c w b t d l. rw (left_word c w k b, d))
    (λ c w b t d h l. rw (left_word c w k b, d, hopeless-word w k, hope) (ap suc (h (omega arith)))) w t

-- a text that has it is good for the word and for as far as what is behind the word is good
pub word-reach : (w t : List ℕ) (k : Form) → hopeless k ≡ false → common w t ≡ length w
    → reach (joined (bytes w) k) t ≡ length w + reach k (drop (length w) t)
unfolding reach bytes joined
word-reach w t k hope =
    common-induction (λ w t n. n ≡ length w → reach (joined (bytes w) k) t ≡ length w + reach k (drop (length w) t))
    (λ t e. sym (zero-add (reach k t))) (λ c w e. absurd (omega arith)) (λ c w b t d e. absurd (omega arith))
    (λ c w b t d h e. rw (left_word c w k b, d, hopeless-word w k, hope) (rw (h (omega arith)) (omega arith))) w t
