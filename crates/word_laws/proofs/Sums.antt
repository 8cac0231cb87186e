-- Both sums of any words are below 2 to the 32, so a check and a stamp fit their two fields of 4 bytes; the sums over one word more; and over more words, by the
-- sums over these alone.
-- Assumes nothing.
use Prim.Native.Nat.{ℕ, zero, suc, ◌+◌, ◌*◌, ◌<◌, ◌≤◌}
use native.Mathlib.Nat.{mul-suc, suc-mul}
use native.Mathlib.Numerals.{add-one, add-two, add-three}
use native.Mathlib.Omega.{arith}
use mathlib.Core.Path.{◌≡◌, refl, sym, ap, ap₂, ◌∙◌}
use mathlib.Core.List.{List, [], ◌∷◌, ◌++◌}
use lib.ListN.{length, get_or, length-take, length-drop}
use lib.Seq.{take-add, drop-drop}
use Rattle.words.specs.Lists.{tab}
use Rattle.words.specs.Bytes.{u32_at, part}
use Rattle.words.specs.Sums.{Sums, wrap, add_word, add_words, sums, words}
use Rattle.word_laws.proofs.Lists.{tab-get_d}

pub record Fit (s : Sums) : Type 0 where
  pub a-fits : s.a < 4294967296
  pub b-fits : s.b < 4294967296

pub add_word-fit : (s : Sums) (w : ℕ) → Fit (add_word s w)
unfolding add_word
add_word-fit s w = record { a-fits = omega arith; b-fits = omega arith }

pub add_words-fit : (s : Sums) (ws : List ℕ) → Fit s → Fit (add_words s ws)
unfolding add_words
add_words-fit s [] h = h
add_words-fit s (w ∷ ws) h = add_words-fit (add_word s w) ws (add_word-fit s w)

pub sums-fit : (ws : List ℕ) → Fit (sums ws)
unfolding sums
sums-fit ws = add_words-fit (record { a = 1; b = 0 }) ws (record { a-fits = omega arith; b-fits = omega arith })

-- ---- one word more

-- behind whole words the words go on
pub words_append : (i : ℕ) (p q : List ℕ) → length p ≡ 4 * i → words (p ++ q) ≡ words p ++ words q
unfolding words
words_append zero [] q e = refl
words_append zero (w ∷ p) q e = absurd (omega arith)
words_append (suc i) [] q e = absurd (omega arith)
words_append (suc i) (w ∷ []) q e = absurd (omega arith)
words_append (suc i) (w ∷ x ∷ []) q e = absurd (omega arith)
words_append (suc i) (w ∷ x ∷ y ∷ []) q e = absurd (omega arith)
words_append (suc i) (w ∷ x ∷ y ∷ z ∷ p) q e = rw (words_append i p q (omega arith))

pub add_words-append : (s : Sums) (ws more : List ℕ) → add_words s (ws ++ more) ≡ add_words (add_words s ws) more
unfolding add_words
add_words-append s [] more = refl
add_words-append s (x ∷ ws) more = add_words-append (add_word s x) ws more

-- the words of a part that is one word longer
pub words_more : (s : List ℕ) (at i : ℕ) → at + 4 * i + 4 ≤ length s
    → words (part s at (4 * suc i)) ≡ words (part s at (4 * i)) ++ (u32_at s (at + 4 * i) ∷ [])
unfolding words tab
words_more s at i h =
    rw (mul-suc, take-add, drop-drop (4 * i) at s, ← tab-get_d s 0 (at + 4 * i) 4 h)
    (words_append i (part s at (4 * i)) (tab (λ j. get_or s j 0) (at + 4 * i) 4) (simp (length-take, length-drop) (omega arith))
    ∙ rw (add-one, add-two, add-three))

-- the sums over a part that is one word longer
pub sums-more : (s : List ℕ) (at i : ℕ) → at + 4 * i + 4 ≤ length s
    → sums (words (part s at (4 * suc i))) ≡ add_word (sums (words (part s at (4 * i)))) (u32_at s (at + 4 * i))
unfolding sums add_words
sums-more s at i h = rw (words_more s at i h) (add_words-append (record { a = 1; b = 0 }) (words (part s at (4 * i))) (u32_at s (at + 4 * i) ∷ []))

-- ---- more words, by the sums over them alone

-- how many words whole words are
pub length-words : (i : ℕ) (p : List ℕ) → length p ≡ 4 * i → length (words p) ≡ i
unfolding words
length-words zero [] e = refl
length-words zero (w ∷ p) e = absurd (omega arith)
length-words (suc i) [] e = absurd (omega arith)
length-words (suc i) (w ∷ []) e = absurd (omega arith)
length-words (suc i) (w ∷ x ∷ []) e = absurd (omega arith)
length-words (suc i) (w ∷ x ∷ y ∷ []) e = absurd (omega arith)
length-words (suc i) (w ∷ x ∷ y ∷ z ∷ p) e = ap suc (length-words i p (omega arith))

wrap_left : (x y : ℕ) → wrap (wrap x + y) ≡ wrap (x + y)
wrap_left x y = omega arith

wrap-both : (x y : ℕ) → wrap (wrap x + wrap y) ≡ wrap (x + y)
wrap-both x y = omega arith

-- one word more, where b and a are ahead by e and d
ahead-one : (a b d e w : ℕ) → wrap (wrap (b + e) + wrap (wrap (a + d) + w)) ≡ wrap (wrap (b + wrap (a + w)) + (e + d))
ahead-one a b d e w =
    ap (λ x. wrap (wrap (b + e) + x)) (wrap_left (a + d) w)
    ∙ wrap-both (b + e) (a + d + w)
    ∙ ap wrap (order a b d e w)
    ∙ sym (wrap_left (b + wrap (a + w)) (e + d) ∙ ap wrap (swap b (wrap (a + w)) (e + d)) ∙ wrap_left (a + w) (b + (e + d)))
  where
    swap : (x y z : ℕ) → x + y + z ≡ y + (x + z)
    swap x y z = omega arith

    order : (a b d e w : ℕ) → b + e + (a + d + w) ≡ a + w + (b + (e + d))
    order a b d e w = omega arith

-- a state that is ahead of another by d and e stays ahead in a by d, and with each word gains d in b
ahead :
    (ws : List ℕ) (a b d e : ℕ)
    → let s : Sums = record { a = a; b = b } in
    add_words (record { a = wrap (a + d); b = wrap (b + e) }) ws
    ≡ record { a = wrap ((add_words s ws).a + d); b = wrap ((add_words s ws).b + (e + length ws * d)) }
unfolding add_words add_word
ahead [] a b d e = let h : e + 0 * d ≡ e = omega arith in rw h
ahead (w ∷ ws) a b d e =
    let a' : wrap (wrap (a + d) + w) ≡ wrap (wrap (a + w) + d) = omega arith in
    let n : e + suc (length ws) * d ≡ e + d + length ws * d = ap (λ (x : ℕ). e + x) (suc-mul (length ws) d) ∙ omega arith in
    rw (ahead-one a b d e w, a', n) (ahead ws (wrap (a + w)) (wrap (b + wrap (a + w))) d (e + d))

-- a state goes on from its own a and b where the sums over the words began with a = 1 and b = 0
pub more-words :
    (s : Sums) → Fit s → (ws : List ℕ)
    → add_words s ws
    ≡ record { a = wrap ((sums ws).a + (s.a + 4294967295)); b = wrap ((sums ws).b + (s.b + length ws * (s.a + 4294967295))) }
unfolding sums
more-words s f ws =
    let a : wrap (1 + (s.a + 4294967295)) ≡ s.a = omega (arith, f.a-fits) in
    let b : wrap (0 + s.b) ≡ s.b = omega (arith, f.b-fits) in
    ap₂ (λ (x y : ℕ). add_words (record { a = x; b = y }) ws) (sym a) (sym b) ∙ ahead ws 1 0 (s.a + 4294967295) s.b
