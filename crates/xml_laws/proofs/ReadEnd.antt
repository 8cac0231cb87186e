-- The last tag of a text of the form is the set's end tag.
-- Assumes nothing.
use Prim.Native.Nat.{ℕ}
use Prim.Native.String.{String}
use mathlib.Core.Path.{◌≡◌, refl, sym, ap, ◌∙◌}
use mathlib.Core.Bool.{Bool, true, false, not}
use mathlib.Core.List.{List, [], ◌∷◌, ◌++◌, map, append_assoc, map-append}
use lib.Seq.{take-length}
use lib.Dec.{eqb}
use borrow.Author.Tests.{eqb-true}
use Rattle.words.specs.Lists.{keep, same_list}
use Rattle.word_laws.proofs.Keep.{keep_append}
use Rattle.forms.specs.Form.{ascii, this, space, is_of, Form, blank, one, many, joined, bytes, is_of_form}
use Rattle.forms.specs.Texts.{Of, no_byte, a_byte, no_more, one_more}
use Rattle.forms.proofs.Laws.{reach-whole}
use Rattle.forms.proofs.Texts.{Split, unjoin, is-of-form}
use Rattle.xml.specs.Grammar.{◌▸◌, text, gap, element, policy, set}
use Rattle.xml.specs.Tags.{on_first, ended, parted, squeezed, tags_in, Tag, end_set, rows, saying, tag_of}
use Rattle.xml.specs.Read.{good_tags}

-- ---- what is left of a text without its white space

-- of two texts, white space can be left out one by one
squeezed-append : (u v : List ℕ) → squeezed (u ++ v) ≡ squeezed u ++ squeezed v
unfolding squeezed
squeezed-append u v = keep_append (λ b. not (is_of space b)) u v

-- each text of the form is a without its white space
abbrev Spells : Form → List ℕ → Type 0
Spells f a = (t : List ℕ) → Of f t → squeezed t ≡ a

-- of white space nothing is left
gap-spells : Spells gap []
unfolding squeezed keep
gap-spells t no_more = refl
gap-spells t (one_more u v e (a_byte p) y) = rw (e, p) (gap-spells v y)

-- the texts of a word are the word
one-is : {c : ℕ} {t : List ℕ} → Of (one (this c)) t → t ≡ c ∷ []
unfolding is_of
one-is {c} (a_byte {b} p) = rw (eqb-true b c p)

word-is : (w t : List ℕ) → Of (bytes w) t → t ≡ w
unfolding bytes
word-is [] t no_byte = refl
word-is (c ∷ w) t z = let s = unjoin (one (this c)) z in s.whole ∙ rw (one-is s.of-front, word-is w s.back s.of-back)

-- so a word is spelled by its own bytes
word-spells : (w : List ℕ) → Spells (bytes w) (squeezed w)
word-spells w t z = ap squeezed (word-is w t z)

-- one form and then another spell what the two spell
in_two : {f g : Form} {t : List ℕ} (s : Split f g t) → squeezed t ≡ squeezed s.front ++ squeezed s.back
in_two s = ap squeezed s.whole ∙ squeezed-append s.front s.back

spells_then : (f : Form) {g : Form} {a b : List ℕ} → Spells f a → Spells g b → Spells (joined f g) (a ++ b)
spells_then f x y t z = let s = unjoin f z in in_two s ∙ rw (x s.front s.of-front, y s.back s.of-back)

-- ---- texts that end alike

-- without its white space the text ends in w
record Ends (w t : List ℕ) : Type 0 where
  front : List ℕ
  ends : squeezed t ≡ front ++ w

-- each text of the form does
abbrev EndsIn : List ℕ → Form → Type 0
EndsIn w f = (t : List ℕ) → Of f t → Ends w t

-- a text ends as its second part does
behind : {w : List ℕ} (f : Form) {g : Form} → EndsIn w g → EndsIn w (joined f g)
behind {w} f h t z =
    let s = unjoin f z in
    let r = h s.back s.of-back in
    record {
      front = squeezed s.front ++ r.front;
      ends = in_two s ∙ rw r.ends (sym (append_assoc (squeezed s.front) r.front w));
    }

-- an element ends in `>`
element-ends : (n : String) (a inside : Form) → EndsIn (62 ∷ []) (element n a inside)
unfolding squeezed keep is_of ascii
element-ends n a inside =
    behind (text "<") (behind (text n) (behind a (behind gap (behind (text ">") (behind gap (behind inside
    (behind (text "</") (behind (text n) (behind gap last)))))))))
  where
    last : EndsIn (62 ∷ []) (text ">" ▸ gap)
    last t z = record { front = []; ends = spells_then (text ">") (word-spells (ascii ">")) gap-spells t z }

-- so do any number of elements behind a `>`
rows_end : {f : Form} → EndsIn (62 ∷ []) f → (t : List ℕ) → Of (many f) t → Ends (62 ∷ []) (62 ∷ t)
unfolding squeezed keep is_of
rows_end h t no_more = record { front = []; ends = refl }
rows_end h t (one_more u v e x y) =
    let r = h u x in
    let q = rows_end h v y in
    record {
      front = 62 ∷ r.front ++ q.front;
      ends =
          ap (λ (a : List ℕ). squeezed (62 ∷ a)) e
          ∙ squeezed-append (62 ∷ u) v
          ∙ ap {B = List ℕ} (λ a. 62 ∷ a)
          (ap (λ (a : List ℕ). a ++ squeezed v) r.ends
          ∙ append_assoc r.front (62 ∷ []) (squeezed v)
          ∙ ap (λ (a : List ℕ). r.front ++ a) q.ends
          ∙ sym (append_assoc r.front q.front (62 ∷ [])));
    }

-- and what stands behind them comes last
then-ends : {w : List ℕ} (f : Form) {g : Form} → EndsIn (62 ∷ []) f → Spells g w → EndsIn (62 ∷ w) (text ">" ▸ gap ▸ many f ▸ g)
unfolding squeezed keep is_of ascii
then-ends {w} f h x t z =
    let s = unjoin (text ">") z in
    let r = unjoin gap s.of-back in
    let q = unjoin (many f) r.of-back in
    let rows = rows_end h q.front q.of-front in
    record {
      front = rows.front;
      ends =
          in_two s
          ∙ rw (
            word-spells (ascii ">") s.front s.of-front,
            in_two r,
            gap-spells r.front r.of-front,
            in_two q,
            x q.back q.of-back,
          )
          (ap (λ (a : List ℕ). a ++ w) rows.ends ∙ append_assoc rows.front (62 ∷ []) w);
    }

-- ---- the set

-- the spelling of the end tag
abbrev set_end : List ℕ
set_end = ascii "</MSoDPolicySet>"

set-end-spells : Spells (text "</" ▸ text "MSoDPolicySet" ▸ gap ▸ text ">" ▸ gap) set_end
unfolding squeezed keep is_of ascii
set-end-spells =
    spells_then (text "</") (word-spells (ascii "</")) (spells_then (text "MSoDPolicySet") (word-spells (ascii "MSoDPolicySet"))
    (spells_then gap gap-spells (spells_then (text ">") (word-spells (ascii ">")) gap-spells)))

-- a rule ends in `>`
policy-ends : EndsIn (62 ∷ []) policy
policy-ends = element-ends "MSoDPolicy" _ _

-- a set ends in the `>` of another tag and its own end tag
set-ends : EndsIn (62 ∷ set_end) set
set-ends =
    behind gap (behind (text "<") (behind (text "MSoDPolicySet") (behind blank (behind gap
    (then-ends policy policy-ends set-end-spells)))))

-- ---- tags

-- at least one piece ends where a `>` stands, and the pieces behind it are those of what stands behind it
record Pieces (t rest : List ℕ) : Type 0 where
  head : List ℕ
  tail : List (List ℕ)
  pieces : ended 62 t ≡ head ∷ tail ++ ended 62 rest

pieces-behind : (u rest : List ℕ) → Pieces (u ++ 62 ∷ rest) rest
unfolding ended on_first
pieces-behind [] rest = record { head = []; tail = []; pieces = refl }
pieces-behind (b ∷ u) rest = go (eqb b 62) refl (pieces-behind u rest)
  where
    go : (x : Bool) → eqb b 62 ≡ x → Pieces (u ++ 62 ∷ rest) rest → Pieces (b ∷ u ++ 62 ∷ rest) rest
    go true e p = record { head = []; tail = p.head ∷ p.tail; pieces = rw (e, p.pieces) refl }
    go false e p = record { head = b ∷ p.head; tail = p.tail; pieces = rw (e, p.pieces) refl }

-- the set's end tag by itself
end-tag : map tag_of (map (parted 34) (ended 62 set_end)) ≡ end_set ∷ []
unfolding ascii ended parted on_first tag_of saying rows same_list
end-tag = refl

-- the last tag of a set is its end tag
pub last-tag : (t : List ℕ) → is_of_form set t ≡ true → (ts : List Tag) × (good_tags t ≡ ts ++ end_set ∷ [])
unfolding good_tags tags_in
last-tag t e =
    let s = set-ends t (is-of-form set t e) in
    let p = pieces-behind s.front set_end in
    let ps : List (List ℕ) = p.head ∷ p.tail in (
      map tag_of (map (parted 34) ps),
      rw (reach-whole set t e, take-length t, s.ends, p.pieces)
          (ap (map tag_of) (map-append (parted 34) ps (ended 62 set_end))
          ∙ map-append tag_of (map (parted 34) ps) (map (parted 34) (ended 62 set_end))
          ∙ ap (λ (a : List Tag). map tag_of (map (parted 34) ps) ++ a) end-tag),
    )
