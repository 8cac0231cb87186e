-- A text leads from one reader state to another, and its tags are these: how that is put together from tags.
-- Assumes nothing.
use Prim.Native.Nat.{ℕ, zero, suc, ◌+◌, ◌≤◌, ◌<◌}
use native.Mathlib.Omega.{arith}
use mathlib.Core.Path.{◌≡◌, refl, sym, ◌∙◌}
use mathlib.Core.List.{List, [], ◌∷◌, ◌++◌, map, flatten, append_assoc}
use Rattle.words.specs.Lists.{tab}
use Rattle.word_laws.proofs.Every.{Every}
use Rattle.forms.specs.Form.{lefts}
use Rattle.forms.proofs.Laws.{lefts-++}
use Rattle.xml.specs.Grammar.{◌▸◌}
use Rattle.xml.specs.Tags.{squeezed, tags_in, Tag, tag_of}
use Rattle.reader.specs.Table.{ahead, rest}
use Rattle.reader.specs.Words.{word}
use Rattle.xml_laws.proofs.TextPieces.{quoted, closed, Plain, tag-first}
use Rattle.xml_laws.proofs.TextRests.{Takes}

pub record Says (s : ℕ) (t : List ℕ) (ts : List Tag) (s' : ℕ) : Type 0 where
  pub form : lefts (ahead s) t ≡ ahead s'
  pub tags : (u : List ℕ) → map tag_of (tags_in (t ++ u)) ≡ ts ++ map tag_of (tags_in u)

-- no text says nothing
pub says_none : (s : ℕ) → Says s [] [] s
unfolding lefts
says_none s = record { form = refl; tags = λ u. refl }

-- one text behind another says the one and then the other
pub says_then : {s s' s'' : ℕ} {t t' : List ℕ} {ts ts' : List Tag} → Says s t ts s' → Says s' t' ts' s'' → Says s (t ++ t') (ts ++ ts') s''
says_then {s} {t} {t'} {ts} {ts'} p q =
    record {
      form = lefts-++ (ahead s) t t' ∙ rw p.form q.form;
      tags = λ u. rw (append_assoc t t' u, p.tags (t' ++ u), q.tags u) (sym (append_assoc ts ts' (map tag_of (tags_in u))));
    }

-- the same text, the same tags
pub says_same : {s s' : ℕ} {t t' : List ℕ} {ts ts' : List Tag} → t ≡ t' → ts ≡ ts' → Says s t' ts' s' → Says s t ts s'
says_same e f p = rw (e, f) p

-- texts in a row, each from such a state to s', which is one too, and then what may follow in such a state
pub says_row : (Here : ℕ → Type 0) {s' s'' : ℕ} {t : List ℕ} {ts : List Tag} (f : ℕ → List ℕ) (g : ℕ → List Tag) (k n : ℕ) → Here s'
    → ((i s : ℕ) → k ≤ i → i < k + n → Here s → Says s (f i) (g i) s') → ((s : ℕ) → Here s → Says s t ts s'')
    → (s : ℕ) → Here s → Says s (flatten (tab f k n) ++ t) (flatten (tab g k n) ++ ts) s''
unfolding flatten tab
says_row Here f g k zero stays each end s here = end s here
says_row Here {s'} {t} {ts} f g k (suc n) stays each end s here =
    says_same (append_assoc (f k) (flatten (tab f (suc k) n)) t) (append_assoc (g k) (flatten (tab g (suc k) n)) ts)
    (says_then (each k s (omega arith) (omega arith) here)
    (says_row Here f g (suc k) n stays (λ i s l h. each i s (omega arith) (omega arith)) end s' stays))

-- what stands in front of the first piece stands in front of the whole
quoted-front : (e w p : List ℕ) (qs : List (List ℕ)) → quoted e (w ++ p) qs ≡ w ++ quoted e p qs
unfolding quoted
quoted-front e w p [] = append_assoc w p e
quoted-front e w p (q ∷ qs) = append_assoc w p (34 ∷ quoted e q qs)

-- after the word that tag c begins with, in state s, the rest of the tag and then state s' are ahead
abbrev pub Opens : ℕ → ℕ → ℕ → Type 0
Opens s c s' = lefts (ahead s) (word c) ≡ rest c ▸ ahead s'

-- so a tag with this rest leads to s', and says what its pieces say
pub says-tag : {s s' : ℕ} {t : Tag} (c : ℕ) (p : List ℕ) (qs : List (List ℕ)) → Opens s c s' → Takes (rest c) (closed p qs)
    → Plain (squeezed (word c ++ p)) → Every Plain (map squeezed qs) → tag_of (map squeezed ((word c ++ p) ∷ qs)) ≡ t
    → Says s (closed (word c ++ p) qs) (t ∷ []) s'
says-tag {s} {s'} c p qs o r h hs e =
    record {
      form = rw (quoted-front (62 ∷ []) (word c) p qs) (lefts-++ (ahead s) (word c) (closed p qs) ∙ rw o (r (ahead s')));
      tags = λ u. rw (tag-first (word c ++ p) qs u h hs, e);
    }
