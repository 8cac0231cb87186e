-- Words that are compared one after the other.
-- Assumes nothing.
use Prim.Native.Nat.{ℕ, ◌+◌, ◌*◌, ◌≤◌, ◌<◌}
use mathlib.Core.Path.{◌≡◌, refl, sym, ap, ap₂, ◌∙◌}
use mathlib.Core.Bool.{Bool, true, false, ◌&&◌, false≢true}
use mathlib.Core.List.{List}
use borrow.Author.Tests.{eqb-true, eq-eqb}
use lib.ListN.{length}
use lib.Dec.{eqb}
use Rattle.words.specs.Lists.{same_list}
use Rattle.words.specs.Bytes.{u32_at, bytes4, part}
use Rattle.word_laws.proofs.Same.{same_refl, same-eq, same-append}
use Rattle.word_laws.proofs.Every.{Every}
use Rattle.word_laws.proofs.Bytes.{Byte, read4, u32_at-below}
use Rattle.table_write.proofs.Copied.{word_more, part_length}

-- the bytes of two numbers are the same where the numbers are
word_same : (u v : ℕ) → u < 4294967296 → v < 4294967296 → same_list (bytes4 u) (bytes4 v) ≡ eqb u v
word_same u v fit fit' = go (eqb u v) refl (same_list (bytes4 u) (bytes4 v)) refl
  where
    go : (b : Bool) → eqb u v ≡ b → (c : Bool) → same_list (bytes4 u) (bytes4 v) ≡ c → c ≡ b
    go true e c is = sym is ∙ ap (same_list (bytes4 u)) (ap bytes4 (sym (eqb-true u v e))) ∙ same_refl (bytes4 u)
    go false e true is =
        let same : u ≡ v = sym (read4 u fit) ∙ ap (λ (l : List ℕ). u32_at l 0) (same-eq (bytes4 u) (bytes4 v) is) ∙ read4 v fit' in
        absurd (false≢true (sym e ∙ eq-eqb u v same))
    go false e false is = refl

-- one word more
pub same_more : (s t : List ℕ) → Every Byte s → Every Byte t → (at from i : ℕ) → at + 4 * i + 4 ≤ length s → from + 4 * i + 4 ≤ length t
    → {x : Bool} {u v : ℕ} → x ≡ same_list (part s at (4 * i)) (part t from (4 * i)) → u ≡ u32_at s (at + 4 * i) → v ≡ u32_at t (from + 4 * i)
    → x && eqb u v ≡ same_list (part s at (4 * (i + 1))) (part t from (4 * (i + 1)))
same_more s t bytes bytes' at from i inside inside' {x} {u} {v} is eu ev =
    let u' = u32_at s (at + 4 * i) in
    let v' = u32_at t (from + 4 * i) in
    ap₂ {C = Bool} ◌&&◌ is (ap₂ {C = Bool} eqb eu ev ∙ sym (word_same u' v' (u32_at-below s bytes (at + 4 * i) inside) (u32_at-below t bytes' (from + 4 * i) inside')))
    ∙ sym (same-append (part s at (4 * i)) (part t from (4 * i)) (bytes4 u') (bytes4 v') (part_length s bytes at i inside ∙ sym (part_length t bytes' from i inside')))
    ∙ ap₂ {C = Bool} same_list (word_more s bytes at i inside) (word_more t bytes' from i inside')
