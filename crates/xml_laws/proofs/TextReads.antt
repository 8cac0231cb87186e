-- Going through tags without fault: from what has been read before them to what has been read then.
-- Assumes nothing.
use Prim.Native.Nat.{ℕ, zero, suc, ◌+◌, ◌≤◌, ◌<◌}
use native.Mathlib.Nat.{zero-add, add-zero}
use native.Mathlib.Omega.{arith}
use mathlib.Core.Path.{◌≡◌, refl, sym, subst, ◌∙◌}
use mathlib.Core.List.{List, [], ◌∷◌, ◌++◌, flatten}
use mathlib.Core.Option.{none}
use Rattle.words.specs.Lists.{tab}
use Rattle.word_laws.proofs.First.{none_first, none-second, or_else-none}
use Rattle.word_laws.proofs.Lists.{tab-more}
use Rattle.xml.specs.Tags.{Tag}
use Rattle.xml.specs.Read.{Reading, after_tag, tag_fault, tags_fault, after_tags}

module _ (l second : List ℕ) (room : ℕ) where
  -- from one state of reading these tags lead to another, without fault
  pub record Reads (s : Reading) (ts : List Tag) (s' : Reading) : Type 0 where
    pub fault : tags_fault l second room s ts ≡ none
    pub after : after_tags l s ts ≡ s'

  pub reads_none : (s : Reading) → Reads s [] s
  unfolding tags_fault after_tags
  reads_none s = record { fault = refl; after = refl }

  -- a tag, and those behind it
  pub reads-tag : (s : Reading) (t : Tag) {ts : List Tag} {s' s'' : Reading} → tag_fault l second room s t ≡ none → after_tag l s t ≡ s' → Reads s' ts s''
      → Reads s (t ∷ ts) s''
  unfolding tags_fault after_tags
  reads-tag s t h e p = record { fault = or_else-none h (rw e p.fault); after = rw e p.after }

  -- some tags, and those behind them
  pub reads_then : {s s' s'' : Reading} {ts ts' : List Tag} → Reads s ts s' → Reads s' ts' s'' → Reads s (ts ++ ts') s''
  unfolding tags_fault after_tags
  reads_then {s} {ts = []} p q = rw p.after q
  reads_then {s} {s'} {ts = t ∷ ts} p q =
      let rest : Reads (after_tag l s t) ts s' = record { fault = none-second _ _ p.fault; after = p.after } in
      reads-tag s t (none_first _ _ p.fault) refl (reads_then {s = after_tag l s t} {ts = ts} rest q)

  -- tags in a row, each from the state of its number to the next
  row_from : (state : ℕ → Reading) (g : ℕ → List Tag) (k n : ℕ) → ((i : ℕ) → k ≤ i → i < k + n → Reads (state i) (g i) (state (suc i)))
      → Reads (state k) (flatten (tab g k n)) (state (k + n))
  unfolding flatten tab
  row_from state g k zero each = rw (add-zero k) (reads_none (state k))
  row_from state g k (suc n) each =
      let e : k + suc n ≡ suc k + n = omega arith in
      rw e (reads_then (each k (omega arith) (omega arith)) (row_from state g (suc k) n (λ i lo hi. each i (omega arith) (omega arith))))

  pub reads-row : (state : ℕ → Reading) (g : ℕ → List Tag) (n : ℕ) → ((i : ℕ) → i < n → Reads (state i) (g i) (state (suc i)))
      → Reads (state 0) (flatten (tab g 0 n)) (state n)
  reads-row state g n each =
      subst (λ (j : ℕ). Reads (state 0) (flatten (tab g 0 n)) (state j)) (zero-add n) (row_from state g 0 n (λ i lo hi. each i (omega arith)))

-- a row that is made by index, with one more at its end
pub tab-grows : {A : Type 0} (f : ℕ → A) (n : ℕ) → tab f 0 n ++ f n ∷ [] ≡ tab f 0 (suc n)
tab-grows f n = sym (tab-more f 0 n ∙ rw (zero-add n))
