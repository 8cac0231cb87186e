-- The code's table is the table of the definitions, row behind row, each number as a digit: its rule, once for all its entries.
-- Assumes nothing.
use Prim.Native.Nat.{ℕ, ◌+◌, ◌*◌, ◌≤◌, ◌<◌}
use mathlib.Core.Path.{◌≡◌, refl}
use mathlib.Core.Bool.{Bool, true, ◌&&◌}
use mathlib.Core.List.{List, [], ◌∷◌, ◌++◌, map}
use borrow.Author.Tests.{eqb-true, leb-true}
use lib.Dec.{eqb, leb}
use lib.ListN.{get_or}
use Rattle.words.specs.Lists.{all_below}
use Rattle.word_laws.proofs.Tests.{both_first, both-second, all_below-at}
use Rattle.reader.specs.Table.{states, elements, table, next}

unfoldable pub flat : List (List ℕ) → List ℕ
flat [] = []
flat (r ∷ rs) = map (λ n. 48 + n) r ++ flat rs

unfoldable same : ℕ → ℕ → Bool
same s c = eqb (get_or (flat table) (12 * s + c) 0) (48 + next s c) && leb (next s c) 8

all_same : all_below states (λ s. all_below elements (same s)) ≡ true
unfolding all_below same flat table next
all_same = refl

module _ (s c : ℕ) (l : s < states) (k : c < elements) where
  at : same s c ≡ true
  at = all_below-at elements c (same s) (all_below-at states s (λ s. all_below elements (same s)) all_same l) k

  pub cell : get_or (flat table) (12 * s + c) 0 ≡ 48 + next s c
  unfolding same
  cell = eqb-true (get_or (flat table) (12 * s + c) 0) (48 + next s c) (both_first (eqb (get_or (flat table) (12 * s + c) 0) (48 + next s c)) _ at)

  pub cell-fits : next s c ≤ 8
  unfolding same
  cell-fits = leb-true (next s c) 8 (both-second (eqb (get_or (flat table) (12 * s + c) 0) (48 + next s c)) _ at)
