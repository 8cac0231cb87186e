-- What writing an image block by block leaves.
-- Assumes nothing.
use Rattle.std.specs.Prelude.{ℕ, ◌+◌}
use mathlib.Core.List.{List, ◌++◌, flatten}
use Rattle.words.specs.Lists.{tab}
use Rattle.format.specs.Block.{block}
use Rattle.xml.specs.Blocks.{numbered_anew, permission_blocks}

-- n blocks of an image, from block `first` on, as those from block `at` on of `total` blocks
unfoldable pub blocks_anew : ℕ → ℕ → List ℕ → ℕ → ℕ → List ℕ
blocks_anew total at s first n = flatten (tab (λ i. numbered_anew total (at + i) (block s (first + i))) 0 n)

-- the first n blocks of one image, "followed by the permission blocks alone of a second"
abbrev pub together : List ℕ → ℕ → List ℕ → List (List ℕ)
together s n second = tab (block s) 0 n ++ permission_blocks second
