-- The name of a good entry: 1 to 60 bytes of names.
-- Assumes nothing.
use Prim.Native.Nat.{ℕ, ◌+◌, ◌*◌, ◌≤◌, ◌<◌}
use native.Mathlib.Omega.{arith}
use mathlib.Core.Path.{◌≡◌, subst}
use mathlib.Core.Bool.{true}
use mathlib.Core.List.{List}
use lib.ListN.{length}
use borrow.Author.Tests.{lt-ltb}
use Rattle.words.specs.Bytes.{byte_at}
use Rattle.word_laws.proofs.Tests.{all_below-at}
use Rattle.word_laws.proofs.Every.{Every, every-tab}
use Rattle.word_laws.proofs.Parts.{part_length}
use Rattle.forms.specs.Form.{name_byte}
use Rattle.xml.specs.Names.{most_name_bytes, names, length_of, name_in}
use Rattle.names.specs.Parts.{good_byte_at}
use Rattle.names.proofs.SameParts.{part-by-index}
use Rattle.names.proofs.GoodEntries.{GoodEntry}

-- 1 to 60 bytes, each of names
pub record GoodText (w : List ℕ) : Type 0 where
  pub length_from : 1 ≤ length w
  pub length_to : length w ≤ most_name_bytes
  pub of_names : Every (λ b. name_byte b ≡ true) w

module _ (l : List ℕ) (i : ℕ) (h : i < names l) (good : GoodEntry l i) where
  -- a name is as long as its entry says
  pub text-length : length (name_in l i).bytes ≡ length_of l i
  unfolding name_in
  text-length = part_length l (64 * i + 4) (length_of l i) (omega (arith, good.length_to))

  -- its bytes are bytes of names
  text-bytes : Every (λ b. name_byte b ≡ true) (name_in l i).bytes
  unfolding name_in
  text-bytes =
      subst (Every (λ b. name_byte b ≡ true)) (part-by-index l (64 * i + 4) (length_of l i) (omega (arith, good.length_to)))
      (every-tab (λ j. byte_at l (64 * i + 4 + j)) 0 (length_of l i) (λ j lo hi. at_byte j (omega arith)))
    where
      at_byte : (j : ℕ) → j < length_of l i → name_byte (byte_at l (64 * i + 4 + j)) ≡ true
      at_byte j b =
          let e = all_below-at 60 j (good_byte_at l i) good.bytes (omega (arith, good.length_to)) in
          rw (lt-ltb j (length_of l i) b) at e

  -- so the name is good
  pub good-text : GoodText (name_in l i).bytes
  good-text = record { length_from = rw text-length good.length_from; length_to = rw text-length good.length_to; of_names = text-bytes }
