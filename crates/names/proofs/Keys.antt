-- Kind and length of an entry as one field of 2 bytes: what it says of the entry's name.
-- Assumes nothing.
use Prim.Native.Nat.{ℕ, ◌+◌, ◌*◌, ◌<◌}
use native.Mathlib.Omega.{arith}
use mathlib.Core.Path.{◌≡◌, refl}
use mathlib.Core.Bool.{Bool, true, false, ◌&&◌}
use mathlib.Core.List.{List}
use lib.ListN.{length}
use lib.Dec.{eqb}
use borrow.Author.Tests.{eq-eqb, eqb-true}
use Rattle.words.specs.Lists.{same_list}
use Rattle.words.specs.Bytes.{byte_at, u16_at, part}
use Rattle.word_laws.proofs.Parts.{part_length}
use Rattle.xml.specs.Names.{entry_bytes, bytes_at, names, length_of, name_in}
use Rattle.names.specs.Parts.{is_name}
use Rattle.names.proofs.SameParts.{other_length}
use Rattle.names.proofs.GoodEntries.{GoodEntry}

-- beside a name to be found, of kind k
module _ (l : List ℕ) (i : ℕ) (h : i < names l) (good : GoodEntry l i) (k : ℕ) (small : k < 256) (w : List ℕ) where
  -- another field, another name
  pub other_key : (u16_at l (entry_bytes * i) ≡ k + 256 * length w → ⊥) → is_name l k w i ≡ false
  unfolding name_in
  other_key d = go (eqb (byte_at l (64 * i)) k) refl
    where
      go : (b : Bool) → eqb (byte_at l (64 * i)) k ≡ b → b && same_list (part l (64 * i + 4) (length_of l i)) w ≡ false
      go true e =
          let same = eqb-true (byte_at l (64 * i)) k e in
          let long = part_length l (64 * i + 4) (length_of l i) (omega (arith, good.length_to)) in
          other_length (part l (64 * i + 4) (length_of l i)) w (λ m. d (omega arith))
      go false e = refl

  -- the same field: the bytes decide
  pub same_key : u16_at l (entry_bytes * i) ≡ k + 256 * length w
      → is_name l k w i ≡ same_list (part l (entry_bytes * i + bytes_at) (length w)) w
  unfolding name_in
  same_key e =
      let kind : byte_at l (64 * i) ≡ k = omega (arith, good.kind_to) in
      let long : length_of l i ≡ length w = omega (arith, good.kind_to) in
      rw (eq-eqb (byte_at l (64 * i)) k kind, long)
