-- A context's levels: what the next byte tells at each place.
-- Assumes nothing.
use Prim.Native.Nat.{ℕ}
use mathlib.Core.Path.{◌≡◌, refl, sym, ◌∙◌}
use mathlib.Core.Bool.{Bool, true, false, true≢false}
use borrow.Author.Tests.{ne_eqb}
use lib.Dec.{eqb}
use Rattle.forms.specs.Form.{ascii, Kind, this, space, of_name, is_of, Form, may_end, joined, bytes, is_nothing, either, left}
use Rattle.forms.proofs.Laws.{either-nothing}
use Rattle.xml.specs.Grammar.{◌▸◌, text, gap, name, level, context}
use Rattle.reader.specs.Parts.{next_level, after_level, level_value}
use Rattle.reader.proofs.Computed.{computed}
use Rattle.reader.proofs.Steps.{Apart}

-- ---- kinds of bytes

-- a byte of a kind is none that is not of the kind
pub other_byte : (q : Kind) (b c : ℕ) → is_of q b ≡ true → is_of q c ≡ false → eqb b c ≡ false
other_byte q b c e d = ne_eqb b c (λ s. true≢false (sym e ∙ rw s d))

other-this : (b c : ℕ) → (b ≡ c → ⊥) → is_of (this c) b ≡ false
unfolding is_of
other-this b c d = ne_eqb b c d

comma-not-space : (b : ℕ) → is_of space b ≡ true → is_of (this 44) b ≡ false
unfolding is_of
comma-not-space b e = other_byte space b 44 e refl

name-not-space : (b : ℕ) → is_of of_name b ≡ true → is_of space b ≡ false
unfolding computed
name-not-space b e =
    rw (other_byte of_name b 32 e refl, other_byte of_name b 9 e refl, other_byte of_name b 13 e refl, other_byte of_name b 10 e refl)

space-not-name : (b : ℕ) → is_of space b ≡ true → is_of of_name b ≡ false
space-not-name b e = go (is_of of_name b) refl
  where
    go : (x : Bool) → is_of of_name b ≡ x → x ≡ false
    go true d = sym e ∙ name-not-space b d
    go false d = refl

-- ---- what does not begin with white space, or with a byte of a name

pub level-apart : (k : Form) → Apart space ((level ▸ after_level) ▸ k)
unfolding computed
level-apart k b e = rw (space-not-name b e)

pub value-apart : (k : Form) → Apart space ((level_value ▸ after_level) ▸ k)
unfolding computed
value-apart k b e = rw (space-not-name b e, other_byte space b 42 e refl, other_byte space b 33 e refl)

pub sign-apart : (k : Form) → Apart of_name ((gap ▸ text "=") ▸ k)
unfolding computed
sign-apart k b e = rw (name-not-space b e, other_byte of_name b 61 e refl)

pub after-apart : (k : Form) → Apart of_name (after_level ▸ k)
unfolding computed
after-apart k b e = rw (name-not-space b e, other_byte of_name b 44 e refl, other_byte of_name b 34 e refl)

-- ---- at a context's first byte

module _ (k : Form) where
  -- the closing quote
  pub context-ends : left ((context ▸ text "\"") ▸ k) 34 ≡ k
  unfolding computed
  context-ends = either-nothing k

  -- another is a level's
  pub context-begins : (b : ℕ) → (b ≡ 34 → ⊥) → left ((context ▸ text "\"") ▸ k) b ≡ left ((level ▸ after_level) ▸ k) b
  unfolding ascii may_end joined bytes is_nothing either left
  context-begins b d = go (is_of of_name b) refl
    where
      go : (x : Bool) → is_of of_name b ≡ x → left ((context ▸ text "\"") ▸ k) b ≡ left ((level ▸ after_level) ▸ k) b
      go true e = rw (other-this b 34 d, e)
      go false e = rw (other-this b 34 d, e)

  -- ---- behind a level

  pub levels-end : left (after_level ▸ k) 34 ≡ k
  unfolding computed
  levels-end = either-nothing k

  pub levels-go-on : (b : ℕ) → (b ≡ 34 → ⊥) → left (after_level ▸ k) b ≡ left ((next_level ▸ after_level) ▸ k) b
  unfolding ascii may_end joined bytes is_nothing either left
  levels-go-on b d = go (is_of space b) refl (is_of (this 44) b) refl
    where
      go : (x : Bool) → is_of space b ≡ x → (y : Bool) → is_of (this 44) b ≡ y → left (after_level ▸ k) b ≡ left ((next_level ▸ after_level) ▸ k) b
      go true e y f = rw (other-this b 34 d, comma-not-space b e, e)
      go false e true f = rw (other-this b 34 d, e, f)
      go false e false f = rw (other-this b 34 d, e, f)

  -- ---- at a value

  pub value-star : left ((level_value ▸ after_level) ▸ k) 42 ≡ after_level ▸ k
  unfolding computed
  value-star = refl

  pub value-bang : left ((level_value ▸ after_level) ▸ k) 33 ≡ after_level ▸ k
  unfolding computed
  value-bang = refl

  pub value-name : (b : ℕ) → (b ≡ 42 → ⊥) → (b ≡ 33 → ⊥) → left ((level_value ▸ after_level) ▸ k) b ≡ left ((name ▸ after_level) ▸ k) b
  unfolding ascii may_end joined bytes is_nothing either left
  value-name b d e = go (is_of of_name b) refl
    where
      go : (x : Bool) → is_of of_name b ≡ x → left ((level_value ▸ after_level) ▸ k) b ≡ left ((name ▸ after_level) ▸ k) b
      go true f = rw (other-this b 42 d, other-this b 33 e, f)
      go false f = rw (other-this b 42 d, other-this b 33 e, f)
