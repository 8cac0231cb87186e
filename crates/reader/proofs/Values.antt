-- An attribute as its opening, its value and the closing quote.
-- Assumes nothing.
use Prim.Native.Nat.{ℕ, ◌<◌}
use Prim.Native.String.{String}
use mathlib.Core.Path.{◌≡◌, refl, sym, subst}
use mathlib.Core.Bool.{false}
use mathlib.Core.List.{List}
use lib.ListN.{get_or}
use Rattle.std.specs.Prelude.{Result, Ok, Err}
use Rattle.forms.specs.Form.{ascii, Kind, is_of, Form, hopeless}
use Rattle.forms.specs.Code.{kind_of}
use Rattle.forms.specs.declared.kind.ByteKind.{ByteKind}
use Rattle.forms.specs.declared.kind.ByteKind.TheVariants.{Space, Digit, Name}
use Rattle.forms.proofs.Laws.{joined-assoc}
use Rattle.xml.specs.Grammar.{◌▸◌, text, gap, attribute}
use Rattle.reader.specs.Words.{word_count, named, word}
use Rattle.reader.specs.Parts.{opened}
use Rattle.reader.specs.Scan.{Scans}
use Rattle.reader.specs.declared.misfit.Misfit.{Misfit}
use Rattle.reader.proofs.Computed.{computed}
use Rattle.reader.proofs.Letters.{word-starts}
use Rattle.reader.proofs.Steps.{Apart}
use Rattle.reader.proofs.Pieces.{hope-then, word-hope, word-apart, scans-then, scans-stops}

-- a quote is a byte of none of the kinds
pub quote-apart : (k : ByteKind) → is_of (kind_of k) 34 ≡ false
unfolding computed
quote-apart Space = refl
quote-apart Digit = refl
quote-apart Name = refl

module _ (n : String) (v : Form) where
  -- no brackets are needed
  valued : opened n ▸ v ▸ text "\"" ≡ attribute n v
  unfolding computed
  valued = joined-assoc (text n) (gap ▸ text "=" ▸ gap ▸ text "\"") (v ▸ text "\"")

  module _ (h : hopeless v ≡ false) where
    value-hope : hopeless (v ▸ text "\"") ≡ false
    unfolding computed
    value-hope = hope-then v (text "\"") h refl

    -- a value that may be has an attribute that may be
    pub attribute-hope : hopeless (attribute n v) ≡ false
    unfolding computed
    attribute-hope = hope-then (text n) (gap ▸ text "=" ▸ gap ▸ text "\"" ▸ v ▸ text "\"") (word-hope (ascii n)) value-hope

    module _ {t : List ℕ} {a : ℕ} where
      -- the opening took, and then the value and the quote took or stopped
      pub opened-valued : {b : ℕ} {r : Result ℕ Misfit} → Scans (opened n) t a (Ok b) → Scans (v ▸ text "\"") t b r → Scans (attribute n v) t a r
      opened-valued {r = r} p q = subst (λ f. Scans f t a r) valued (scans-then (opened n) (v ▸ text "\"") value-hope p q)

      -- the opening stopped
      pub stopped-valued : {m : Misfit} → Scans (opened n) t a (Err m) → Scans (attribute n v) t a (Err m)
      stopped-valued {m = m} p = subst (λ f. Scans f t a (Err m)) valued (scans-stops (opened n) (v ▸ text "\"") value-hope p)

-- an attribute begins with no byte of a kind that its name's first byte is not of
pub attribute-apart : (q : Kind) (w : ℕ) (v k : Form) → w < word_count → is_of q (get_or (word w) 0 0) ≡ false → Apart q (attribute (named w) v ▸ k)
attribute-apart q w v k l e =
    subst (Apart q) (sym (joined-assoc (text (named w)) (gap ▸ text "=" ▸ gap ▸ text "\"" ▸ v ▸ text "\"") k))
    (word-apart q (word w) ((gap ▸ text "=" ▸ gap ▸ text "\"" ▸ v ▸ text "\"") ▸ k) (word-starts w l) e)
