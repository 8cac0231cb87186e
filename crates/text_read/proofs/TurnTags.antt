-- A tag that was refused, and one that was taken.
-- Assumes nothing.
use Prim.Native.Nat.{ℕ}
use mathlib.Core.Path.{◌≡◌, sym, ◌∙◌}
use mathlib.Core.Bool.{Bool, true, false, not}
use mathlib.Core.List.{List}
use mathlib.Core.Option.{none, some}
use borrow.Author.Tests.{not-true, not-false}
use Rattle.std.specs.Prelude.{Ok, Err}
use Rattle.words.specs.First.{unless}
use Rattle.word_laws.proofs.First.{unless-passes, unless-fails}
use Rattle.format.specs.Code.{text_refusal_of}
use Rattle.format.specs.Rule.{Privilege, full_privilege}
use Rattle.format.specs.declared.answer.TextRefusal.{TextRefusal}
use Rattle.format.specs.declared.answer.TextRefusal.TheVariants.{NotListed}
use Rattle.xml.specs.Names.{good_names}
use Rattle.xml.specs.Tags.{Tag}
use Rattle.xml.specs.Read.{Reading, tag_fault, after_tag, privilege_fault, privilege_of}
use Rattle.text_read.specs.Stands.{Stands, Turned}
use Rattle.text_read.specs.declared.sheet.Sheet.{Sheet}
use Rattle.text_read.proofs.TurnLooks.{privilege-tests}

module _ {t l second : List ℕ} {room : ℕ} {s : Reading} {tag : Tag} {sheet : Sheet} where
  -- a fault with its refusal
  pub refused : (f : TextRefusal) → tag_fault l second room s tag ≡ some (text_refusal_of f) → Turned t l second room s tag sheet (Err f)
  refused f e = record { fault = sym e; now = tt }

  -- no fault
  pub taken : tag_fault l second room s tag ≡ none → Stands t (after_tag l s tag) sheet → Turned t l second room s tag sheet (Ok tt)
  taken e h = record { fault = sym e; now = h }

  -- a tag with one test
  module _ (f : TextRefusal) (b : Bool) (is : tag_fault l second room s tag ≡ unless b (text_refusal_of f)) where
    pub refused-by : b ≡ false → Turned t l second room s tag sheet (Err f)
    refused-by h = refused f (is ∙ unless-fails (text_refusal_of f) h)

    pub taken-by : b ≡ true → Stands t (after_tag l s tag) sheet → Turned t l second room s tag sheet (Ok tt)
    taken-by h stands = taken (is ∙ unless-passes (text_refusal_of f) h) stands

  -- a tag whose test is a privilege's, that was looked up and found full or not
  module _
      (o u : List ℕ) (is : tag_fault l second room s tag ≡ privilege_fault l o u) (good : good_names l ≡ true) (p : Privilege) (found : p ≡ privilege_of l o u)
      (full : Bool) (tests : full ≡ full_privilege p) where
    pub unlisted : not full ≡ true → Turned t l second room s tag sheet (Err NotListed)
    unlisted h = refused-by NotListed full (is ∙ privilege-tests l good o u p found full tests) (not-true full h)

    pub listed : not full ≡ false → Stands t (after_tag l s tag) sheet → Turned t l second room s tag sheet (Ok tt)
    listed h stands = taken-by NotListed full (is ∙ privilege-tests l good o u p found full tests) (not-false full h) stands
