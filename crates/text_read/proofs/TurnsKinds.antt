-- A tag that is of a kind says what that kind says.
-- Assumes nothing.
use Prim.Native.Nat.{ℕ}
use mathlib.Core.Path.{◌≡◌, sym, subst}
use mathlib.Core.List.{List}
use Rattle.std.specs.Prelude.{Result}
use Rattle.format.specs.declared.answer.TextRefusal.{TextRefusal}
use Rattle.xml.specs.Read.{Reading}
use Rattle.tags.specs.Code.{tag_at, TagIn}
use Rattle.tags.specs.declared.tag.Tag.{Tag}
use Rattle.text_read.specs.Stands.{Turned}
use Rattle.text_read.specs.declared.sheet.Sheet.{Sheet}

module _ (t : List ℕ) {tag kind : Tag} (is : tag ≡ kind) where
  -- its values lie in the text
  pub in-kind : TagIn t tag → TagIn t kind
  in-kind = subst (TagIn t) is

  -- and it was taken in where one of the kind was
  pub by_kind : {l second : List ℕ} {room : ℕ} {s : Reading} {sheet : Sheet} {r : Result (Unit {0}) TextRefusal}
      → Turned t l second room s (tag_at t kind) sheet r → Turned t l second room s (tag_at t tag) sheet r
  by_kind {l} {second} {room} {s} {sheet} {r} = subst (λ (k : Tag). Turned t l second room s (tag_at t k) sheet r) (sym is)
