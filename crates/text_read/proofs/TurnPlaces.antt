-- A privilege in its place: what its tag tests and what it leaves.
-- Assumes nothing.
use Prim.Native.Nat.{ℕ}
use mathlib.Core.Path.{◌≡◌, refl, sym, subst}
use mathlib.Core.List.{List}
use Rattle.format.specs.Rule.{Privilege}
use Rattle.xml.specs.Read.{Reading, tag_fault, after_tag, privilege_fault, privilege_of}
use Rattle.tags.specs.Code.{privilege_as}
use Rattle.tags.specs.declared.tag.Place.{Place}
use Rattle.tags.specs.declared.tag.Place.TheVariants.{First, Last, Member}
use Rattle.text_read.specs.Stands.{with_privilege, Stands}
use Rattle.text_read.specs.declared.sheet.Sheet.{Sheet}

-- wherever it is, its two names are tested
pub place-fault : (p : Place) (l second : List ℕ) (room : ℕ) (s : Reading) (o u : List ℕ) → tag_fault l second room s (privilege_as p o u) ≡ privilege_fault l o u
unfolding tag_fault
place-fault First l second room s o u = refl
place-fault Last l second room s o u = refl
place-fault Member l second room s o u = refl

-- and it is added
pub place-now :
    (p : Place) (l : List ℕ) (s : Reading) (o u : List ℕ) {t : List ℕ} {sheet : Sheet} → Stands t (with_privilege p s (privilege_of l o u)) sheet
    → Stands t (after_tag l s (privilege_as p o u)) sheet
unfolding after_tag
place-now First l s o u h = h
place-now Last l s o u h = h
place-now Member l s o u h = h

-- a place that is known
pub at_place :
    {p q : Place} → p ≡ q → (s : Reading) (v : Privilege) {t : List ℕ} {sheet : Sheet} → Stands t (with_privilege q s v) sheet
    → Stands t (with_privilege p s v) sheet
at_place is s v {t} {sheet} = subst (λ (y : Place). Stands t (with_privilege y s v) sheet) (sym is)
