-- The tags taken so far: those that are left say what all say.
-- Assumes nothing.
use Prim.Native.Nat.{ℕ}
use mathlib.Core.Path.{◌≡◌, refl, sym, ◌∙◌}
use mathlib.Core.List.{List, [], ◌∷◌}
use mathlib.Core.Option.{none, some}
use Rattle.words.specs.First.{◌or_else◌}
use Rattle.word_laws.proofs.First.{none-or_else}
use Rattle.format.specs.Code.{text_refusal_of}
use Rattle.format.specs.declared.answer.TextRefusal.{TextRefusal}
use Rattle.std.specs.Prelude.{Ok, Err}
use Rattle.xml.specs.Tags.{Tag}
use Rattle.xml.specs.Read.{Reading, nothing_read, tag_fault, after_tag, tags_fault, after_tags}
use Rattle.text_read.specs.Stands.{Stands, ReadIs}
use Rattle.text_read.specs.declared.sheet.Sheet.{Sheet}

-- of all tags, those of `rest` are left
pub record SoFar (t l second : List ℕ) (room : ℕ) (all rest : List Tag) (sheet : Sheet) : Type 0 where
  pub reading : Reading
  pub stands : Stands t reading sheet
  pub fault : tags_fault l second room nothing_read all ≡ tags_fault l second room reading rest
  pub after : after_tags l nothing_read all ≡ after_tags l reading rest

module _ {t l second : List ℕ} {room : ℕ} {all : List Tag} where
  -- none is taken yet
  pub run-start : {sheet : Sheet} → Stands t nothing_read sheet → SoFar t l second room all all sheet
  run-start stands = record { reading = nothing_read; stands = stands; fault = refl; after = refl }

  -- all are
  pub run_ends : {sheet : Sheet} → SoFar t l second room all [] sheet → ReadIs l second room all sheet (Ok tt)
  unfolding tags_fault after_tags
  run_ends r = record { fault = sym r.fault; rules = rw r.after r.stands.rules; kept = rw r.after r.stands.kept; sized = r.stands.sized }

  -- one more is
  module _ {tag : Tag} {rest : List Tag} {sheet : Sheet} (r : SoFar t l second room all (tag ∷ rest) sheet) where
    next : tags_fault l second room nothing_read all
        ≡ tag_fault l second room r.reading tag or_else tags_fault l second room (after_tag l r.reading tag) rest
    unfolding tags_fault
    next = r.fault

    -- without a fault
    pub run_more : {sheet' : Sheet} → none ≡ tag_fault l second room r.reading tag → Stands t (after_tag l r.reading tag) sheet'
        → SoFar t l second room all rest sheet'
    unfolding after_tags
    run_more good stands =
        record { reading = after_tag l r.reading tag; stands = stands; fault = next ∙ none-or_else _ _ (sym good); after = r.after }

    -- with one, that is the fault of all
    pub run-stops : {sheet' : Sheet} (e : TextRefusal) → some (text_refusal_of e) ≡ tag_fault l second room r.reading tag
        → ReadIs l second room all sheet' (Err e)
    unfolding ◌or_else◌
    run-stops e is = record { fault = sym (next ∙ rw (← is) refl); rules = tt; kept = tt; sized = tt }
