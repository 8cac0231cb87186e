-- The text that writing makes is of the form, and reading it meets the tags of the rules, in their order, and no others.
-- Assumes nothing.
use Prim.Native.Nat.{ℕ, ◌<◌}
use native.Mathlib.Omega.{arith}
use mathlib.Core.Path.{◌≡◌, refl, sym, ap, ◌∙◌}
use mathlib.Core.Bool.{true}
use mathlib.Core.List.{List, [], map, append-nil}
use lib.ListN.{length}
use lib.Seq.{take_all}
use Rattle.words.specs.Lists.{keep}
use Rattle.forms.specs.Form.{ascii, may_end, joined, bytes, is_of_form, reach}
use Rattle.forms.proofs.Laws.{reach-whole}
use Rattle.format.specs.Policy.{Policy}
use Rattle.xml.specs.Grammar.{set}
use Rattle.xml.specs.Tags.{ended, squeezed, tags_in, tag_of}
use Rattle.xml.specs.Names.{good_names}
use Rattle.xml.specs.Read.{good_tags}
use Rattle.xml.specs.Write.{rules_text}
use Rattle.reader.specs.Table.{inner, ahead}
use Rattle.xml_laws.proofs.TextRuleTags.{rules_tags}
use Rattle.xml_laws.proofs.TextListed.{Writable}
use Rattle.xml_laws.proofs.TextRules.{rules-written}

-- the reader starts with the form of the whole, and may end where its last state may
set-ahead : set ≡ ahead 0
unfolding joined bytes ascii ahead inner
set-ahead = refl

end-ahead : may_end (ahead 7) ≡ true
unfolding may_end ahead
end-ahead = refl

no-tags : map tag_of (tags_in []) ≡ []
unfolding tags_in squeezed keep ended
no-tags = refl

module _ (l : List ℕ) (p : Policy) (good : good_names l ≡ true) (writable : (k : ℕ) → k < p.rules → Writable l (p.rule k)) where
  -- the text is of the form
  pub text-of-form : is_of_form set (rules_text l p) ≡ true
  unfolding is_of_form
  text-of-form = rw (set-ahead, (rules-written l good p writable).form) end-ahead

  -- to its end
  pub text-reached : reach set (rules_text l p) ≡ length (rules_text l p)
  text-reached = reach-whole set (rules_text l p) text-of-form

  -- its tags say the rules
  pub text-tags : map tag_of (tags_in (rules_text l p)) ≡ rules_tags l p
  text-tags =
      ap (λ t. map tag_of (tags_in t)) (sym (append-nil (rules_text l p)))
      ∙ (rules-written l good p writable).tags []
      ∙ rw (no-tags) (append-nil (rules_tags l p))

  -- and those are the tags that reading meets
  pub text-good-tags : good_tags (rules_text l p) ≡ rules_tags l p
  unfolding good_tags
  text-good-tags = rw (text-reached, take_all (length (rules_text l p)) (rules_text l p) (omega arith)) text-tags
