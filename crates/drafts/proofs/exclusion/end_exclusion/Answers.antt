use Prim.Native.Nat.{ℕ, ◌+◌, ◌*◌}
use native.Mathlib.Omega.{arith}
use mathlib.Core.Path.{◌≡◌, refl, sym, ap, ◌∙◌}
use mathlib.Core.Bool.{true}
use mathlib.Core.List.{List}
use lib.ListN.{set}
use Rattle.words.specs.Bytes.{part}
use Rattle.word_laws.proofs.First.{unless-passes, unless-fails}
use Rattle.format.specs.Answer.{refusal}
use Rattle.format.specs.Rule.{exclusion_at, good_exclusion}
use Rattle.xml.specs.Read.{Members, exclusion_of}
use Rattle.table_write.proofs.Over.{part-back}
use Rattle.drafts.specs.Draft.{exclusion_block, MembersFit}
use Rattle.drafts.proofs.GoodExclusion.{read-good, good-image}
use Rattle.drafts.proofs.DraftBlock.{exclusion-stored, exclusion-counted}
use Rattle.drafts.proofs.exclusion.end_exclusion.Goals.{Else-not-exclusion_within}
use Rattle.drafts.proofs.exclusion.end_exclusion.Goals as goal

-- what the check is asked about the block, it answers of the exclusion
asked : (s : Members) {b : List ℕ} → b ≡ exclusion_block s → MembersFit s → good_exclusion (exclusion_at b 0) ≡ good_exclusion (exclusion_of s)
asked s e fits = ap (λ (l : List ℕ). good_exclusion (exclusion_at l 0)) e ∙ read-good s fits

-- past the check, the exclusion is good
passed : (c : Else-not-exclusion_within) (s : Members) → c.args.x.now ≡ exclusion_block s → MembersFit s → good_exclusion (exclusion_of s) ≡ true
passed c s e fits = sym (sym (c.if-not-exclusion_within.false) ∙ c.exclusion_within.ensures ∙ asked s e fits)

pub returns-then-not-exclusion_within : goal.returns-then-not-exclusion_within
returns-then-not-exclusion_within c =
    record {
      fault = λ s e fits. sym (unless-fails (refusal 43 0 0) (sym (asked s e fits) ∙ sym c.exclusion_within.ensures ∙ c.if-not-exclusion_within.true));
      good = tt;
      bad = refl;
    }

pub returns-then-n : goal.returns-then-n
returns-then-n c =
    let a = c.args in
    let was = (goal.at.returns-then-n c).Else-not-exclusion_within in
    record {
      fault = λ s e fits. sym (unless-passes (refusal 43 0 0) (passed was s e fits));
      good =
          λ s ls d e fits ed.
          exclusion-stored ls d (exclusion_of s) a.d.now ed c.counted.result c.counted.ensures c.from.result c.from.ensures (omega arith)
          (part-back (set a.d.now 9 c.counted.result) _ _ (56 + 36 * c.from.result) _ 36 (omega arith)
          (c.copy_from_slice.ensures.after ∙ ap (λ (b : List ℕ). part b 56 36) e ∙ good-image s (passed was s e fits)));
      bad = tt;
    }

pub returns-else-n : goal.returns-else-n
returns-else-n c =
    let a = c.args in
    let was = (goal.at.returns-else-n c).Else-not-exclusion_within in
    record {
      fault = λ s e fits. sym (unless-passes (refusal 43 0 0) (passed was s e fits));
      good = λ s ls d e fits ed. exclusion-counted ls d (exclusion_of s) a.d.now ed c.counted.result c.counted.ensures (omega arith);
      bad = tt;
    }
