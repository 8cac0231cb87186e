-- The rules that have ended: one more is kept where it has a place, and counted.
-- Assumes nothing.
use Prim.Native.Nat.{ℕ, suc, ◌+◌, ◌*◌, ◌≤◌, ◌<◌, min}
use native.Mathlib.Decide.{dec_lt}
use native.Mathlib.Omega.{arith}
use mathlib.Core.Path.{◌≡◌, refl, sym, ap, ◌∙◌}
use mathlib.Core.List.{List, [], ◌∷◌, ◌++◌, map, map-append}
use lib.ListN.{length, get_or, length-append, length-map, get_or-append}
use lib.Seq.{get_or_at}
use Rattle.words.specs.Lists.{keep}
use Rattle.format.specs.Layout.{block_bytes, most_rules}
use Rattle.format.specs.Block.{block}
use Rattle.format.specs.Rule.{Rule}
use Rattle.table_write.specs.Writing.{over}
use Rattle.table_write.proofs.Parts.{part-before, part-here}
use Rattle.xml.specs.Tags.{squeezed}
use Rattle.xml.specs.Read.{new_draft, Reading}
use Rattle.drafts.specs.Draft.{draft_block, rule_block}
use Rattle.text_read.specs.Stands.{Kept, Stands}
use Rattle.text_read.specs.declared.sheet.Sheet.{Sheet}
use Rattle.text_read.proofs.StandsNow.{no-step-fits}

-- rule r ends behind the rules rs, n of them counted
module _ (rs : List Rule) (r : Rule) (n : ℕ) (count : n ≡ min (suc most_rules) (length rs)) where
  -- one more is counted
  pub count-more : min (suc most_rules) (n + 1) ≡ min (suc most_rules) (length (rs ++ (r ∷ [])))
  count-more = rw length-append (omega arith)

  -- its block b is kept as block n, if there may be such a rule
  module _
      (image : List ℕ) {image' : List ℕ} (b : List ℕ) (long : length image ≡ block_bytes * most_rules) (sized : length b ≡ block_bytes) (is : b ≡ rule_block r)
      (put : n < most_rules → image' ≡ over image (block_bytes * n) block_bytes b) (left : most_rules ≤ n → image' ≡ image) (kept : Kept rs image) where
    -- then a rule before it stands as before
    before : (k : ℕ) → k < length rs → k < most_rules → block image' k ≡ block image k
    before k h m = go (dec_lt n most_rules)
      where
        go : Dec (n < most_rules) → block image' k ≡ block image k
        go (yes l) =
            ap (λ (i : List ℕ). block i k) (put l) ∙ part-before image (512 * n) 512 b sized (omega arith) (512 * k) 512 (omega arith)
        go (no g) = ap (λ (i : List ℕ). block i k) (left (omega arith))

    -- and so all do
    pub kept_more : Kept (rs ++ (r ∷ [])) image'
    kept_more k h m = rw (map-append rule_block rs (r ∷ [])) (go (dec_lt k (length rs)))
      where
        go : Dec (k < length rs) → block image' k ≡ get_or (map rule_block rs ++ (rule_block r ∷ [])) k []
        go (yes l) =
            before k l m ∙ kept k l m ∙ sym (get_or-append (map rule_block rs) (rule_block r ∷ []) [] k (omega (arith, length-map rs rule_block)))
        go (no g) =
            let all = length-append rs (r ∷ []) in
            let here : k ≡ length rs = omega arith in
            let at : k ≡ n = omega arith in
            ap (λ (i : List ℕ). block i k) (put (omega arith))
            ∙ rw at (part-here image (512 * n) 512 b sized (omega arith))
            ∙ is
            ∙ sym (get_or_at (map rule_block rs) (rule_block r) [] [] k (length-map rs rule_block ∙ sym here))

-- a rule has ended, and none is being read
pub rule-ended :
    {t : List ℕ} {s : Reading} {sheet : Sheet} (stands : Stands t s sheet) (r : Rule) {b d image : List ℕ} {n : ℕ}
    → length image ≡ block_bytes * most_rules → length b ≡ block_bytes → b ≡ rule_block r
    → (sheet.rules < most_rules → image ≡ over sheet.kept (block_bytes * sheet.rules) block_bytes b) → (most_rules ≤ sheet.rules → image ≡ sheet.kept)
    → d ≡ draft_block [] (new_draft []) → n ≡ min (suc most_rules) (sheet.rules + 1)
    → Stands t (record { rules = s.rules ++ r ∷ []; rule = new_draft []; exclusion = s.exclusion })
    (record { exclusion = sheet.exclusion; rule = d; context = record { from = 0; to = 0 }; rules = n; kept = image })
unfolding squeezed keep
rule-ended {s = s} {sheet} stands r {b} long sized is put left e count =
    record {
      exclusion = stands.exclusion;
      members = stands.members;
      draft = e;
      first = no-step-fits;
      last = no-step-fits;
      context = refl;
      in_text = (omega arith, omega arith);
      rules = count ∙ count-more s.rules r sheet.rules stands.rules;
      kept = kept_more s.rules r sheet.rules stands.rules sheet.kept b stands.sized sized is put left stands.kept;
      sized = long;
    }
