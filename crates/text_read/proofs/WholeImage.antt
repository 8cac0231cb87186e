-- Reading without a fault: the rules that were kept make the image that is asked for.
-- Assumes nothing.
use Prim.Native.Nat.{ℕ, ◌+◌, ◌-◌, ◌*◌, ◌≤◌}
use native.Mathlib.Omega.{arith}
use mathlib.Core.Path.{◌≡◌, refl, ◌∙◌}
use mathlib.Core.List.{List, [], ◌++◌}
use mathlib.Core.Option.{none}
use lib.ListN.{length, drop}
use Rattle.words.specs.Bytes.{zeros}
use Rattle.word_laws.proofs.Lists.{get_d_map}
use Rattle.std.specs.Prelude.{Ok}
use Rattle.format.specs.Answer.{accept, refusing}
use Rattle.format.specs.Layout.{block_bytes, policy_blocks}
use Rattle.format.specs.Block.{blocks}
use Rattle.format.specs.Rule.{Rule}
use Rattle.format.specs.Policy.{rule_count}
use Rattle.format_laws.proofs.AcceptedPolicy.{rules-few}
use Rattle.xml.specs.Blocks.{image_of}
use Rattle.xml.specs.Read.{new_draft, rule_from, good_tags}
use Rattle.xml_calls.specs.Calls.{resulting, read_fault, read_image}
use Rattle.xml_laws.proofs.ReadAccepted.{rules_read, second-accepted, in-limits}
use Rattle.numbering.specs.Numbered.{together}
use Rattle.numbering.proofs.Fronts.{image-kept}
use Rattle.drafts.specs.Draft.{rule_block}
use Rattle.answers.specs.Code.{outcome}
use Rattle.text_read.specs.Stands.{ReadIs}
use Rattle.text_read.specs.declared.sheet.Sheet.{Sheet}

module _
    (text l second : List ℕ) (room : ℕ) (faultless : read_fault text l second room ≡ none) {sheet : Sheet}
    (read : ReadIs l second room (good_tags text) sheet (Ok tt)) where
  -- all rules were counted
  counted : sheet.rules ≡ length (rules_read text l)
  counted = omega (arith, read.rules, (in-limits text l second room faultless).0)

  -- what is asked for writing the image
  pub image-fits : (first : ℕ) → first ≡ rule_count second → let n = sheet.rules in
      ((block_bytes * n ≤ length sheet.kept) × (first ≤ blocks second) × (first ≡ rule_count second))
      × ((n + (blocks second - first) ≤ policy_blocks) × (block_bytes * (n + (blocks second - first)) ≤ room))
  image-fits first is =
      let i = in-limits text l second room faultless in
      let few = rules-few second (second-accepted text l second room faultless) in
      rw (counted, is) ((omega (arith, read.sized), few, refl), (i.2, i.3))

  -- the image that was written is the one that is asked for
  same : image_of (together sheet.kept sheet.rules second) ≡ read_image text l second
  unfolding read_image rule_block
  same =
      let blank : Rule = rule_from [] (new_draft []) in
      rw counted
      (image-kept (zeros 8) sheet.kept second (rules_read text l) blank
      (λ k h. read.kept k h (omega (arith, (in-limits text l second room faultless).0)) ∙ get_d_map rule_block (rules_read text l) k blank [] h))

  -- so it and its length are the answer
  pub image-read : (output : List ℕ) {output' : List ℕ} {n : ℕ} → let written = image_of (together sheet.kept sheet.rules second) in
      output' ≡ written ++ drop (length written) output → n ≡ length written
      → outcome (accept n) output' ≡ refusing (read_fault text l second room) output (resulting (read_image text l second) output)
  unfolding refusing resulting
  image-read output put long = rw (faultless, ← same, put, long)
