-- The rules of an image that was read can be written: each number came from a listed name, and no level is a range.
-- Assumes nothing.
use Prim.Native.Nat.{ℕ, ◌≤◌, ◌<◌}
use native.Mathlib.Omega.{arith}
use mathlib.Core.Path.{◌≡◌}
use mathlib.Core.Bool.{true}
use mathlib.Core.List.{List, []}
use mathlib.Core.Option.{none}
use lib.ListN.{length, get_or}
use borrow.Author.Tests.{lt-ltb, le-leb}
use Rattle.word_laws.proofs.Bytes.{Byte}
use Rattle.word_laws.proofs.Every.{Every, every-get_d, every-weaken}
use Rattle.word_laws.proofs.Tests.{any_below-false}
use Rattle.word_laws.proofs.First.{unless-passes, or_else-none, first-none}
use Rattle.format.specs.Answer.{refusal}
use Rattle.format.specs.Rule.{is_range, Rule, rule_at, good_exclusion, good_exclusion_at}
use Rattle.format.specs.Policy.{rule_count, policy_of}
use Rattle.xml.specs.Names.{names_fault}
use Rattle.xml.specs.Write.{member_fault, level_names_fault, rule_text_fault, rules_text}
use Rattle.xml_calls.specs.Calls.{read_fault, read_image, write_fault}
use Rattle.xml_laws.proofs.ImageAlike.{SameRule}
use Rattle.xml_laws.proofs.ImageAccepted.{Proper, image-says}
use Rattle.xml_laws.proofs.ReadExclusion.{members-few}
use Rattle.xml_laws.proofs.ReadRule.{Writable, rule-few}
use Rattle.xml_laws.proofs.ReadAccepted.{rules_read, second-accepted, names-good, rules-known, reads-accepted, reads-rules}

module _ (l : List ℕ) where
  -- a rule whose numbers all have names can be written
  pub writable-faultless : (r : Rule) → Writable l r → rule_text_fault l r ≡ none
  unfolding rule_text_fault
  writable-faultless r n =
      or_else-none n.first-named
      (or_else-none n.last-named
      (or_else-none
      (first-none _ 0 r.exclusions
      (λ e lo hi. first-none (λ i. member_fault l (r.exclusion e).kind ((r.exclusion e).member i)) 0 (r.exclusion e).n
      (λ i low high. n.members-named e (omega arith) i (omega arith))))
      (or_else-none (first-none (λ i. level_names_fault l (r.level i)) 0 r.depth (λ i lo hi. n.levels-named i (omega arith)))
      (unless-passes (refusal 43 0 0) (rw (any_below-false r.depth (λ i. is_range (r.level i)) n.no-range))))))

  module _ (a b : Rule) (same : SameRule a b) (proper : Proper b) where
    -- an exclusion of a proper rule is good
    good-at : (e : ℕ) → e < b.exclusions → good_exclusion (b.exclusion e) ≡ true
    unfolding good_exclusion_at
    good-at e h = rw (lt-ltb e b.exclusions h) at (proper.exclusions-good e (omega (arith, (rule-few b proper.good).1)))

    -- of two rules that a block can't tell apart, both can be written
    same-writable : Writable l b → Writable l a
    same-writable n =
        record {
          first-named = rw same.first-same n.first-named;
          last-named = rw same.last-same n.last-named;
          members-named = λ e h i g.
              let few = rule-few b proper.good in
              let c : e < b.exclusions = omega (arith, same.exclusions-same) in
              let x = same.exclusion-same e (omega (arith, few.1)) in
              let j : i < (b.exclusion e).n = omega (arith, x.n-same) in
              rw (x.kind-same, x.member-same i (omega (arith, members-few (b.exclusion e) (good-at e c)))) (n.members-named e c i j);
          levels-named = λ i h. rw (level i h) (n.levels-named i (omega (arith, same.depth_same)));
          no-range = λ i h. rw (level i h) (n.no-range i (omega (arith, same.depth_same)));
        }
      where
        level : (i : ℕ) → i < a.depth → a.level i ≡ b.level i
        level i h = same.level-same i (omega (arith, same.depth_same, (rule-few b proper.good).0))

module _ (text l second : List ℕ) (room : ℕ) (faultless : read_fault text l second room ≡ none) (bytes : Every Byte l) where
  -- each rule that was read can be written
  pub read_again : (k : ℕ) → k < rule_count (read_image text l second) → rule_text_fault l ((policy_of (read_image text l second)).rule k) ≡ none
  unfolding policy_of read_image
  read_again k h =
      let rs = rules_read text l in
      let known = rules-known text l second room faultless bytes in
      let i : k < length rs = omega (arith, reads-rules text l second room faultless) in
      let r = every-get_d (rule_at []) k known i in
      let same = image-says rs second (second-accepted text l second room faultless) (every-weaken (λ x y. y.proper) known) k i in
      writable-faultless l _ (same-writable l _ (get_or rs k (rule_at [])) same r.proper r.writable)

  -- so they are written wherever there is room
  pub written-again : (room' : ℕ) → length (rules_text l (policy_of (read_image text l second))) ≤ room'
      → write_fault (read_image text l second) l room' ≡ none
  unfolding write_fault names_fault policy_of
  written-again room' h =
      or_else-none (reads-accepted text l second room faultless bytes)
      (or_else-none (unless-passes (refusal 42 0 0) (names-good text l second room faultless))
      (or_else-none
      (first-none (λ k. rule_text_fault l ((policy_of (read_image text l second)).rule k)) 0 (rule_count (read_image text l second))
      (λ k lo hi. read_again k (omega arith)))
      (unless-passes (refusal 43 0 0) (le-leb _ room' h))))
