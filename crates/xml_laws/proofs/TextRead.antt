-- Reading the tags of a policy's rules gives the rules back, without fault.
-- Assumes nothing.
use Prim.Native.Nat.{ℕ, ◌+◌, ◌-◌, ◌*◌, ◌≤◌, ◌<◌}
use native.Mathlib.Omega.{arith}
use mathlib.Core.Path.{◌≡◌, refl, ap, ◌∙◌}
use mathlib.Core.Bool.{Bool, true, false, cond}
use mathlib.Core.List.{List, [], ◌∷◌, ◌++◌, map}
use mathlib.Core.Option.{none}
use borrow.Author.Tests.{le-leb}
use lib.ListN.{length}
use Rattle.words.specs.Lists.{tab}
use Rattle.words.specs.First.{◌or_else◌}
use Rattle.word_laws.proofs.First.{or_else-none, unless-passes}
use Rattle.word_laws.proofs.Lists.{tab-cong, map-tab, length-tab}
use Rattle.word_laws.proofs.Tests.{both}
use Rattle.format.specs.Answer.{refusal}
use Rattle.format.specs.Rule.{Privilege, Step, is_set, Exclusion, Rule, good_step}
use Rattle.format.specs.Block.{blocks}
use Rattle.format.specs.Policy.{Policy, rule_count}
use Rattle.xml.specs.Tags.{Tag, start_set, end_set, start_rule, end_rule, first_step, last_step}
use Rattle.xml.specs.Names.{operation_names, target_names, good_names, name_of}
use Rattle.xml.specs.Blocks.{rule_image}
use Rattle.xml.specs.Read.{listed, privilege_fault, privilege_of, step_of, no_step, Reading, new_members, new_draft, nothing_read, in_rule, after_tag, good_set, tag_fault}
use Rattle.xml.specs.Write.{name_text, context_text, step_text_fault}
use Rattle.xml_laws.proofs.TextRuleTags.{step_tags, exclusion_tags, rule_tags, rules_tags}
use Rattle.xml_laws.proofs.TextListed.{parts-listed}
use Rattle.xml_laws.proofs.TextCopies.{copied, good-rule-alike, rule-image-alike}
use Rattle.xml_laws.proofs.TextLevels.{Numbered, levels-faultless}
use Rattle.xml_laws.proofs.TextReads.{Reads, reads_none, reads-tag, reads_then, reads-row, tab-grows}
use Rattle.xml_laws.proofs.TextReadParts.{privilege-read, exclusion-reads}
use Rattle.xml_laws.proofs.TextSound.{Sound, good-rule, step_set, step-unset, sound-exclusion, drafted, read_rule, read_alike}

-- so many rules, with the permission blocks of the second image, fit: "more than 32 rules, more than 64 blocks, no block, the output" are faults
pub record Fitting (second : List ℕ) (room n : ℕ) : Type 0 where
  pub rules : n ≤ 32
  pub some_block : 1 ≤ n + (blocks second - rule_count second)
  pub few-blocks : n + (blocks second - rule_count second) ≤ 64
  pub output : 512 * (n + (blocks second - rule_count second)) ≤ room

-- a policy's rules as they are read
abbrev pub rules_read : List ℕ → Policy → List Rule
rules_read l p = tab (λ k. read_rule l (p.rule k)) 0 p.rules

-- what has been read between two rules
abbrev pub between : List Rule → Reading
between rs = record { rules = rs; rule = new_draft []; exclusion = new_members 0 0 }

module _ (l second : List ℕ) (room : ℕ) (good : good_names l ≡ true) (numbered : Numbered l) where
  -- a step is read as it was, set or not, into the place that `put` puts it
  step-reads : (says : List ℕ → List ℕ → Tag) (put : Step → Reading)
      → ((o t : List ℕ) → tag_fault l second room (put no_step) (says o t) ≡ privilege_fault l o t)
      → ((o t : List ℕ) → after_tag l (put no_step) (says o t) ≡ put (step_of (privilege_of l o t)))
      → (x : Step) → good_step x ≡ true → step_text_fault l x ≡ none → Reads l second room (put no_step) (step_tags l says x) (put x)
  unfolding step_tags step_text_fault
  step-reads says put fault after x g h = go (is_set x) refl h
    where
      p : Privilege
      p = x.privilege

      o : List ℕ
      o = name_text l operation_names p.operation

      t : List ℕ
      t = name_text l target_names p.target

      go : (set : Bool) → is_set x ≡ set
          → cond set (listed (name_of l operation_names p.operation) or_else listed (name_of l target_names p.target)) none ≡ none
          → Reads l second room (put no_step) (cond set (says o t ∷ []) []) (put x)
      go true e h =
          let r = privilege-read l second room good numbered x.privilege h in
          reads-tag l second room (put no_step) (says o t) (fault o t ∙ r.0) (after o t ∙ ap (λ p. put (step_of p)) r.1 ∙ ap put (step_set x e))
          (reads_none l second room (put x))
      go false e h = rw (← step-unset x g e) (reads_none l second room (put no_step))

  -- a sound rule is read as one that is like it
  rule-reads : (r : Rule) → Sound l r → (rs : List Rule) → Reads l second room (between rs) (rule_tags l r) (between (rs ++ read_rule l r ∷ []))
  unfolding rule_tags after_tag tag_fault drafted tab
  rule-reads r sound rs =
      let g = good-rule r sound.rule in
      let h = parts-listed l r sound.faultless in
      let c = context_text l r in
      let first : Step → Reading = λ x. in_rule (between rs) (record { context = c; first = x; last = no_step; exclusions = [] }) in
      let last : Step → Reading = λ x. in_rule (between rs) (record { context = c; first = r.first_step; last = x; exclusions = [] }) in
      let has : List Exclusion → Reading =
      λ xs. in_rule (between rs) (record { context = c; first = r.first_step; last = r.last_step; exclusions = xs }) in
      let copies : ℕ → Exclusion = λ e. copied (r.exclusion e) in
      let state : ℕ → Reading = λ e. has (tab copies 0 e) in
      reads-tag l second room (between rs) (start_rule c) refl refl
      (reads_then l second room (step-reads first_step first (λ o t. refl) (λ o t. refl) r.first_step g.first h.first_step)
      (reads_then l second room (step-reads last_step last (λ o t. refl) (λ o t. refl) r.last_step g.last h.last_step)
      (reads_then l second room {s = state 0}
      (reads-row l second room state (λ e. exclusion_tags l (r.exclusion e)) r.exclusions
      (λ e b.
      rw (← ap has (tab-grows copies e))
      (exclusion-reads l second room good numbered (r.exclusion e) (sound-exclusion l r sound e b) (h.member e b) (state e))))
      (reads-tag l second room (state r.exclusions) end_rule
      (or_else-none (levels-faultless l good numbered r h g.level)
      (unless-passes (refusal 43 0 0) (good-rule-alike (read_rule l r) r (read_alike l r sound good numbered) ∙ sound.rule)))
      refl (reads_none l second room (between (rs ++ read_rule l r ∷ [])))))))

  -- rules that fit end well
  fitting-set : (rs : List Rule) (n : ℕ) → length rs ≡ n → Fitting second room n → good_set second room (between rs) ≡ true
  unfolding good_set
  fitting-set rs n e h =
      let b = n + (blocks second - rule_count second) in
      rw e
      (both (both (both (le-leb n 32 h.rules) (le-leb 1 b h.some_block)) (le-leb b 64 h.few-blocks)) (le-leb (512 * b) room h.output))

  module _ (p : Policy) (sound : (k : ℕ) → k < p.rules → Sound l (p.rule k)) where
    -- each has the bytes of the rule that was written
    pub rule-image-read : (k : ℕ) → k < p.rules → rule_image (read_rule l (p.rule k)) ≡ rule_image (p.rule k)
    rule-image-read k h = rule-image-alike (read_rule l (p.rule k)) (p.rule k) (read_alike l (p.rule k) (sound k h) good numbered)

    pub images-read : map rule_image (rules_read l p) ≡ tab (λ k. rule_image (p.rule k)) 0 p.rules
    images-read =
        map-tab rule_image (λ k. read_rule l (p.rule k)) 0 p.rules
        ∙ tab-cong (λ k. rule_image (read_rule l (p.rule k))) (λ k. rule_image (p.rule k)) 0 p.rules (λ k lo hi. rule-image-read k (omega arith))

    -- the tags of all rules are read without fault, and give these rules
    pub rules-read : Fitting second room p.rules → Reads l second room nothing_read (rules_tags l p) (between (rules_read l p))
    unfolding rules_tags nothing_read after_tag tag_fault tab
    rules-read fit =
        let rules : ℕ → Rule = λ k. read_rule l (p.rule k) in
        let state : ℕ → Reading = λ k. between (tab rules 0 k) in
        reads-tag l second room nothing_read start_set refl refl
        (reads_then l second room {s = state 0}
        (reads-row l second room state (λ k. rule_tags l (p.rule k)) p.rules
        (λ k b. rw (← ap between (tab-grows rules k)) (rule-reads (p.rule k) (sound k b) (tab rules 0 k))))
        (reads-tag l second room (between (rules_read l p)) end_set
        (unless-passes (refusal 43 0 0) (fitting-set (rules_read l p) p.rules (length-tab rules 0 p.rules) fit)) refl
        (reads_none l second room (between (rules_read l p)))))
