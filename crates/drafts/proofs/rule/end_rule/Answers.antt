use Prim.Native.Nat.{ℕ}
use native.Mathlib.Omega.{arith}
use mathlib.Core.Path.{◌≡◌, sym, ap, ◌∙◌}
use mathlib.Core.Bool.{Bool, true, false}
use mathlib.Core.List.{List}
use lib.ListN.{length, get_or, set}
use lib.Seq.{sets}
use Rattle.words.specs.Bytes.{bytes4}
use Rattle.word_laws.proofs.First.{unless-passes, unless-fails}
use Rattle.format.specs.Answer.{refusal}
use Rattle.format.specs.Rule.{Level, rule_at, good_rule}
use Rattle.xml.specs.Read.{level_from, Draft, rule_from}
use Rattle.drafts.specs.Draft.{draft_block, LevelFits, StepFits}
use Rattle.drafts.proofs.GoodRule.{closed, too-deep, read-good, good-image}
use Rattle.drafts.proofs.rule.end_rule.Goals.{After-rule_within}
use Rattle.drafts.proofs.rule.end_rule.Goals as goal

pub returns-then-depth-gt-MOST_LEVELS : goal.returns-then-depth-gt-MOST_LEVELS
returns-then-depth-gt-MOST_LEVELS c =
    record { fault = λ ls d n fits first last e. sym (unless-fails (refusal 43 0 0) (too-deep ls d (omega arith))); good = tt }

-- the block that is asked about
asked : (c : After-rule_within) (ls : List Level) (d : Draft) → length ls ≡ c.args.depth → c.args.d.now ≡ draft_block ls d
    → set c.put_u32.new.s 8 c.args.depth ≡ closed ls d
asked c ls d n e =
    let a = c.args in
    ap (λ (b : List ℕ). set b 8 a.depth) (c.put_u32.ensures ∙ ap (λ (b : List ℕ). sets b 0 (bytes4 1)) e)
    ∙ ap (λ (k : ℕ). set (sets (draft_block ls d) 0 (bytes4 1)) 8 k) (sym n)

-- what is asked about it is told of the rule
told :
    (c : After-rule_within) (ls : List Level) (d : Draft) → length ls ≡ c.args.depth → ((i : ℕ) → LevelFits (get_or ls i (level_from 0 0 0)))
    → StepFits d.first → StepFits d.last → c.args.d.now ≡ draft_block ls d → (b : Bool) → c.rule_within.result ≡ b → good_rule (rule_from ls d) ≡ b
told c ls d n fits first last e b is =
    sym (ap (λ (l : List ℕ). good_rule (rule_at l)) (asked c ls d n e) ∙ read-good ls d fits first last) ∙ sym c.rule_within.ensures ∙ is

pub returns-then-not-rule_within : goal.returns-then-not-rule_within
returns-then-not-rule_within c =
    let was = (goal.at.returns-then-not-rule_within c).After-rule_within in
    record {
      fault = λ ls d n fits first last e. sym (unless-fails (refusal 43 0 0) (told was ls d n fits first last e false c.if-not-rule_within.true));
      good = tt;
    }

pub returns : goal.returns
returns c =
    let was = (goal.at.returns c).After-rule_within in
    record {
      fault = λ ls d n fits first last e. sym (unless-passes (refusal 43 0 0) (told was ls d n fits first last e true c.if-not-rule_within.false));
      good =
          λ ls d n fits first last e. asked was ls d n e ∙ good-image ls d (told was ls d n fits first last e true c.if-not-rule_within.false);
    }
