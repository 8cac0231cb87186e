use native.Mathlib.Omega.{arith}
use mathlib.Core.Path.{sym, ap, ◌∙◌}
use mathlib.Core.List.{[], map}
use lib.ListN.{length-map}
use Rattle.std.proofs.lemmas.Result.{err_from_is_err_and}
use Rattle.xml.specs.Read.{level_texts, level_of, rule_of, tag_fault, after_tag}
use Rattle.tags.specs.Code.{value_at}
use Rattle.drafts.specs.Draft.{rule_block}
use Rattle.text_read.proofs.LevelLaws.{levels-fit}
use Rattle.text_read.proofs.TurnRule.{rule-same, rule-unlisted, rule-limits}
use Rattle.text_read.proofs.StandsKept.{rule-ended}
use Rattle.text_read.proofs.sheet.Sheet.take_rule_end.Goals as goal

pub returns-in_err-depth : goal.returns-in_err-depth
unfolding tag_fault
returns-in_err-depth c =
    let p = err_from_is_err_and c.from_residual.result c.from_residual.ensures.1 in
    let t = c.args.source.now in
    λ second s h.
    rw (p.1, p.2)
    (record {
      fault = rule-unlisted t.names.list.now s.rule (value_at t.text.now c.args.self.now.context) h.context c.in_err-depth.ensures.fault;
      now = tt;
    })

pub returns-in_err-end_rule : goal.returns-in_err-end_rule
unfolding tag_fault
returns-in_err-end_rule c =
    let r = c.from_residual-in_err-end_rule in
    let p = err_from_is_err_and r.result r.ensures.1 in
    let t = c.args.source.now in
    let l = t.names.list.now in
    let v = value_at t.text.now c.args.self.now.context in
    let ps = level_texts v in
    let told = c.in_ok-depth.ensures in
    λ second s h.
    rw (p.1, p.2)
    (record {
      fault =
          rule-limits l s.rule v h.context told.fault
          (c.in_err-end_rule.ensures.fault (map (level_of l) ps) s.rule (length-map ps (level_of l) ∙ sym told.depth) (levels-fit l t.numbers ps) h.first
          h.last (told.levels s.rule h.draft));
      now = tt;
    })

pub returns : goal.returns
unfolding tag_fault after_tag
returns c =
    let t = c.args.source.now in
    let l = t.names.list.now in
    let v = value_at t.text.now c.args.self.now.context in
    let ps = level_texts v in
    let told = c.in_ok-depth.ensures in
    let end = c.in_ok-end_rule.ensures in
    λ second s h.
    let many = length-map ps (level_of l) ∙ sym told.depth in
    let fits = levels-fit l t.numbers ps in
    let draft = told.levels s.rule h.draft in
    record {
      fault = rule-limits l s.rule v h.context told.fault (end.fault (map (level_of l) ps) s.rule many fits h.first h.last draft);
      now =
          rule-ended h (rule_of l s.rule) c.start_rule.array_long.2 c.end_rule.array_long.1
          (end.good (map (level_of l) ps) s.rule many fits h.first h.last draft ∙ ap rule_block (rule-same l s.rule v h.context))
          c.keep_rule.ensures.0 c.keep_rule.ensures.1 (c.start_rule.ensures []) (omega arith);
    }
