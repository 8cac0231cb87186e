use Rattle.drafts.proofs.DraftBlock.{begun}
use Rattle.drafts.proofs.rule.start_rule.Goals as goal

pub returns : goal.returns
returns c = λ text. begun text
