use mathlib.Core.Path.{sym, ap, ◌∙◌}
use Rattle.format.specs.Request.{depth_of}
use Rattle.request_check.proofs.RequestWords.{context-at}
use Rattle.request_check.proofs.request.depth.Goals as goal

pub returns : goal.returns
returns c = let a = c.args in c.depth.ensures ∙ ap depth_of (sym (context-at a.s.now a.at))
