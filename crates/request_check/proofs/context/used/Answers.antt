use mathlib.Core.Path.{refl}
use Rattle.request_check.specs.RequestWords.{used_word}
use Rattle.request_check.proofs.context.used.Goals as goal

pub returns : goal.returns
unfolding used_word
returns c = refl
