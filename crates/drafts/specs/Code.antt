-- What the values of the code stand for.
-- Assumes nothing.
use Rattle.format.specs.Rule.{Privilege}
use Rattle.xml.specs.Read.{Draft, with_first, with_last}
use Rattle.drafts.specs.declared.rule.Step.{Step}
use Rattle.drafts.specs.declared.rule.Step.TheVariants.{First, Last}

-- a rule that is being read, with a step
abbrev pub with_step : Step → Draft → Privilege → Draft
with_step First d p = with_first d p
with_step Last d p = with_last d p
