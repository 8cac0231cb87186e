use Prim.Native.Nat.{ℕ}
use native.Mathlib.Omega.{arith}
use mathlib.Core.Path.{refl}
use mathlib.Core.List.{[]}
use lib.ListN.{length-replicate}
use Rattle.words.specs.Lists.{keep}
use Rattle.xml.specs.Tags.{squeezed}
use Rattle.xml.specs.Read.{nothing_read}
use Rattle.drafts.proofs.ExclusionBlock as exclusions
use Rattle.drafts.proofs.DraftBlock as drafts
use Rattle.text_read.proofs.StandsNow.{none-fit, no-step-fits}
use Rattle.text_read.proofs.sheet.Sheet.new.Goals as goal

pub returns : goal.returns
unfolding nothing_read squeezed keep
returns c =
    λ t.
    record {
      exclusion = exclusions.begun 0 0 (omega arith);
      members = none-fit 0 0 (omega arith);
      draft = drafts.begun [];
      first = no-step-fits;
      last = no-step-fits;
      context = refl;
      in_text = (omega arith, omega arith);
      rules = refl;
      kept = λ k h. absurd (omega arith);
      sized = length-replicate {A = ℕ} 16384 0;
    }
