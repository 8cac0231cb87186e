use mathlib.Core.Path.{sym, ◌∙◌}
use Rattle.word_laws.proofs.First.{unless-passes, unless-fails}
use Rattle.format.specs.Answer.{refusal}
use Rattle.xml.specs.Read.{tag_fault, after_tag}
use Rattle.text_read.proofs.TurnSet.{set-tests, set-too-long}
use Rattle.text_read.proofs.sheet.Sheet.take_set_end.Goals.{then-self-via-then-self, then-self-via-else-self+then-not-fits}
use Rattle.text_read.proofs.sheet.Sheet.take_set_end.Goals as goal

pub returns-then-self : goal.returns-then-self
unfolding tag_fault
returns-then-self c =
    let n = c.args.self.now.rules in
    let a = c.args.source.now in
    elim c.then-self.branch [
      | then-self-via-then-self w ↦
          λ second s p h. record { fault = sym (unless-fails (refusal 43 0 0) (set-too-long second a.room s n h.rules w.if-self.true)); now = tt }
      | then-self-via-else-self+then-not-fits w ↦
          λ second s p h.
          record {
            fault =
                sym
                (unless-fails (refusal 43 0 0)
                (set-tests second a.room s n h.rules a.permissions p w.if-self.false ∙ sym w.fits.ensures ∙ w.if-not-fits.true));
            now = tt;
          }
    ]

pub returns : goal.returns
unfolding tag_fault after_tag
returns c =
    let a = c.args.source.now in
    λ second s p h.
    record {
      fault =
          sym
          (unless-passes (refusal 43 0 0)
          (set-tests second a.room s c.args.self.now.rules h.rules a.permissions p c.if-self.false ∙ sym c.fits.ensures ∙ c.if-not-fits.false));
      now = h;
    }
