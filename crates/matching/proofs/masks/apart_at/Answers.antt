use Prim.Native.Nat.{ℕ, ◌+◌, ◌*◌, ◌<◌}
use mathlib.Core.Path.{◌≡◌, sym, ap, ◌∙◌}
use mathlib.Core.List.{List}
use borrow.Author.Tests.{eq-eqb, ne_eqb}
use lib.ListN.{length}
use Rattle.words.specs.Bytes.{u16_at, part}
use Rattle.word_laws.proofs.Parts.{part-whole}
use Rattle.format.specs.Request.{context_of, level_value}
use Rattle.matching.proofs.Levels.{value-at}
use Rattle.matching.proofs.masks.apart_at.Goals.{After-u16_at-2, Start}
use Rattle.matching.proofs.masks.apart_at.Goals as goal

-- the value of a request at a level
value_of : (q : List ℕ) (l : ℕ) → length q ≡ 28 → l < 4 → level_value (context_of q) l ≡ u16_at q (14 + 4 * l)
value_of q l e h = ap (λ (x : List ℕ). level_value (context_of x) l) (sym (part-whole q 28 e)) ∙ value-at q 0 l h

module _ (c : After-u16_at-2) where
  here : level_value (context_of c.args.q.now) c.args.l ≡ c.u16_at.result
  here = let s = (goal.at.After-u16_at-2 c).Start in value_of s.args.q.now s.args.l s.told-q s.requires.1 ∙ sym c.u16_at.ensures.0

  there : level_value (context_of (part c.args.s.now c.args.at 28)) c.args.l ≡ c.u16_at-2.result
  there = let s = (goal.at.After-u16_at-2 c).Start in value-at s.args.s.now s.args.at s.args.l s.requires.1 ∙ sym c.u16_at-2.ensures.0

pub returns-then-u16_at : goal.returns-then-u16_at
returns-then-u16_at c = rw (here (goal.at.returns-then-u16_at c).After-u16_at-2, there (goal.at.returns-then-u16_at c).After-u16_at-2) (rw (eq-eqb c.u16_at.result c.u16_at-2.result c.if-u16_at.true))

pub returns-else-u16_at : goal.returns-else-u16_at
returns-else-u16_at c = rw (here (goal.at.returns-else-u16_at c).After-u16_at-2, there (goal.at.returns-else-u16_at c).After-u16_at-2) (rw (ne_eqb c.u16_at.result c.u16_at-2.result c.if-u16_at.false))
