-- What may follow in a state: white space, and then what does not begin with it.
-- Assumes nothing.
use Prim.Native.Nat.{ℕ, zero, suc, ◌≤◌, ◌<◌}
use native.Mathlib.Omega.{arith}
use mathlib.Core.Path.{◌≡◌, refl}
use mathlib.Core.Bool.{true, false, not}
use mathlib.Core.List.{List}
use borrow.Author.Tests.{not-true, ne_eqb, ltb-true}
use lib.ListN.{length}
use Rattle.std.specs.Prelude.{Result, Ok, Err}
use Rattle.words.specs.Lists.{all_below}
use Rattle.word_laws.proofs.Tests.{all_below-at}
use Rattle.forms.specs.Form.{space, hopeless}
use Rattle.xml.specs.Grammar.{◌▸◌}
use Rattle.reader.specs.Table.{states, inner, ahead, rest, next, may_stand}
use Rattle.reader.specs.Scan.{run_end, Goes, Stops, Found, Scans}
use Rattle.reader.specs.Begin.{Stands}
use Rattle.reader.specs.Read.{Passes}
use Rattle.reader.specs.declared.misfit.Misfit.{Misfit}
use Rattle.reader.specs.declared.element.Begun.{Begun}
use Rattle.reader.specs.declared.reading.Tag.{Tag}
use Rattle.reader.proofs.Computed.{computed}
use Rattle.reader.proofs.Levels.{other_byte}
use Rattle.reader.proofs.Scans.{goes_on, goes-stops, goes-found}
use Rattle.reader.proofs.Steps.{Apart, goes-many}
use Rattle.reader.proofs.Rule.{inside}

-- each has a text
aheads-hope : all_below states (λ s. not (hopeless (ahead s))) ≡ true
unfolding computed all_below ahead inner
aheads-hope = refl

pub ahead-hope : (s : ℕ) → s < states → hopeless (ahead s) ≡ false
ahead-hope s l = not-true (hopeless (ahead s)) (all_below-at states s (λ s. not (hopeless (ahead s))) aheads-hope l)

inners-hope : all_below inside (λ s. not (hopeless (inner s))) ≡ true
unfolding computed all_below ahead inner
inners-hope = refl

inner-hope : (s : ℕ) → s < inside → hopeless (inner s) ≡ false
inner-hope s l = not-true (hopeless (inner s)) (all_below-at inside s (λ s. not (hopeless (inner s))) inners-hope l)

-- a tag does not begin with white space
inner-apart : (s : ℕ) → s < inside → Apart space (inner s)
unfolding computed inner
inner-apart zero l b e = rw (other_byte space b 60 e refl)
inner-apart (suc zero) l b e = rw (other_byte space b 60 e refl)
inner-apart (suc (suc zero)) l b e = rw (other_byte space b 60 e refl)
inner-apart (suc (suc (suc zero))) l b e = rw (other_byte space b 60 e refl)
inner-apart (suc (suc (suc (suc zero)))) l b e = rw (other_byte space b 60 e refl)
inner-apart (suc (suc (suc (suc (suc zero))))) l b e = rw (other_byte space b 60 e refl)
inner-apart (suc (suc (suc (suc (suc (suc zero)))))) l b e = rw (other_byte space b 60 e refl)
inner-apart (suc (suc (suc (suc (suc (suc (suc s))))))) l b e = absurd (omega arith)

module _ (s : ℕ) (l : s < inside) {t : List ℕ} {a : ℕ} (fit : a ≤ length t) where
  goes-space : Goes (ahead s) t a (inner s) (run_end space t a)
  unfolding ahead
  goes-space = rw (ne_eqb s 7 (λ e. absurd (omega arith))) (goes-many space (inner s) (inner-apart s l) (inner-hope s l) fit)

  -- no tag begins there
  pub none_read : (b : ℕ) → Stops (inner s) t (run_end space t a) b → Stops (ahead s) t a b
  none_read b p = goes-stops (ahead s) (inner s) goes-space p

  -- one begins, and the rest of it follows or not
  module _ (b : Begun) (p : Stands s t (run_end space t a) b) where
    abbrev n : ℕ
    n = next s b.element

    found : {r : Result ℕ Misfit} → Scans (rest b.element) t b.at r → Found (ahead s) t a r (ahead n)
    unfolding may_stand
    found q =
        goes-found (ahead s) (rest b.element ▸ ahead n) (ahead n) (goes_on (ahead s) (inner s) (rest b.element ▸ ahead n) goes-space p.goes)
        (q (ahead n) (ahead-hope n (ltb-true n states p.stands)))

    pub tag_stopped : {m : Misfit} → Scans (rest b.element) t b.at (Err m) → Stops (ahead s) t a m.0
    tag_stopped q = (found q).stopped

    pub tag_read : (r : Tag) → r.state ≡ n → Scans (rest b.element) t b.at (Ok r.at) → Passes s t a r
    unfolding may_stand
    tag_read r e q = let f = (found q).took in record { goes = rw e f.0; past = f.1; state = rw e (ltb-true n states p.stands) }
