-- The whole text: from its first tag to the white space behind the last.
-- Assumes nothing.
use Prim.Native.Nat.{ℕ, ◌+◌, ◌<◌}
use native.Mathlib.Omega.{arith}
use native.Mathlib.Nat.{zero-add}
use mathlib.Core.Path.{◌≡◌, refl, sym, ap, ◌∙◌}
use mathlib.Core.Bool.{true, false}
use mathlib.Core.List.{List}
use lib.ListN.{length, drop, length-drop}
use Rattle.std.specs.Prelude.{Ok, Err}
use Rattle.forms.specs.Form.{Kind, space, is_of, nothing, one, many, may_end, hopeless, joined, left, lefts, is_of_form, reach}
use Rattle.forms.specs.Run.{run}
use Rattle.forms.proofs.Runs.{run-induction, run_fits}
use Rattle.xml.specs.Grammar.{set}
use Rattle.reader.specs.Table.{inner, ahead}
use Rattle.reader.specs.Scan.{run_end, Goes, Stops}
use Rattle.reader.specs.Read.{Reached}
use Rattle.reader.proofs.Computed.{computed}
use Rattle.reader.proofs.Steps.{hopeless-form}

-- ---- bytes of a kind to the end

module _ (q : Kind) where
  -- what is left of any number of them after one, and after another byte
  many-one : (b : ℕ) → is_of q b ≡ true → left (many (one q)) b ≡ many (one q)
  unfolding left joined
  many-one b e = rw e

  many-other : (b : ℕ) → is_of q b ≡ false → left (many (one q)) b ≡ nothing
  unfolding left joined
  many-other b e = rw e

  reach-run : (t : List ℕ) → reach (many (one q)) t ≡ run q t
  unfolding reach hopeless
  reach-run =
      run-induction q (λ t n. reach (many (one q)) t ≡ n) refl (λ b t e. rw (many-other b e)) (λ b t e h. rw (many-one b e, h))

  form-run : (t : List ℕ) → (run q t ≡ length t → is_of_form (many (one q)) t ≡ true) × (run q t < length t → is_of_form (many (one q)) t ≡ false)
  unfolding is_of_form lefts may_end hopeless
  form-run =
      run-induction q (λ t n. (n ≡ length t → is_of_form (many (one q)) t ≡ true) × (n < length t → is_of_form (many (one q)) t ≡ false))
      ((λ e. refl), (λ l. absurd (omega arith)))
      (λ b t e. ((λ d. absurd (omega arith)), (λ l. ap (λ g. may_end (lefts g t)) (many-other b e) ∙ hopeless-form nothing t refl)))
      (λ b t e h.
      ((λ d. ap (λ g. may_end (lefts g t)) (many-one b e) ∙ h.0 (omega arith)), (λ l. ap (λ g. may_end (lefts g t)) (many-one b e) ∙ h.1 (omega arith))))

-- ---- a text from its first byte on

module _ (t : List ℕ) where
  -- before the first tag
  pub whole-start : Goes set t 0 (ahead 0) 0
  unfolding computed ahead inner
  whole-start = record { upwards = omega arith; fits = omega arith; reaches = refl; same = refl }

  -- a tag stopped
  pub whole-stops : (s p b : ℕ) → Goes set t 0 (ahead s) p → Stops (ahead s) t p b → (b ≡ reach set t) × (false ≡ is_of_form set t)
  whole-stops s p b so q = (sym q.stops ∙ sym so.reaches ∙ zero-add (reach set t), sym q.never ∙ sym so.same)

  -- behind the last there is white space alone, to the end or not
  module _ (p n : ℕ) (so : Goes set t 0 (ahead 7) p) (e : n ≡ run_end space t p) where
    gap-reach : reach set t ≡ n
    unfolding ahead
    gap-reach = sym (zero-add (reach set t)) ∙ so.reaches ∙ ap (λ m. p + m) (reach-run space (drop p t)) ∙ sym e

    pub whole-ends : n ≡ length t → Reached set t (Ok tt)
    unfolding ahead
    whole-ends d =
        let m = length-drop p t in
        let fit = so.fits in
        (so.same ∙ (form-run space (drop p t)).0 (omega arith), gap-reach ∙ d)

    pub whole-not : (n ≡ length t → ⊥) → Reached set t (Err (record { 0 = n }))
    unfolding ahead
    whole-not d =
        let m = length-drop p t in
        let l = run_fits space (drop p t) in
        let fit = so.fits in
        (so.same ∙ (form-run space (drop p t)).1 (omega arith), gap-reach)
