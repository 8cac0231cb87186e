-- A context, level by level.
-- Assumes nothing.
use Prim.Native.Nat.{ℕ, ◌+◌, ◌≤◌, ◌<◌}
use native.Mathlib.Omega.{arith}
use mathlib.Core.Path.{◌≡◌, refl}
use mathlib.Core.Bool.{Bool, true, false, ◌&&◌}
use mathlib.Core.List.{List}
use lib.Dec.{eqb, ltb}
use lib.ListN.{length, get_or}
use Rattle.std.specs.Prelude.{Result, Ok, Err}
use Rattle.forms.specs.Form.{space, of_name, Form, blank, hopeless, left}
use Rattle.xml.specs.Grammar.{◌▸◌, text, gap, name, level, context}
use Rattle.reader.specs.Words.{word}
use Rattle.reader.specs.Parts.{some, next_level, after_level, level_value}
use Rattle.reader.specs.Scan.{run_end, RunsOn, Goes, Found, Scans, Leads}
use Rattle.reader.specs.declared.misfit.Misfit.{Misfit}
use Rattle.reader.proofs.Computed.{computed}
use Rattle.reader.proofs.Scans.{took, stopped, goes_on, goes-stops, goes-found}
use Rattle.reader.proofs.Steps.{goes_same, stops-here, goes-past, goes-many, runs-found}
use Rattle.reader.proofs.Choices.{one_of_two}
use Rattle.reader.proofs.Starts.{starts-no, starts-yes, starts-in}
use Rattle.reader.proofs.Levels.{level-apart, value-apart, after-apart, context-ends, context-begins, levels-end, levels-go-on, value-star, value-bang, value-name}

-- ---- a level's value

module _ {t : List ℕ} {a : ℕ} where
  -- one byte that is a value
  pub value-sign : a < length t → ((get_or t a 0 ≡ 42 → ⊥) → get_or t a 0 ≡ 33) → Leads (level_value ▸ after_level) after_level t a (Ok (a + 1))
  unfolding computed
  value-sign l e k hope =
      took ((level_value ▸ after_level) ▸ k) (after_level ▸ k)
      (goes-past ((level_value ▸ after_level) ▸ k) (after_level ▸ k) (get_or t a 0) l refl
      (one_of_two (λ b. left ((level_value ▸ after_level) ▸ k) b ≡ after_level ▸ k) 42 33 (get_or t a 0) (value-star k) (value-bang k) e) hope)
      (omega arith)

  -- none, as the text ends
  pub value-missing : {m : Misfit} → m.0 ≡ a → length t ≤ a → Leads (level_value ▸ after_level) after_level t a (Err m)
  unfolding computed
  value-missing e l k hope =
      stopped ((level_value ▸ after_level) ▸ k) (after_level ▸ k) (rw e (stops-here ((level_value ▸ after_level) ▸ k) refl (λ h. absurd (omega arith))))

  -- a name, or no value
  pub value-named : {r : Result ℕ Misfit} → a ≤ length t → (a < length t → (get_or t a 0 ≡ 42 → ⊥) × (get_or t a 0 ≡ 33 → ⊥)) → RunsOn of_name t a r
      → Leads (level_value ▸ after_level) after_level t a r
  unfolding computed
  value-named fit d p k hope =
      goes-found ((level_value ▸ after_level) ▸ k) ((name ▸ after_level) ▸ k) (after_level ▸ k)
      (goes_same ((level_value ▸ after_level) ▸ k) ((name ▸ after_level) ▸ k) fit refl (λ l. value-name k (get_or t a 0) (d l).0 (d l).1))
      (runs-found of_name (after_level ▸ k) (after-apart k) hope fit p)

-- ---- a level

module _ {t : List ℕ} {a : ℕ} where
  pub level-valued : {b : ℕ} {r : Result ℕ Misfit} → Scans (some of_name ▸ gap ▸ text "=") t a (Ok b)
      → Leads (level_value ▸ after_level) after_level t (run_end space t b) r → Leads (level ▸ after_level) after_level t a r
  unfolding computed
  level-valued p q k hope =
      let sign = (p ((gap ▸ level_value ▸ after_level) ▸ k) hope).took.0 in
      goes-found ((level ▸ after_level) ▸ k) ((gap ▸ level_value ▸ after_level) ▸ k) (after_level ▸ k) sign
      (goes-found ((gap ▸ level_value ▸ after_level) ▸ k) ((level_value ▸ after_level) ▸ k) (after_level ▸ k)
      (goes-many space ((level_value ▸ after_level) ▸ k) (value-apart k) hope sign.fits) (q k hope))

  pub level-stopped : {m : Misfit} → Scans (some of_name ▸ gap ▸ text "=") t a (Err m) → Leads (level ▸ after_level) after_level t a (Err m)
  unfolding computed
  level-stopped p k hope = stopped ((level ▸ after_level) ▸ k) (after_level ▸ k) (p ((gap ▸ level_value ▸ after_level) ▸ k) hope).stopped

-- what a level took is a byte at least, and ends in the text
module _ {t : List ℕ} {a b : ℕ} (p : Leads (level ▸ after_level) after_level t a (Ok b)) where
  pub leads-past : a < b
  unfolding computed
  leads-past = (p blank refl).took.1

  pub leads-fit : b ≤ length t
  unfolding computed
  leads-fit = (p blank refl).took.0.fits

-- ---- the whole

-- a context from a on goes on with what f is, from p
abbrev pub Context : List ℕ → ℕ → Form → ℕ → Type 0
Context t a f p = (k : Form) → hopeless k ≡ false → Goes ((context ▸ text "\"") ▸ k) t a (f ▸ k) p

abbrev pub quote-at : List ℕ → ℕ → Bool
quote-at t a = ltb a (length t) && eqb (get_or t a 0) (get_or (word 15) 0 0)

module _ {t : List ℕ} {a : ℕ} where
  -- its first byte is its last
  pub context-none : quote-at t a ≡ true → Scans (context ▸ text "\"") t a (Ok (a + 1))
  unfolding computed
  context-none e k hope =
      took ((context ▸ text "\"") ▸ k) k
      (goes-past ((context ▸ text "\"") ▸ k) k 34 (starts-in (word 15) t a e) (starts-yes (word 15) t a e) (context-ends k) hope) (omega arith)

  -- or a level's
  pub context-start : a ≤ length t → quote-at t a ≡ false → Context t a (level ▸ after_level) a
  unfolding computed
  context-start fit e k hope =
      goes_same ((context ▸ text "\"") ▸ k) ((level ▸ after_level) ▸ k) fit refl (λ l. context-begins k (get_or t a 0) (starts-no (word 15) t a e l))

  module _ {p : ℕ} (so : Context t a (level ▸ after_level) p) where
    -- a level stopped, or took
    pub context-level-stopped : {m : Misfit} → Leads (level ▸ after_level) after_level t p (Err m) → Scans (context ▸ text "\"") t a (Err m)
    context-level-stopped q k hope =
        stopped ((context ▸ text "\"") ▸ k) k (goes-stops ((context ▸ text "\"") ▸ k) ((level ▸ after_level) ▸ k) (so k hope) (q k hope).stopped)

    pub context-level : {b : ℕ} → Leads (level ▸ after_level) after_level t p (Ok b) → Context t a after_level b
    context-level q k hope = goes_on ((context ▸ text "\"") ▸ k) ((level ▸ after_level) ▸ k) (after_level ▸ k) (so k hope) (q k hope).took.0

  module _ {p : ℕ} (so : Context t a after_level p) where
    -- the closing quote
    pub context-closes : a ≤ p → quote-at t p ≡ true → Scans (context ▸ text "\"") t a (Ok (p + 1))
    unfolding computed
    context-closes up e k hope =
        took ((context ▸ text "\"") ▸ k) k
        (goes_on ((context ▸ text "\"") ▸ k) (after_level ▸ k) k (so k hope)
        (goes-past (after_level ▸ k) k 34 (starts-in (word 15) t p e) (starts-yes (word 15) t p e) (levels-end k) hope)) (omega arith)

    module _ (fit : p ≤ length t) (e : quote-at t p ≡ false) where
      next : {r : Result ℕ Misfit} → Scans (gap ▸ text ",") t p r → (k : Form) → hopeless k ≡ false
          → Found ((context ▸ text "\"") ▸ k) t a r ((gap ▸ level ▸ after_level) ▸ k)
      unfolding computed
      next q k hope =
          goes-found ((context ▸ text "\"") ▸ k) (after_level ▸ k) ((gap ▸ level ▸ after_level) ▸ k) (so k hope)
          (goes-found (after_level ▸ k) ((next_level ▸ after_level) ▸ k) ((gap ▸ level ▸ after_level) ▸ k)
          (goes_same (after_level ▸ k) ((next_level ▸ after_level) ▸ k) fit refl (λ l. levels-go-on k (get_or t p 0) (starts-no (word 15) t p e l)))
          (q ((gap ▸ level ▸ after_level) ▸ k) hope))

      -- no comma, or a comma and white space
      pub context-comma-stopped : {m : Misfit} → Scans (gap ▸ text ",") t p (Err m) → Scans (context ▸ text "\"") t a (Err m)
      context-comma-stopped q k hope = stopped ((context ▸ text "\"") ▸ k) k (next q k hope).stopped

      pub context-again : {b : ℕ} → Scans (gap ▸ text ",") t p (Ok b) → Context t a (level ▸ after_level) (run_end space t b)
      unfolding computed
      context-again q k hope =
          let comma = (next q k hope).took.0 in
          goes_on ((context ▸ text "\"") ▸ k) ((gap ▸ level ▸ after_level) ▸ k) ((level ▸ after_level) ▸ k) comma
          (goes-many space ((level ▸ after_level) ▸ k) (level-apart k) hope comma.fits)
