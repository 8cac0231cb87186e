-- The numbers of levels fit their bytes.
-- Assumes nothing.
use Prim.Native.Nat.{ℕ, zero, suc, ◌<◌}
use native.Mathlib.Omega.{arith}
use mathlib.Core.Path.{◌≡◌, refl}
use mathlib.Core.Bool.{Bool, true, false, cond, not, ◌&&◌, ◌||◌}
use mathlib.Core.List.{List, [], ◌∷◌, map}
use mathlib.Core.Option.{none}
use lib.ListN.{get_or}
use lib.Dec.{eqb}
use Rattle.words.specs.First.{◌or_else◌, unless}
use Rattle.format.specs.Answer.{refusal}
use Rattle.format.specs.Rule.{Level}
use Rattle.xml.specs.Names.{type_names, value_names, good_names, number_of}
use Rattle.xml.specs.Read.{or_zero, is_every, is_each, level_from, level_of, level_fault, first_of}
use Rattle.drafts.specs.Draft.{LevelFits}
use Rattle.text_read.specs.Levels.{level_listed, levels_listed}
use Rattle.text_read.proofs.LevelMarks.{type_of, value_of}
use Rattle.text_read.proofs.LookLaws.{unless-both, listed-unless}

module _ (l : List ℕ) (fits : (k : ℕ) (w : List ℕ) → or_zero (number_of l k w) < 65536) where
  -- those of a level do
  level-fits : (p : List (List ℕ)) → LevelFits (level_of l p)
  unfolding level_of
  level-fits p =
      go (type_of l p) (value_of l p) (fits type_names (get_or p 0 [])) (fits value_names (get_or p 1 []))
      (is_every (get_or p 1 [])) (is_each (get_or p 1 []))
    where
      go : (t v : ℕ) → t < 65536 → v < 65536 → (a b : Bool) → LevelFits (cond a (level_from t 2 0) (cond b (level_from t 3 0) (level_from t 1 v)))
      go t v h k true b = (h, omega arith, omega arith, omega arith, omega arith)
      go t v h k false true = (h, omega arith, omega arith, omega arith, omega arith)
      go t v h k false false = (h, omega arith, omega arith, k, omega arith)

  -- so do those of every level of a context, and of the levels past its depth
  pub levels-fit : (ps : List (List (List ℕ))) (i : ℕ) → LevelFits (get_or (map (level_of l) ps) i (level_from 0 0 0))
  levels-fit [] i = (omega arith, omega arith, omega arith, omega arith, omega arith)
  levels-fit (p ∷ ps) zero = level-fits p
  levels-fit (p ∷ ps) (suc i) = levels-fit ps i

-- ---- in a good list

module _ (l : List ℕ) (good : good_names l ≡ true) where
  -- a level is without a fault if its names are listed
  pub level-fault : (p : List (List ℕ)) → level_fault l p ≡ unless (level_listed l p) (refusal 42 0 0)
  unfolding level_fault level_listed level_of unless
  level-fault p =
      rw (listed-unless l good type_names (get_or p 0 []), listed-unless l good value_names (get_or p 1 []))
      (go (type_of l p) (value_of l p) (is_every (get_or p 1 [])) (is_each (get_or p 1 [])))
    where
      go : (t v : ℕ) (a b : Bool)
          → unless (not (eqb t 0)) (refusal 42 0 0) or_else cond a none (cond b none (unless (not (eqb v 0)) (refusal 42 0 0)))
          ≡ (let x : Level = cond a (level_from t 2 0) (cond b (level_from t 3 0) (level_from t 1 v)) in
          unless (not (eqb x.type 0) && (not (eqb x.mark 1) || not (eqb x.value 0))) (refusal 42 0 0))
      go t v true b = unless-both (not (eqb t 0)) true (refusal 42 0 0)
      go t v false true = unless-both (not (eqb t 0)) true (refusal 42 0 0)
      go t v false false = unless-both (not (eqb t 0)) (not (eqb v 0)) (refusal 42 0 0)

  -- the levels of a context are without a fault if all their names are
  pub levels-fault : (ps : List (List (List ℕ))) → first_of (level_fault l) ps ≡ unless (levels_listed l ps) (refusal 42 0 0)
  unfolding first_of levels_listed unless
  levels-fault [] = refl
  levels-fault (p ∷ ps) = rw (level-fault p, levels-fault ps) (unless-both (level_listed l p) (levels_listed l ps) (refusal 42 0 0))
