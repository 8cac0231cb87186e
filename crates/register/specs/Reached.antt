-- "The forbidden number is an exclusion's m. A user has reached it when the count of step 3 over that user's requests in a run is m or more."
-- Assumes nothing.
use Rattle.std.specs.Prelude.{ℕ, ◌<◌, ◌≡◌, false, cond, ◌&&◌, List, [], ◌∷◌, ◌++◌, map}
use Rattle.words.specs.Lists.{keep, same_list}
use Rattle.format.specs.Request.{Request}
use Rattle.format.specs.Rule.{Exclusion}
use Rattle.format.specs.Fits.{place}
use Rattle.format.specs.Policy.{Policy}
use Rattle.judge.specs.Tally.{same_user, reached}
use Rattle.judge.specs.Verdict.{judges}
use Rattle.register.specs.Run.{Event}
use Rattle.register.specs.Register.{run_of, open_run}

-- nobody has reached m of the exclusion over these requests
unfoldable pub NobodyIn : Exclusion → List Request → Type 0
NobodyIn x qs = (u : ℕ) → reached x (keep (same_user u) qs) ≡ false

-- "at every other point, the run as it stands"
unfoldable pub standing : Policy → List Event → ℕ → List ℕ → List Request
standing p l i key = map (λ x. x.request) (run_of p l i key)

-- "At a grant this means the run before it, with the request added if the rule judges it in that run place"
unfoldable pub with_step : Policy → List Event → Request → ℕ → List ℕ → List Request
with_step p l q i key =
    standing p l i key ++ cond (judges (p.rule i) q (open_run p l q i) && same_list (place (p.rule i) q) key) (q ∷ []) []

-- nobody has reached m of any exclusion of any rule, in any of its runs
unfoldable pub Nobody : Policy → (ℕ → List ℕ → List Request) → Type 0
Nobody p runs =
    (i : ℕ) → i < p.rules → (e : ℕ) → e < (p.rule i).exclusions → (key : List ℕ) → NobodyIn ((p.rule i).exclusion e) (runs i key)
