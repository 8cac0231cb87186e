-- W2, a context that is handed over by itself: "a context of 16 bytes", the number that any other bytes get, and which requests it names.
-- Assumes nothing.
use Rattle.std.specs.Prelude.{ℕ, Bool, ◌&&◌, List, length, eqb}
use Rattle.std.proofs.Math.Option.{Option}
use Rattle.words.specs.Lists.{all_below}
use Rattle.words.specs.First.{◌or_else◌, unless}
use Rattle.format.specs.Answer.{Refusal, refusal}
use Rattle.format.specs.Layout.{context_bytes}
use Rattle.format.specs.Request.{Request, context_of, level_type, level_value, depth_of, good_context}

-- "a length other than 16 gives 21, a bad context 22", with 0, 0
unfoldable pub context_fault : List ℕ → Option Refusal
context_fault c = unless (eqb (length c) context_bytes) (refusal 21 0 0) or_else unless (good_context c) (refusal 22 0 0)

-- two contexts have the same level i: type and value
unfoldable pub same_level : List ℕ → List ℕ → ℕ → Bool
same_level c d i = eqb (level_type c i) (level_type d i) && eqb (level_value c i) (level_value d i)

-- the request's "context begins with those levels", the used levels of c: it may have more. A c of no level names every request.
unfoldable pub begins : List ℕ → Request → Bool
begins c q = all_below (depth_of c) (same_level (context_of q) c)
