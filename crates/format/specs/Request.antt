-- "A request is 28 bytes: user (4, from 1), active roles (4, role k is bit k - 1, not zero), operation (2), target (2), four context levels of
-- type (2), value (2)." A request is its bytes, and what it says is read off them.
-- Assumes nothing.
use Rattle.std.specs.Prelude.{ℕ, ◌+◌, ◌-◌, ◌*◌, Bool, cond, not, ◌&&◌, ◌||◌, List, length, eqb}
use Rattle.std.proofs.Math.Option.{Option}
use Rattle.words.specs.Lists.{all_below, sum_below}
use Rattle.words.specs.First.{◌or_else◌, unless}
use Rattle.words.specs.Bytes.{u16_at, u32_at, part, bit}
use Rattle.format.specs.Answer.{Refusal, refusal}
use Rattle.format.specs.Layout.{request_bytes, roles_at, operation_at, target_at, context_at, context_bytes, context_level_bytes, most_levels}

abbrev pub Request : Type 0
Request = List ℕ

abbrev pub user : Request → ℕ
user q = u32_at q 0

abbrev pub roles : Request → ℕ
roles q = u32_at q roles_at

abbrev pub operation : Request → ℕ
operation q = u16_at q operation_at

abbrev pub target : Request → ℕ
target q = u16_at q target_at

-- "role k is bit k - 1"
unfoldable pub has_role : ℕ → Request → Bool
has_role k q = bit (k - 1) (roles q)

-- ---- the context

-- the 16 bytes of a request's context
abbrev pub context_of : Request → List ℕ
context_of q = part q context_at context_bytes

-- level i of a context, from 0
abbrev pub level_type : List ℕ → ℕ → ℕ
level_type c i = u16_at c (context_level_bytes * i)

abbrev pub level_value : List ℕ → ℕ → ℕ
level_value c i = u16_at c (context_level_bytes * i + 2)

-- "both numbers of a used level are from 1"
unfoldable pub used_level : List ℕ → ℕ → Bool
used_level c i = not (eqb (level_type c i) 0) && not (eqb (level_value c i) 0)

-- "the others are zero"
unfoldable pub blank_level : List ℕ → ℕ → Bool
blank_level c i = eqb (level_type c i) 0 && eqb (level_value c i) 0

-- how many of the four levels are used: the context's depth
unfoldable pub depth_of : List ℕ → ℕ
depth_of c = sum_below most_levels (λ i. cond (used_level c i) 1 0)

-- "Used levels come first; the others are zero." A level is used or blank, and a used one stands behind used ones alone.
unfoldable pub good_context : List ℕ → Bool
good_context c = all_below most_levels (λ i. blank_level c i || (used_level c i && all_below i (used_level c)))

-- ---- the check

-- "user (4, from 1), active roles (.. not zero) .. Operation, target and both numbers of a used level are from 1."
unfoldable pub good_request : Request → Bool
good_request q =
    not (eqb (user q) 0)
    && not (eqb (roles q) 0)
    && not (eqb (operation q) 0)
    && not (eqb (target q) 0)
    && good_context (context_of q)

-- "21: length not 28. 22: a field", with 0, 0
unfoldable pub request_fault : List ℕ → Option Refusal
request_fault q = unless (eqb (length q) request_bytes) (refusal 21 0 0) or_else unless (good_request q) (refusal 22 0 0)
