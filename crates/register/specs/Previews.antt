-- Previews among the calls that alter a table, the claims, in plain words:
--
-- Harmless: take any policy, any table and any list of decisions, closings and previews, whatever the bytes and length of each. Put them one after
--   another to the engine, each with the table as the last one left it. Then the decisions and closings get the answers, and the list leaves the
--   table, that there would be without the previews. (For the table at an earlier point, take the list that ends there.)
-- Foretold: a decision with nothing but previews between it and its own preview gets the answer that the preview gave.
-- LikeRegister: on a table made fresh under an accepted policy, the decisions and closings among such calls get the full register's answers, and leave
--   its image.
--
-- The proofs are in crates/demand3/proofs/Previews.antt.
-- Assumes nothing.
use Rattle.std.specs.Prelude.{ℕ, ◌≤◌, ◌≡◌, List, [], ◌∷◌, map}
use Rattle.std.proofs.Math.Option.{none}
use Rattle.format.specs.Answer.{Answer, Outcome}
use Rattle.format.specs.Layout.{capacity, table_blocks}
use Rattle.format.specs.Policy.{policy_fault, policy_of}
use Rattle.format.specs.Table.{fresh_table}
use Rattle.judge.specs.Decide.{decide}
use Rattle.judge.specs.Preview.{preview}
use Rattle.register.specs.Image.{register_image}
use Rattle.register.specs.Calls.{Call, call_step, register_call}
use Rattle.register.specs.Demand3.{answers, after}

-- a decision or a closing, or a preview with the bytes of its request
pub data Asked : Type 0 where
  calling : Call → Asked
  previewing : List ℕ → Asked

-- one of a list: a decision or a closing leaves the table that it leaves, a preview "the lent table .. unaltered"
unfoldable pub ask_step : List ℕ → List ℕ → Asked → Outcome (List ℕ)
ask_step policy table (calling c) = call_step policy table c
ask_step policy table (previewing q) = record { answer = preview policy table q; state = table }

-- the list without its previews
unfoldable pub called : List Asked → List Call
called [] = []
called (calling c ∷ cs) = c ∷ called cs
called (previewing q ∷ cs) = called cs

-- of the answers to a list, those to its decisions and closings
unfoldable pub to_calls : List Asked → List Answer → List Answer
to_calls [] told = []
to_calls (c ∷ cs) [] = []
to_calls (calling c ∷ cs) (a ∷ told) = a ∷ to_calls cs told
to_calls (previewing q ∷ cs) (a ∷ told) = to_calls cs told

-- ---- the claims

-- the previews might as well be left out
pub record LeftOut (policy table : List ℕ) (asked : List Asked) : Type 0 where
  pub answers-same :
      to_calls asked (answers (ask_step policy) table asked) ≡ answers (call_step policy) table (called asked)
  pub table_same :
      after (ask_step policy) table asked ≡ after (call_step policy) table (called asked)

unfoldable pub Harmless : Type 0
Harmless = (policy table : List ℕ) (asked : List Asked) → LeftOut policy table asked

unfoldable pub Foretold : Type 0
Foretold =
    (policy table q : List ℕ) (others : List (List ℕ))
    → (decide policy (after (ask_step policy) table (map previewing others)) q).answer ≡ preview policy table q

pub record FromFresh (policy : List ℕ) (b : ℕ) (asked : List Asked) : Type 0 where
  pub answers-same :
      to_calls asked (answers (ask_step policy) (fresh_table policy b) asked)
      ≡ answers (register_call (policy_of policy) (capacity b)) [] (called asked)
  pub table_same :
      after (ask_step policy) (fresh_table policy b) asked
      ≡ register_image policy b (after (register_call (policy_of policy) (capacity b)) [] (called asked))

unfoldable pub LikeRegister : Type 0
LikeRegister =
    (policy : List ℕ) → policy_fault policy ≡ none
    → (b : ℕ) → 1 ≤ b → b ≤ table_blocks
    → (asked : List Asked) → FromFresh policy b asked
