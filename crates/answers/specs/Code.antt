-- What an answer of the code stands for: the papers' number and values for each of its cases.
-- Assumes nothing.
use Rattle.std.specs.Prelude.{ℕ, List, Result, Ok, Err}
use Rattle.format.specs.Answer.{Answer, accept, grant, refuse, Outcome}
use Rattle.format.specs.Code.{refusal_of, text_refusal_of}
use Rattle.format.specs.declared.answer.Grant.{Grant}
use Rattle.format.specs.declared.answer.Refusal.{Refusal}
use Rattle.format.specs.declared.answer.TextRefusal.{TextRefusal}
use Rattle.answers.specs.declared.reply.Counted.{Counted}

-- "Acceptance returns a policy's rules, a table's records, a fresh table's places"; a closing, the records that it removed
abbrev pub accepted_of : Result ℕ Refusal → Answer
accepted_of (Ok n) = accept n
accepted_of (Err r) = refuse (refusal_of r)

-- "An answer is a grant with its three numbers or a refusal with its number and two places."
abbrev pub granted_of : Result Grant Refusal → Answer
granted_of (Ok g) = grant g.recorded g.removed g.held
granted_of (Err r) = refuse (refusal_of r)

-- of a call on a text: "the length of its result", or what refuses it
abbrev pub converted_of : Result ℕ TextRefusal → Answer
converted_of (Ok n) = accept n
converted_of (Err r) = refuse (text_refusal_of r)

-- the answer of a call that counts the blocks which it writes
abbrev pub counted_of : {A : Type 0} → Result (Counted A) Refusal → Result A Refusal
counted_of (Ok c) = Ok c.answer
counted_of (Err r) = Err r

-- and how many they are: "a refusal alters nothing"
abbrev pub written_of : {A : Type 0} → Result (Counted A) Refusal → ℕ
written_of (Ok c) = c.written
written_of (Err r) = 0

-- an answer and the lent table, or output, as the call leaves it
abbrev pub outcome : Answer → List ℕ → Outcome (List ℕ)
outcome a bytes = record { answer = a; state = bytes }
