-- What the values of the code stand for.
-- Assumes nothing.
use Rattle.std.specs.Prelude.{Result, Ok, Err}
use Rattle.std.proofs.Math.Option.{Option, none, some}
use Rattle.format.specs.Answer.{Refusal, refusal}
use Rattle.format.specs.declared.answer.Refusal.{Refusal as Refused}
use Rattle.format.specs.declared.answer.Refusal.TheVariants.{PolicyLength, PolicyCheck, PolicyHeader, RuleBytes, Exclusion, Entry, TableLength, TableCheck, TableHeader, Stamp, Record, Length, Field, NotPermitted, Roles, Privileges, Full}
use Rattle.format.specs.declared.answer.TextRefusal.{TextRefusal}
use Rattle.format.specs.declared.answer.TextRefusal.TheVariants.{Policy, Misfit, NotListed, NotWithin}

-- "Numbers of refusal by place": the number and the places of each refusal of the code
abbrev pub refusal_of : Refused → Refusal
refusal_of PolicyLength = refusal 1 0 0
refusal_of (PolicyCheck k) = refusal 2 k 0
refusal_of (PolicyHeader k) = refusal 3 k 0
refusal_of (RuleBytes k) = refusal 4 k 0
refusal_of (Exclusion k e) = refusal 5 k e
refusal_of (Entry k i) = refusal 6 k i
refusal_of TableLength = refusal 11 0 0
refusal_of (TableCheck k) = refusal 12 k 0
refusal_of (TableHeader k) = refusal 13 k 0
refusal_of (Stamp k) = refusal 14 k 0
refusal_of (Record k i) = refusal 15 k i
refusal_of Length = refusal 21 0 0
refusal_of Field = refusal 22 0 0
refusal_of NotPermitted = refusal 31 0 0
refusal_of (Roles r e) = refusal 32 r e
refusal_of (Privileges r e) = refusal 33 r e
refusal_of Full = refusal 34 0 0

-- the same of a call on a text: "41 for text that doesn't have the form, with the first byte .. and 0, 42 for a name or number not listed, 43 for what breaks
-- document 01's limits"
abbrev pub text_refusal_of : TextRefusal → Refusal
text_refusal_of (Policy r) = refusal_of r
text_refusal_of (Misfit b) = refusal 41 b 0
text_refusal_of NotListed = refusal 42 0 0
text_refusal_of NotWithin = refusal 43 0 0

-- the answer of a check: nothing, or the refusal of the first fault
abbrev pub fault_of : {A : Type 0} → Result A Refused → Option Refusal
fault_of (Ok x) = none
fault_of (Err r) = some (refusal_of r)

-- the same of what reads or writes a text
abbrev pub text_fault_of : {A : Type 0} → Result A TextRefusal → Option Refusal
text_fault_of (Ok x) = none
text_fault_of (Err r) = some (text_refusal_of r)
