-- An answer in four numbers, as callers of other languages get it: "number is 0 for acceptance and grant, with first = rules, records or places, or
-- first, second, third = recorded, removed, held; otherwise number is the refusal's, first and second its places, third 0".
-- Assumes nothing.
use Rattle.std.specs.Prelude.{ℕ, cond, leb}
use Rattle.format.specs.Answer.{Answer, accept, grant, refuse}
use Rattle.answers.specs.declared.numbers.SodReply.{SodReply}

pub record Four : Type 0 where
  pub number : ℕ
  pub first : ℕ
  pub second : ℕ
  pub third : ℕ

abbrev pub four : Answer → Four
four (accept n) = record { number = 0; first = n; second = 0; third = 0 }
four (grant recorded removed held) = record { number = 0; first = recorded; second = removed; third = held }
four (refuse r) = record { number = r.number; first = r.first; second = r.second; third = 0 }

-- the struct that C gets, as these four numbers
abbrev pub four_of : SodReply → Four
four_of r = record { number = r.number; first = r.first; second = r.second; third = r.third }

-- 41's byte has no bound in the papers, and C has 32 bits for it: what needs more is given as the highest number
unfoldable pub narrow : ℕ → ℕ
narrow n = cond (leb n 4294967295) n 4294967295

abbrev pub narrowed : Four → Four
narrowed f = record { number = f.number; first = narrow f.first; second = f.second; third = f.third }
