-- What a trial run writes: a line for each request, or one line where no table is made.
-- Assumes nothing.
use Rattle.std.specs.Prelude.{◌≡◌, ℕ, zero, suc, ◌+◌, ◌*◌, List, [], ◌∷◌, ◌++◌, take, drop, replicate, codes, decimal}
use Rattle.format.specs.Answer.{Answer, accept, grant, refuse}
use Rattle.format.specs.Calls.{make_table}
use Rattle.format.specs.Layout.{block_bytes, request_bytes}
use Rattle.judge.specs.Decide.{decide}
use Rattle.trial_run.specs.Reading.{policy_size, blocks_lent}

-- a space and a number
abbrev pub number : ℕ → List ℕ
number n = codes " " ++ decimal n

-- the words of an answer, with its three numbers, its number and two places, or its one number
abbrev pub answer_words : Answer → List ℕ
answer_words (accept n) = codes " accept" ++ number n
answer_words (grant recorded removed held) = codes " grant" ++ number recorded ++ number removed ++ number held
answer_words (refuse r) = codes " refuse" ++ number r.number ++ number r.first ++ number r.second

-- a line: the ordinal and the answer
abbrev pub line : ℕ → Answer → List ℕ
line ordinal answer = decimal ordinal ++ answer_words answer ++ 10 ∷ []

-- the requests in the bytes decided one after another, as many as `most` at the most: the lines of what decide answers, each under the table that the one
-- before left. The last request may be cut short.
unfoldable pub decided : ℕ → List ℕ → List ℕ → ℕ → List ℕ → List ℕ
decided zero policy table ordinal xs = []
decided (suc most) policy table ordinal [] = []
decided (suc most) policy table ordinal (x ∷ xs) =
    let o = decide policy table (take request_bytes (x ∷ xs)) in
    line (ordinal + 1) o.answer ++ decided most policy o.state (ordinal + 1) (drop request_bytes (x ∷ xs))

-- the table after some requests, one after another
unfoldable pub table_after : List ℕ → List ℕ → List (List ℕ) → List ℕ
table_after policy table [] = table
table_after policy table (request ∷ requests) = table_after policy (decide policy table request).state requests

-- decisions alone made the one table of the other
abbrev pub Decided : List ℕ → List ℕ → List ℕ → Type 0
Decided policy before after = (requests : List (List ℕ)) × (after ≡ table_after policy before requests)

-- the ordinals are numbers of 64 bits
abbrev pub most_requests : ℕ
most_requests = 18446744073709551615

-- after the call that makes the table: a refusal is a line of its own, with the ordinal 0
abbrev pub after_making : Answer → List ℕ → List ℕ → List ℕ → List ℕ
after_making (accept n) policy table xs = decided most_requests policy table 0 xs
after_making (grant recorded removed held) policy table xs = line 0 (grant recorded removed held)
after_making (refuse r) policy table xs = line 0 (refuse r)

-- the session of one policy and one lent buffer
abbrev pub session_text : List ℕ → List ℕ → List ℕ → List ℕ
session_text policy buffer xs = after_making (make_table policy buffer).answer policy (make_table policy buffer).state xs

-- after the policy: the table's blocks, then the requests
abbrev pub under : List ℕ → List ℕ → List ℕ
under policy xs = session_text policy (replicate (block_bytes * blocks_lent xs) 0) (drop 2 xs)

-- the whole run
abbrev pub trial_text : List ℕ → List ℕ
trial_text xs = under (take (policy_size xs) xs) (drop (policy_size xs) xs)
