-- That the contract says something of every session: each list of calls comes out of some kinds, lengths and bytes, and a run of document 01's sample
-- session leaves its fifteen answers.
-- Assumes nothing.
use Prim.Native.Nat.{ℕ}
use mathlib.Core.Path.{◌≡◌, refl, ap, ◌∙◌}
use mathlib.Core.List.{List, [], ◌∷◌, map, flatten}
use lib.ListN.{length}
use lib.Seq.{take_at, drop_at}
use Rattle.format.specs.Answer.{accept}
use Rattle.format.specs.Layout.{capacity}
use Rattle.format.specs.Policy.{policy_of}
use Rattle.judge.specs.Sample.{sample_policy, sample_requests, sample_answers}
use Rattle.register.specs.Calls.{Call, deciding, closing, register_call}
use Rattle.demand3.proofs.Calls.{answers-map}
use Rattle.demand3.proofs.Sample.{session}
use Rattle.session.specs.Session.{call_of, cut, written, Ran}

-- the kind of a call, and its bytes
abbrev kind_of : Call → ℕ
kind_of (deciding q) = 0
kind_of (closing c) = 1

abbrev bytes_of : Call → List ℕ
bytes_of (deciding q) = q
bytes_of (closing c) = c

same-call : (c : Call) → call_of (kind_of c) (bytes_of c) ≡ c
unfolding call_of
same-call (deciding q) = refl
same-call (closing c) = refl

-- whatever the calls and the lengths of their requests and contexts, they are what their bytes are cut into
pub cut-back : (calls : List Call) → cut (map kind_of calls) (map (λ c. length (bytes_of c)) calls) (flatten (map bytes_of calls)) ≡ calls
unfolding cut flatten
cut-back [] = refl
cut-back (c ∷ cs) =
    rw (take_at (bytes_of c) (flatten (map bytes_of cs)) (length (bytes_of c)) refl, drop_at (bytes_of c) (flatten (map bytes_of cs)) (length (bytes_of c)) refl, same-call c, cut-back cs)

-- the sample session, in any buffer of one block
pub sample-run :
    (buffer before out table : List ℕ) → length buffer ≡ 512
    → (let calls = map deciding sample_requests in
    Ran sample_policy buffer (cut (map kind_of calls) (map (λ c. length (bytes_of c)) calls) (flatten (map bytes_of calls))) before (accept 15) out table)
    → out ≡ written sample_answers
unfolding register_call
sample-run buffer before out table e ran =
    (ran.kept 15 refl).answers-same
    ∙ rw (cut-back, e) (ap written (answers-map (register_call (policy_of sample_policy) (capacity 1)) deciding [] sample_requests ∙ session.register))
