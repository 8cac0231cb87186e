-- The lines that are written while requests are decided one after another.
-- Assumes nothing.
use Rattle.std.proofs.Common.{arith, ◌≡◌, ℕ, zero, suc, ◌+◌, ◌-◌, ◌≤◌, ◌<◌, List, [], ◌∷◌, ◌++◌, length, take, drop, replicate, ◌*◌, None, Some, IfSome, sym, refl, ap, ◌∙◌, subst, append_assoc, append-nil}
use Rattle.std.specs.Prelude.{Option, ⊤}
use Rattle.std.specs.Io.KnownBytes.{Appends}
use Rattle.std.proofs.KnownBytes.{Appends-nil, Appends-trans}
use Rattle.format.specs.Answer.{Answer, Outcome}
use Rattle.judge.specs.Decide.{decide}
use Rattle.trial_run.specs.Reading.{ReadsFront, ReadsBlocks, policy_size, blocks_lent}
use Rattle.trial_run.specs.Text.{line, decided, table_after, Decided, most_requests, session_text, trial_text}

decided_none : (most : ℕ) (policy table : List ℕ) (ordinal : ℕ) → decided most policy table ordinal [] ≡ []
unfolding decided
decided_none zero policy table ordinal = refl
decided_none (suc most) policy table ordinal = refl

decided_end : (most : ℕ) (policy table : List ℕ) (ordinal : ℕ) (xs : List ℕ) → length (take 28 xs) ≡ 0 → decided most policy table ordinal xs ≡ []
decided_end most policy table ordinal [] e = decided_none most policy table ordinal
decided_end most policy table ordinal (x ∷ xs) e = absurd (omega arith)

decided_over : (most : ℕ) (policy table : List ℕ) (ordinal : ℕ) (xs : List ℕ) → most ≡ 0 → decided most policy table ordinal xs ≡ []
unfolding decided
decided_over zero policy table ordinal xs e = refl
decided_over (suc most) policy table ordinal xs e = absurd (omega arith)

decided_more : (most : ℕ) (policy table : List ℕ) (ordinal : ℕ) (xs bs : List ℕ) (answer : Answer) (after : List ℕ)
    → 0 < length bs → bs ≡ take 28 xs → record { answer = answer; state = after } ≡ decide policy table bs
    → decided (suc most) policy table ordinal xs ≡ line (ordinal + 1) answer ++ decided most policy after (ordinal + 1) (drop 28 xs)
unfolding decided
decided_more most policy table ordinal [] bs answer after some e h = absurd (omega (arith, ap length e))
decided_more most policy table ordinal (x ∷ xs) bs answer after some e h =
    ap (λ (o : Outcome (List ℕ)). line (ordinal + 1) o.answer ++ decided most policy o.state (ordinal + 1) (drop 28 (x ∷ xs))) (sym (h ∙ ap (decide policy table) e))

decided_one : (most rest : ℕ) (policy table : List ℕ) (ordinal : ℕ) (xs bs : List ℕ) (answer : Answer) (after : List ℕ)
    → most ≡ suc rest → 0 < length bs → bs ≡ take 28 xs → record { answer = answer; state = after } ≡ decide policy table bs
    → decided most policy table ordinal xs ≡ line (ordinal + 1) answer ++ decided rest policy after (ordinal + 1) (drop 28 xs)
decided_one most rest policy table ordinal xs bs answer after n some e h =
    ap (λ m. decided m policy table ordinal xs) n ∙ decided_more rest policy table ordinal xs bs answer after some e h

-- after so many requests: the writer holds their lines, and the lines of the rest are still to come
abbrev pub Decides : Option (List ℕ) → Option (List ℕ) → Option (List ℕ) → Option (List ℕ) → List ℕ → List ℕ → List ℕ → ℕ → Type 0
Decides None left a b policy before table ordinal = ⊤
Decides (Some xs) left a b policy before table ordinal =
    (ys : List ℕ) × (left ≡ Some ys) × (text : List ℕ) × Appends a b text
    × (decided most_requests policy before 0 xs ≡ text ++ decided (most_requests - ordinal) policy table ordinal ys)

pub none_yet : (o a : Option (List ℕ)) (policy before : List ℕ) → Decides o o a a policy before before 0
none_yet None a policy before = tt
none_yet (Some xs) a policy before = (xs, refl, [], Appends-nil a, refl)

pub one_more : (o left rest a b c : Option (List ℕ)) (policy before table after : List ℕ) (ordinal : ℕ) (bs : List ℕ) (answer : Answer)
    → Decides o left a b policy before table ordinal → ordinal < most_requests → ReadsFront left rest (λ _. 28) bs → 0 < length bs
    → record { answer = answer; state = after } ≡ decide policy table bs → Appends b c (line (ordinal + 1) answer)
    → Decides o rest a c policy before after (ordinal + 1)
one_more None left rest a b c policy before table after ordinal bs answer d less r some h w = tt
one_more (Some xs) left rest a b c policy before table after ordinal bs answer (ys, e, text, held, all) less r some h w =
    let read : ReadsFront (Some ys) rest (λ _. 28) bs = subst (λ o. ReadsFront o rest (λ _. 28) bs) e r in
    let count : most_requests - ordinal ≡ suc (most_requests - (ordinal + 1)) = omega arith in
    let one = decided_one (most_requests - ordinal) (most_requests - (ordinal + 1)) policy table ordinal ys bs answer after count some read.0 h in
    (drop 28 ys, read.1, text ++ line (ordinal + 1) answer, Appends-trans a b c _ _ held w, all ∙ ap (λ l. text ++ l) one ∙ sym (append_assoc text (line (ordinal + 1) answer) _))

whole : (a b : Option (List ℕ)) (all text rest : List ℕ) → Appends a b text → all ≡ text ++ rest → rest ≡ [] → Appends a b all
whole a b all text rest held e none = subst (Appends a b) (sym (e ∙ ap (λ l. text ++ l) none ∙ append-nil text)) held

pub at_the_end : (o left rest a b : Option (List ℕ)) (policy before table : List ℕ) (ordinal : ℕ) (bs : List ℕ)
    → Decides o left a b policy before table ordinal → ReadsFront left rest (λ _. 28) bs → length bs ≡ 0
    → IfSome o (λ xs. Appends a b (decided most_requests policy before 0 xs))
at_the_end None left rest a b policy before table ordinal bs d r none = tt
at_the_end (Some xs) left rest a b policy before table ordinal bs (ys, e, text, held, all) r none =
    let read : ReadsFront (Some ys) rest (λ _. 28) bs = subst (λ o. ReadsFront o rest (λ _. 28) bs) e r in
    whole a b _ text _ held all (decided_end (most_requests - ordinal) policy table ordinal ys (ap length (sym read.0) ∙ none))

pub at_the_bound : (o left a b : Option (List ℕ)) (policy before table : List ℕ) (ordinal : ℕ)
    → Decides o left a b policy before table ordinal → most_requests ≤ ordinal → IfSome o (λ xs. Appends a b (decided most_requests policy before 0 xs))
at_the_bound None left a b policy before table ordinal d over = tt
at_the_bound (Some xs) left a b policy before table ordinal (ys, e, text, held, all) over =
    whole a b _ text _ held all (decided_over (most_requests - ordinal) policy table ordinal ys (omega arith))

-- the policy, the table's blocks, then the session
pub run_whole : (o m n a b : Option (List ℕ)) (policy buffer : List ℕ) (blocks : ℕ)
    → ReadsFront o m policy_size policy → ReadsBlocks m n blocks → buffer ≡ replicate (512 * blocks) 0
    → IfSome n (λ xs. Appends a b (session_text policy buffer xs)) → IfSome o (λ xs. Appends a b (trial_text xs))
run_whole None m n a b policy buffer blocks p q e h = tt
run_whole (Some xs) m n a b policy buffer blocks p q e h =
    let rest = drop (policy_size xs) xs in
    let read : ReadsBlocks (Some rest) n blocks = subst (λ o. ReadsBlocks o n blocks) p.1 q in
    let said : Appends a b (session_text policy buffer (drop 2 rest)) = subst (λ o. IfSome o (λ ys. Appends a b (session_text policy buffer ys))) read.1 h in
    let under = subst (λ l. Appends a b (session_text policy l (drop 2 rest))) (e ∙ ap (λ k. replicate (512 * k) 0) read.0) said in
    subst (λ l. Appends a b (session_text l (replicate (512 * blocks_lent rest) 0) (drop 2 rest))) p.0 under

-- ---- the table

after_one_more : (policy table : List ℕ) (requests : List (List ℕ)) (request : List ℕ)
    → table_after policy table (requests ++ request ∷ []) ≡ (decide policy (table_after policy table requests) request).state
unfolding table_after
after_one_more policy table [] request = refl
after_one_more policy table (r ∷ rs) request = after_one_more policy (decide policy table r).state rs request

pub table_as_it_was : (policy table : List ℕ) → Decided policy table table
unfolding table_after
table_as_it_was policy table = ([], refl)

pub table_one_more : (policy before table after request : List ℕ) (answer : Answer)
    → Decided policy before table → record { answer = answer; state = after } ≡ decide policy table request → Decided policy before after
table_one_more policy before table after request answer (requests, e) h =
    (requests ++ request ∷ [], ap (λ (o : Outcome (List ℕ)). o.state) h ∙ ap (λ l. (decide policy l request).state) e ∙ sym (after_one_more policy before requests request))

pub table_as_made : (policy table : List ℕ) (answer : Answer) (o : Outcome (List ℕ)) → record { answer = answer; state = table } ≡ o → Decided policy o.state table
unfolding table_after
table_as_made policy table answer o e = ([], ap (λ (p : Outcome (List ℕ)). p.state) e)
