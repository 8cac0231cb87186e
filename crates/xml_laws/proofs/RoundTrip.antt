-- The round trip, that every text that reads gives an accepted policy, and that writing what was read and reading it again changes nothing:
-- crates/xml_calls/specs/RoundTrip.antt says what these claim.
-- Assumes nothing.
use Prim.Native.Nat.{ℕ, zero, suc, ◌≤◌}
use native.Mathlib.Omega.{arith}
use mathlib.Core.Path.{◌≡◌, refl, ap, ◌∙◌}
use mathlib.Core.List.{List, [], ◌∷◌, ◌++◌}
use mathlib.Core.Option.{Option, none, some}
use lib.ListN.{length, drop}
use lib.Seq.{take_at}
use Rattle.words.specs.Lists.{tab}
use Rattle.word_laws.proofs.Bytes.{Byte}
use Rattle.word_laws.proofs.Every.{Every, empty, more}
use Rattle.word_laws.proofs.Lists.{map-tab}
use Rattle.format.specs.Answer.{Refusal, accept, refusing}
use Rattle.format.specs.Block.{block}
use Rattle.format.specs.Rule.{rule_at}
use Rattle.format.specs.Policy.{policy_of, rule_count}
use Rattle.names.proofs.LookUps.{name-number}
use Rattle.xml.specs.Blocks.{rule_image, permission_blocks, image_of, rules_image}
use Rattle.xml.specs.Write.{rules_text}
use Rattle.xml_calls.specs.RoundTrip.{Bytes, front, RoundTrip, ReadsPolicies, WritesAgain, ReadsAgain}
use Rattle.xml_calls.specs.Calls.{resulting, read_fault, read_image, read_rules, write_fault, write_rules}
use Rattle.xml_laws.proofs.ImageSame.{same-image}
use Rattle.xml_laws.proofs.ReadAccepted.{reads-accepted, reads_bytes}
use Rattle.xml_laws.proofs.ReadAgain.{written-again}
use Rattle.xml_laws.proofs.TextLevels.{Numbered}
use Rattle.xml_laws.proofs.TextRoundTrip.{written-accepted, written-good, written-fits, text-faultless, text-image}

every_byte : (s : List ℕ) → Bytes s → Every Byte s
every_byte [] b = empty
every_byte (x ∷ s) b = more (b 0) (every_byte s (λ i. b (suc i)))

bytes_of : {s : List ℕ} → Every Byte s → Bytes s
bytes_of empty i = omega arith
bytes_of (more p b) zero = p
bytes_of (more p b) (suc i) = bytes_of b i

-- a call that accepts met no fault
accepts : (o : Option Refusal) (s result output : List ℕ) (n : ℕ) → (refusing o s (resulting result output)).answer ≡ accept n → o ≡ none
unfolding refusing
accepts none s result output n e = refl
accepts (some r) s result output n e = cc

-- and has its result at the front of the output
front-result : (o : Option Refusal) (s result output : List ℕ) (n : ℕ) → (refusing o s (resulting result output)).answer ≡ accept n
    → front n (refusing o s (resulting result output)) ≡ result
unfolding refusing resulting
front-result none s result output n e = take_at result (drop (length result) output) n cc
front-result (some r) s result output n e = cc

-- with no fault it gives its result
gives : (o : Option Refusal) (s result output : List ℕ) → o ≡ none → refusing o s (resulting result output) ≡ resulting result output
unfolding refusing
gives o s result output e = rw e

answers : (o : Option Refusal) (s result output : List ℕ) → o ≡ none → (refusing o s (resulting result output)).answer ≡ accept (length result)
unfolding refusing resulting
answers o s result output e = rw e

-- what reading makes of a policy's own text beside the policy is the policy
text-again : (policy l : List ℕ) (room : ℕ) → Bytes policy → write_fault policy l room ≡ none → (output : ℕ) → length policy ≤ output
    → (read_fault (rules_text l (policy_of policy)) l policy output ≡ none) × (read_image (rules_text l (policy_of policy)) l policy ≡ policy)
unfolding policy_of rules_image
text-again policy l room bytes written output fit =
    let numbered : Numbered l = name-number l (written-good policy l room written) in
    let fits = written-fits policy l room written output fit in
    let own : image_of (tab (λ k. rule_image (rule_at (block policy k))) 0 (rule_count policy) ++ permission_blocks policy) ≡ policy =
    rw (← map-tab rule_image (λ k. rule_at (block policy k)) 0 (rule_count policy))
    (same-image policy (written-accepted policy l room written) (every_byte policy bytes)) in (
      text-faultless policy l room written policy output numbered fits (written-accepted policy l room written),
      text-image policy l room written policy output numbered fits ∙ own,
    )

pub round_trip : RoundTrip
unfolding read_rules write_rules
round_trip policy l output lent n bytes names e fit =
    let written = accepts _ _ _ _ n e in
    let again = text-again policy l (length output) bytes written (length lent) fit in
    rw (front-result _ output _ output n e)
    (gives _ lent _ lent again.0 ∙ ap (λ image. resulting image lent) again.1)

pub reads-policies : ReadsPolicies
unfolding read_rules
reads-policies text l second output n names e =
    rw (front-result _ output _ output n e) (reads-accepted text l second (length output) (accepts _ _ _ _ n e) (every_byte l names))

-- a policy that may be written is written, and reading the text again gives it
writes_again : (policy l paper : List ℕ) → Bytes l → Every Byte policy → write_fault policy l (length paper) ≡ none → WritesAgain policy l paper
unfolding write_rules
writes_again policy l paper names bytes written =
    let long = length (rules_text l (policy_of policy)) in
    let answer = answers (write_fault policy l (length paper)) paper (rules_text l (policy_of policy)) paper written in
    record { long = long; writes = answer; same = λ lent fit. round_trip policy l paper lent long (bytes_of bytes) names answer fit }

pub reads-again : ReadsAgain
unfolding read_rules
reads-again text l second output paper n names bytes e room =
    let faultless = accepts _ _ _ _ n e in
    let at : front n (refusing (read_fault text l second (length output)) output (resulting (read_image text l second) output)) ≡ read_image text l second =
    front-result _ output _ output n e in
    let fit : length (rules_text l (policy_of (read_image text l second))) ≤ length paper = rw at at room in
    rw at
    (writes_again (read_image text l second) l paper names
    (reads_bytes text l second (length output) faultless (every_byte l names) (every_byte second bytes))
    (written-again text l second (length output) faultless (every_byte l names) (length paper) fit))
