-- Reading and writing together: three claims about the calls, for all bytes. Proved in crates/xml_laws/proofs/RoundTrip.antt.
-- Assumes nothing.
use Rattle.std.specs.Prelude.{ℕ, ◌<◌, ◌≤◌, ◌≡◌, List, length, take, get_or}
use Rattle.std.proofs.Math.Option.{none}
use Rattle.format.specs.Answer.{accept, Outcome}
use Rattle.format.specs.Policy.{policy_of, policy_fault}
use Rattle.xml.specs.Write.{rules_text}
use Rattle.xml_calls.specs.Calls.{resulting, read_rules, write_rules}

-- the numbers of a list are bytes
abbrev pub Bytes : List ℕ → Type 0
Bytes s = (i : ℕ) → get_or s i 0 < 256

-- what a call that answers n has left at the front of its output
abbrev pub front : ℕ → Outcome (List ℕ) → List ℕ
front n o = take n o.state

-- "Reading that text with the same list, that policy as the second image, and room enough, yields the same rule blocks": where writing succeeds. Its own
-- permission blocks follow them, so it yields the same image.
abbrev pub RoundTrip : Type 0
RoundTrip =
    (policy l output lent : List ℕ) (n : ℕ) → Bytes policy → Bytes l → (write_rules policy l output).answer ≡ accept n → length policy ≤ length lent
    → read_rules (front n (write_rules policy l output)) l policy lent ≡ resulting policy lent

-- every text that reads gives an accepted policy
abbrev pub ReadsPolicies : Type 0
ReadsPolicies =
    (text l second output : List ℕ) (n : ℕ) → Bytes l → (read_rules text l second output).answer ≡ accept n
    → policy_fault (front n (read_rules text l second output)) ≡ none

-- what was read is written, where there is room for it; and reading that again changes nothing
pub record WritesAgain (policy l paper : List ℕ) : Type 0 where
  pub long : ℕ
  pub writes : (write_rules policy l paper).answer ≡ accept long
  pub same : (lent : List ℕ) → length policy ≤ length lent → read_rules (front long (write_rules policy l paper)) l policy lent ≡ resulting policy lent

abbrev pub ReadsAgain : Type 0
ReadsAgain =
    (text l second output paper : List ℕ) (n : ℕ) → Bytes l → Bytes second → (read_rules text l second output).answer ≡ accept n
    → length (rules_text l (policy_of (front n (read_rules text l second output)))) ≤ length paper → WritesAgain (front n (read_rules text l second output)) l paper
