-- Steps, members and exclusions that may be written are read as they were.
-- Assumes nothing.
use Prim.Native.Nat.{ℕ, ◌+◌, ◌<◌}
use native.Mathlib.Omega.{arith}
use mathlib.Core.Path.{◌≡◌, refl, sym, ap, ◌∙◌}
use mathlib.Core.Bool.{true, not, ◌&&◌}
use mathlib.Core.List.{List, [], ◌∷◌}
use mathlib.Core.Option.{none}
use borrow.Author.Tests.{eqb-true}
use lib.Dec.{eqb, leb}
use Rattle.words.specs.Lists.{all_below, tab}
use Rattle.words.specs.First.{◌or_else◌, unless}
use Rattle.word_laws.proofs.First.{none_first, none-second, unless-passes}
use Rattle.word_laws.proofs.Tests.{both_first, both-second, all_below-at}
use Rattle.forms.proofs.Tests.{one_passes}
use Rattle.format.specs.Answer.{refusal}
use Rattle.format.specs.Rule.{Privilege, Exclusion, good_exclusion, good_roles, good_privileges}
use Rattle.xml.specs.Tags.{Tag, start_exclusion, end_exclusion}
use Rattle.xml.specs.Names.{role_names, operation_names, target_names, good_names, name_of}
use Rattle.xml.specs.Read.{listed, or_zero, decimal_from, decimal, privilege_fault, privilege_of, role_fault, role_of, Reading, new_members, with_member, with_exclusion, in_exclusion, after_tag, tag_fault}
use Rattle.xml.specs.Write.{name_text, member_fault}
use Rattle.xml_laws.proofs.TextRuleTags.{member_tag, exclusion_tags}
use Rattle.xml_laws.proofs.TextListed.{of-kind}
use Rattle.xml_laws.proofs.TextRules.{flatten-single}
use Rattle.xml_laws.proofs.TextCopies.{copied, GoodExclusion, good-exclusion, copied-alike, good-alike}
use Rattle.xml_laws.proofs.TextLevels.{Numbered, found}
use Rattle.xml_laws.proofs.TextReads.{Reads, reads_none, reads-tag, reads_then, reads-row, tab-grows}

-- one digit is read as its number
one-digit-read : (m : ℕ) → decimal ((48 + m) ∷ []) ≡ m
unfolding decimal decimal_from
one-digit-read m = omega arith

-- what has been read when a member, an exclusion has been read
abbrev pub with_one : Reading → Privilege → Reading
with_one s p = in_exclusion s (with_member s.exclusion p)

abbrev pub behind : Reading → Exclusion → Reading
behind s x = record { rules = s.rules; rule = with_exclusion s.rule (copied x); exclusion = new_members 0 0 }

module _ (l second : List ℕ) (room : ℕ) (good : good_names l ≡ true) (numbered : Numbered l) where
  -- ---- steps and members

  -- what was written as an operation's and a target's name is read as that privilege
  pub privilege-read : (p : Privilege) → listed (name_of l operation_names p.operation) or_else listed (name_of l target_names p.target) ≡ none
      → (privilege_fault l (name_text l operation_names p.operation) (name_text l target_names p.target) ≡ none)
      × (privilege_of l (name_text l operation_names p.operation) (name_text l target_names p.target) ≡ p)
  unfolding privilege_fault privilege_of listed or_zero ◌or_else◌
  privilege-read p h =
      let o = found l good numbered operation_names p.operation (none_first _ _ h) in
      let t = found l good numbered target_names p.target (none-second (listed (name_of l operation_names p.operation)) _ h) in
      rw (o, t) (refl, refl)

  -- and what was written as a role's name as that role
  role-read : (p : Privilege) → listed (name_of l role_names p.operation) ≡ none → leb p.operation 32 ≡ true → p.target ≡ 0
      → (role_fault l (name_text l role_names p.operation) ≡ none) × (role_of l (name_text l role_names p.operation) ≡ p)
  unfolding role_fault role_of listed or_zero ◌or_else◌ unless
  role-read p h most none-there =
      let o = found l good numbered role_names p.operation h in
      rw o (rw most refl, ap (λ t. record { operation = p.operation; target = t }) (sym none-there))

  -- a member is read as it was, of either kind
  role-reads : (p : Privilege) → leb p.operation 32 ≡ true → p.target ≡ 0 → (s : Reading) → member_fault l 1 p ≡ none
      → Reads l second room s (member_tag l 1 p ∷ []) (with_one s p)
  unfolding member_tag member_fault after_tag tag_fault
  role-reads p most none-there s h =
      let r = role-read p h most none-there in
      reads-tag l second room s (member_tag l 1 p) r.0 (ap (with_one s) r.1) (reads_none l second room (with_one s p))

  privilege-reads : (p : Privilege) (s : Reading) → member_fault l 2 p ≡ none → Reads l second room s (member_tag l 2 p ∷ []) (with_one s p)
  unfolding member_tag member_fault after_tag tag_fault
  privilege-reads p s h =
      let r = privilege-read p h in
      reads-tag l second room s (member_tag l 2 p) r.0 (ap (with_one s) r.1) (reads_none l second room (with_one s p))

  member-reads : (x : Exclusion) → GoodExclusion x → (i : ℕ) → i < x.n → member_fault l x.kind (x.member i) ≡ none → (s : Reading)
      → Reads l second room s (member_tag l x.kind (x.member i) ∷ []) (with_one s (x.member i))
  unfolding good_roles
  member-reads x g i b h s =
      one_passes (eqb x.kind 1 && good_roles x) (eqb x.kind 2 && good_privileges x) g.members
      (λ a.
      let p = x.member i in
      let least = leb 1 p.operation in
      let most = leb p.operation 32 in
      let blank = eqb p.target 0 in
      let others = all_below i (λ j. not (eqb (x.member j).operation p.operation)) in
      let r = both-second (eqb x.kind 1) (good_roles x) a in
      let t = both_first (least && most && blank) others (all_below-at x.n i _ r b) in
      of-kind Read 1 x (eqb-true x.kind 1 (both_first (eqb x.kind 1) (good_roles x) a))
      (role-reads p (both-second least most (both_first (least && most) blank t)) (eqb-true p.target 0 (both-second (least && most) blank t)) s) h)
      (λ a. of-kind Read 2 x (eqb-true x.kind 2 (both_first (eqb x.kind 2) (good_privileges x) a)) (privilege-reads (x.member i) s) h)
    where
      Read : Exclusion → Type 0
      Read y =
          member_fault l y.kind (y.member i) ≡ none
          → Reads l second room s (member_tag l y.kind (y.member i) ∷ []) (with_one s (y.member i))

  -- ---- exclusions

  -- a good exclusion is read as its copy
  pub exclusion-reads : (x : Exclusion) → good_exclusion x ≡ true → ((i : ℕ) → i < x.n → member_fault l x.kind (x.member i) ≡ none)
      → (s : Reading) → Reads l second room s (exclusion_tags l x) (behind s x)
  unfolding exclusion_tags after_tag tag_fault copied tab
  exclusion-reads x h members s =
      let g = good-exclusion x h in
      let has : List Privilege → Reading = λ ms. in_exclusion s (record { kind = x.kind; m = x.m; members = ms }) in
      let state : ℕ → Reading = λ i. has (tab x.member 0 i) in
      let tags : ℕ → Tag = λ i. member_tag l x.kind (x.member i) in
      reads-tag l second room s (start_exclusion x.kind ((48 + x.m) ∷ [])) refl
      (ap (λ m. in_exclusion s (new_members x.kind m)) (one-digit-read x.m))
      (rw (← flatten-single tags 0 x.n)
      (reads_then l second room {s = state 0}
      (reads-row l second room state (λ i. tags i ∷ []) x.n
      (λ i b. rw (← ap has (tab-grows x.member i)) (member-reads x g i b (members i b) (state i))))
      (reads-tag l second room (state x.n) end_exclusion
      (unless-passes (refusal 43 0 0) (good-alike (copied x) x (copied-alike x g) g.few ∙ h)) refl (reads_none l second room (behind s x)))))
