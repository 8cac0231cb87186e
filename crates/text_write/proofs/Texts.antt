-- The text as the definitions spell it is the row of pieces that the code lays down.
-- Assumes nothing.
use Prim.Native.Nat.{ℕ, ◌+◌, ◌<◌}
use Prim.Native.String.{String}
use native.Mathlib.Omega.{arith}
use mathlib.Core.Path.{◌≡◌, refl, sym, ◌∙◌}
use mathlib.Core.Bool.{Bool, true, false, cond}
use mathlib.Core.List.{List, [], ◌∷◌, ◌++◌, append_assoc}
use lib.Dec.{eqb}
use borrow.Author.Tests.{eq-eqb, ne_eqb}
use Rattle.forms.specs.Form.{ascii}
use Rattle.format.specs.Rule.{Level, Privilege, Step, Exclusion, Rule}
use Rattle.xml.specs.Names.{most_name_bytes, value_names, role_names, operation_names, target_names}
use Rattle.xml.specs.Write.{name_text, attribute_text, value_text, context_text, step_text, member_text, exclusion_text, rule_text}
use Rattle.text_write.specs.Words.{rule_start, tag_end, rule_end, first_start, last_start, target_uri, element_end, roles_start, privileges_start, roles_end, privileges_end, role_start, privilege_start, privilege_target, comma, every_sign, each_sign}
use Rattle.std.specs.declared.result.Result.TheVariants.{Ok}
use Rattle.text_write.specs.Laid.{Lays, Puts}
use Rattle.text_write.specs.declared.put.Placed.{Placed}
use Rattle.text_write.specs.Lost.{name_lost, privilege_lost, step_lost, member_lost, value_lost}
use Rattle.text_write.specs.Pieces.{most_role_bytes, most_pair_bytes, role_text, pair_text, opening_text, members_text, members_lost, set_step_text, steps_text, comma_text, exclusions_text}
use Rattle.text_write.proofs.Laying.{told, puts-ok, retold, lays-nothing}

-- ---- attributes

-- an attribute up to its value
abbrev equals : String → List ℕ
equals n = ascii " " ++ ascii n ++ ascii "=\""

-- a tag with one value, and one with two: what stands between values is one piece
one-joined : (s a q e v : List ℕ) → s ++ a ++ v ++ (q ++ e) ≡ s ++ (a ++ v ++ q) ++ e
one-joined s a q e v = simp append_assoc

two-joined : (s a b q e v u : List ℕ) → s ++ a ++ v ++ (q ++ b) ++ u ++ (q ++ e) ≡ s ++ (a ++ v ++ q) ++ (b ++ u ++ q) ++ e
two-joined s a b q e v u = simp append_assoc

-- ---- members

-- what is chosen by a kind is one of two
pub two-words : (k : ℕ) {r a b n : ℕ} → r ≡ cond (eqb k 1) a b → a < n → b < n → r < n
two-words k {r} {a} {b} {n} e g h = rw e (go (eqb k 1))
  where
    go : (t : Bool) → cond t a b < n
    go true = g
    go false = h

-- a role's tag, and a privilege's: the fixed pieces are what the definition spells between the names
role-spelt : (v : List ℕ)
    → role_start ++ v ++ element_end ≡ ascii "<Role" ++ attribute_text "type" (ascii "role") ++ attribute_text "value" v ++ ascii "/>"
unfolding ascii
role-spelt v = one-joined (ascii "<Role" ++ attribute_text "type" (ascii "role")) (equals "value") (ascii "\"") (ascii "/>") v

privilege-spelt : (v u : List ℕ)
    → privilege_start ++ v ++ privilege_target ++ u ++ element_end ≡ ascii "<Operation" ++ attribute_text "value" v ++ attribute_text "target" u ++ ascii "/>"
unfolding ascii
privilege-spelt v u = two-joined (ascii "<Operation") (equals "value") (equals "target") (ascii "\"") (ascii "/>") v u

module _ (l : List ℕ) (k : ℕ) (p : Privilege) where
  -- the member of either kind
  role-words : k ≡ 1 → role_text l p.operation ≡ member_text l k p
  unfolding member_text
  role-words e = role-spelt (name_text l role_names p.operation) ∙ rw (eq-eqb k 1 e)

  privilege-words : (k ≡ 1 → ⊥) → pair_text l privilege_start privilege_target p ≡ member_text l k p
  unfolding member_text pair_text
  privilege-words e = privilege-spelt (name_text l operation_names p.operation) (name_text l target_names p.target) ∙ rw (ne_eqb k 1 e)

module _ (l : List ℕ) (k : ℕ) (p : Privilege) {o o' : List ℕ} {q : ℕ} (r : Placed) where
  -- a member that is a role
  pub role-member : k ≡ 1 → Puts most_role_bytes o q (role_text l p.operation) (name_lost l role_names p.operation) o' r
      → Puts most_pair_bytes o q (member_text l k p) (member_lost l k p) o' r
  unfolding member_lost
  role-member e x = retold r x (role-words l k p e) (rw (eq-eqb k 1 e)) (omega arith)

  -- one that is a privilege
  pub privilege-member : (k ≡ 1 → ⊥) → Puts most_pair_bytes o q (pair_text l privilege_start privilege_target p) (privilege_lost l p) o' r
      → Puts most_pair_bytes o q (member_text l k p) (member_lost l k p) o' r
  unfolding member_lost
  privilege-member e x = retold r x (privilege-words l k p e) (rw (ne_eqb k 1 e)) (omega arith)

-- ---- exclusions

-- of a kind, the members' texts and their loss ask only whether it is that of roles
pub members-alike : (l : List ℕ) (j k : ℕ) (f : ℕ → Privilege) (n : ℕ) → eqb j 1 ≡ eqb k 1 → members_text l j f n ≡ members_text l k f n
unfolding members_text member_text
members-alike l j k f n e = rw e

pub lost-alike : (l : List ℕ) (j k : ℕ) (f : ℕ → Privilege) (n : ℕ) → eqb j 1 ≡ eqb k 1 → members_lost l j f n ≡ members_lost l k f n
unfolding members_lost member_lost
lost-alike l j k f n e = rw e

-- an end tag is one piece
closed : (p m a b e : List ℕ) → p ++ m ++ (a ++ b ++ e) ≡ p ++ m ++ a ++ b ++ e
closed p m a b e = simp append_assoc

-- the tags of either kind of exclusion
exclusion-spelt : (roles : Bool) (digit : ℕ) (m : List ℕ) → let name = cond roles (ascii "MMER") (ascii "MMEP") in
    cond roles roles_start privileges_start ++ (digit ∷ []) ++ tag_end ++ m ++ cond roles roles_end privileges_end
    ≡ ascii "<" ++ name ++ attribute_text "ForbiddenCardinality" (digit ∷ []) ++ ascii ">" ++ m ++ ascii "</" ++ name ++ ascii ">"
unfolding ascii
exclusion-spelt true d m =
    closed (ascii "<" ++ ascii "MMER" ++ attribute_text "ForbiddenCardinality" (d ∷ []) ++ ascii ">") m (ascii "</") (ascii "MMER") (ascii ">")
exclusion-spelt false d m =
    closed (ascii "<" ++ ascii "MMEP" ++ attribute_text "ForbiddenCardinality" (d ∷ []) ++ ascii ">") m (ascii "</") (ascii "MMEP") (ascii ">")

-- an exclusion is its opening, its members and its end
pub exclusion-words : (l : List ℕ) (x : Exclusion)
    → exclusion_text l x ≡ opening_text x.kind x.m ++ members_text l x.kind x.member x.n ++ cond (eqb x.kind 1) roles_end privileges_end
unfolding exclusion_text members_text
exclusion-words l x = sym (exclusion-spelt (eqb x.kind 1) (48 + x.m) (members_text l x.kind x.member x.n))

-- ---- steps

module _ (l w : List ℕ) (s : Step) where
  -- a step that is not set has no text
  pub step-none : (o : List ℕ) (a : ℕ) → (s.flag ≡ 1 → ⊥) → Puts most_pair_bytes o a (set_step_text l w s) (step_lost l s) o (record { next = a; named = Ok tt })
  unfolding set_step_text step_lost
  step-none o a e = rw (ne_eqb s.flag 1 e) (puts-ok refl (told (lays-nothing o a) refl (omega arith)))

  -- one that is set has its privilege's
  pub step_set : (r : Placed) {o o' : List ℕ} {a : ℕ} {q : Privilege} → s.flag ≡ 1 → q ≡ s.privilege
      → Puts most_pair_bytes o a (pair_text l w target_uri q) (privilege_lost l q) o' r
      → Puts most_pair_bytes o a (set_step_text l w s) (step_lost l s) o' r
  unfolding set_step_text step_lost
  step_set r {o} {o'} {a} {q} e f x =
      retold r x (rw (eq-eqb s.flag 1 e, f)) (rw (eq-eqb s.flag 1 e, f)) (omega arith)

-- ---- levels

-- before the first level stands nothing, before any other a comma
pub comma-first : (i : ℕ) → i ≡ 0 → [] ≡ comma_text i
unfolding comma_text
comma-first i e = rw e

pub comma-later : (i : ℕ) → (i ≡ 0 → ⊥) → comma ≡ comma_text i
unfolding comma_text
comma-later i e = rw (ne_eqb i 0 e)

module _ (l : List ℕ) (x : Level) {o o' : List ℕ} {a : ℕ} where
  -- a fixed value has a name
  pub value-fixed : (r : Placed) → x.mark ≡ 1 → Puts most_name_bytes o a (name_text l value_names x.value) (name_lost l value_names x.value) o' r
      → Puts most_name_bytes o a (value_text l x) (value_lost l x) o' r
  unfolding value_text
  value-fixed r e y = rw (eq-eqb x.mark 1 e) y

  -- the sign for all values, counted together, and that for all, each by itself
  pub value-every : {a' : ℕ} → x.mark ≡ 2 → Lays 1 o a every_sign o' a' → Puts most_name_bytes o a (value_text l x) (value_lost l x) o' (record { next = a'; named = Ok tt })
  unfolding value_text
  value-every e y = rw e (puts-ok refl (told y refl (omega arith)))

  pub value-each : {a' : ℕ} → (x.mark ≡ 1 → ⊥) → (x.mark ≡ 2 → ⊥) → Lays 1 o a each_sign o' a'
      → Puts most_name_bytes o a (value_text l x) (value_lost l x) o' (record { next = a'; named = Ok tt })
  unfolding value_text
  value-each d e y = rw (ne_eqb x.mark 1 d, ne_eqb x.mark 2 e) (puts-ok refl (told y refl (omega arith)))

-- ---- rules

-- the tags of the two steps
first-spelt : (v u : List ℕ)
    → first_start ++ v ++ target_uri ++ u ++ element_end
    ≡ ascii "<" ++ ascii "FirstStep" ++ attribute_text "operation" v ++ attribute_text "targetURI" u ++ ascii "/>"
unfolding ascii
first-spelt v u = two-joined (ascii "<" ++ ascii "FirstStep") (equals "operation") (equals "targetURI") (ascii "\"") (ascii "/>") v u

last-spelt : (v u : List ℕ)
    → last_start ++ v ++ target_uri ++ u ++ element_end
    ≡ ascii "<" ++ ascii "LastStep" ++ attribute_text "operation" v ++ attribute_text "targetURI" u ++ ascii "/>"
unfolding ascii
last-spelt v u = two-joined (ascii "<" ++ ascii "LastStep") (equals "operation") (equals "targetURI") (ascii "\"") (ascii "/>") v u

-- a step, set or not
first-words : (l : List ℕ) (s : Step) → set_step_text l first_start s ≡ step_text l "FirstStep" s
unfolding set_step_text pair_text step_text
first-words l s = rw (first-spelt (name_text l operation_names s.privilege.operation) (name_text l target_names s.privilege.target))

last-words : (l : List ℕ) (s : Step) → set_step_text l last_start s ≡ step_text l "LastStep" s
unfolding set_step_text pair_text step_text
last-words l s = rw (last-spelt (name_text l operation_names s.privilege.operation) (name_text l target_names s.privilege.target))

-- a rule's tags: the end of the context's value and of its tag are one piece
rule-joined : (s a q e z c f t x : List ℕ) → s ++ a ++ c ++ (q ++ e) ++ (f ++ t) ++ x ++ z ≡ s ++ (a ++ c ++ q) ++ e ++ f ++ t ++ x ++ z
rule-joined s a q e z c f t x = simp append_assoc

rule-spelt : (c f t x : List ℕ)
    → rule_start ++ c ++ tag_end ++ (f ++ t) ++ x ++ rule_end
    ≡ ascii "<MSoDPolicy" ++ attribute_text "BusinessContext" c ++ ascii ">" ++ f ++ t ++ x ++ ascii "</MSoDPolicy>"
unfolding ascii
rule-spelt c f t x = rule-joined (ascii "<MSoDPolicy") (equals "BusinessContext") (ascii "\"") (ascii ">") (ascii "</MSoDPolicy>") c f t x

-- a rule is its context, its steps and its exclusions between fixed pieces
pub rule-words : (l : List ℕ) (r : Rule)
    → rule_start ++ context_text l r ++ tag_end ++ steps_text l r ++ exclusions_text l r ++ rule_end ≡ rule_text l r
unfolding rule_text exclusions_text
rule-words l r =
    rw (first-words l r.first_step, last-words l r.last_step)
    (rule-spelt (context_text l r) (step_text l "FirstStep" r.first_step) (step_text l "LastStep" r.last_step) (exclusions_text l r))
