-- Where each part of a rule's image stands: its counts and flags, its levels, its steps, its exclusions with their members, and zeros elsewhere.
-- Assumes nothing.
use Prim.Native.Nat.{ℕ, ◌+◌, ◌*◌, ◌<◌}
use native.Mathlib.Nat.{zero-add}
use mathlib.Core.Path.{◌≡◌, refl, sym, ap, ◌∙◌}
use mathlib.Core.List.{List, [], ◌∷◌, ◌++◌, flatten, append_assoc, append-nil}
use lib.ListN.{length, drop}
use lib.Seq.{drop-drop}
use Rattle.words.specs.Lists.{tab}
use Rattle.words.specs.Bytes.{zeros, part}
use Rattle.word_laws.proofs.Every.{every-tab}
use Rattle.word_laws.proofs.Lists.{length-tab, get_d-tab, part-flatten}
use Rattle.format.specs.Block.{kind}
use Rattle.format.specs.Layout.{check_at, rule_kind, most_levels, level_bytes, type_at, most_exclusions, exclusion_bytes, kind_at, most_members, member_bytes}
use Rattle.format.specs.Layout.{depth_at, rule_spare_at, rule_spare_bytes, rule_tail_at, rule_tail_bytes, first_step_at, last_step_at}
use Rattle.format.specs.Rule.{Level, Privilege, Exclusion, Rule}
use Rattle.xml.specs.Blocks.{level_image, privilege_image, exclusion_image, rule_image}

-- rows of one width from a byte on: row i
row : (s : List ℕ) (at w n : ℕ) (f : ℕ → List ℕ) (rest : List ℕ)
    → drop at s ≡ flatten (tab f 0 n) ++ rest → ((i : ℕ) → length (f i) ≡ w) → (i : ℕ) → i < n → part s (at + w * i) w ≡ f i
row s at w n f rest e l i h =
    rw (← drop-drop (w * i) at s, e)
    (part-flatten w i rest (every-tab f 0 n (λ j lo hi. l j)) (rw length-tab h) ∙ get_d-tab f 0 n i [] h ∙ ap f (zero-add i))

-- each image has its width
length-level : (l : Level) → length (level_image l) ≡ level_bytes
unfolding level_image
length-level l = refl

length-privilege : (p : Privilege) → length (privilege_image p) ≡ member_bytes
unfolding privilege_image
length-privilege p = refl

length-exclusion : (x : Exclusion) → length (exclusion_image x) ≡ exclusion_bytes
unfolding exclusion_image privilege_image tab flatten
length-exclusion x = refl

pub length-rule : (r : Rule) → length (rule_image r) ≡ check_at
unfolding rule_image level_image exclusion_image privilege_image tab flatten
length-rule r = refl

-- and a rule's image has the kind of a rule block
pub kind-rule : (r : Rule) → kind (rule_image r) ≡ rule_kind
unfolding rule_image
kind-rule r = refl

module _ (r : Rule) where
  levels : List ℕ
  levels = flatten (tab (λ i. level_image (r.level i)) 0 most_levels)

  exclusions : List ℕ
  exclusions = flatten (tab (λ e. exclusion_image (r.exclusion e)) 0 most_exclusions)

  -- "8: depth", "9: exclusions", "10, 11": the two flags
  pub counts-part : part (rule_image r) depth_at 4 ≡ r.depth ∷ r.exclusions ∷ r.first_step.flag ∷ r.last_step.flag ∷ []
  unfolding rule_image
  counts-part = refl

  -- bytes that are not named are zero
  pub spare-part : part (rule_image r) rule_spare_at rule_spare_bytes ≡ zeros rule_spare_bytes
  unfolding rule_image
  spare-part = refl

  -- what stands from the levels on
  from-levels :
      drop type_at (rule_image r)
      ≡ levels ++ (privilege_image r.first_step.privilege ++ (privilege_image r.last_step.privilege ++ (exclusions ++ zeros rule_tail_bytes)))
  unfolding rule_image levels exclusions
  from-levels =
      let first : List ℕ = privilege_image r.first_step.privilege in
      let last : List ℕ = privilege_image r.last_step.privilege in
      append_assoc (levels ++ first ++ last) exclusions (zeros rule_tail_bytes)
      ∙ append_assoc (levels ++ first) last (exclusions ++ zeros rule_tail_bytes)
      ∙ append_assoc levels first (last ++ (exclusions ++ zeros rule_tail_bytes))

  -- "16-47: four levels of 8"
  pub level-part : (i : ℕ) → i < most_levels → part (rule_image r) (type_at + level_bytes * i) level_bytes ≡ level_image (r.level i)
  unfolding levels
  level-part i h = row (rule_image r) type_at level_bytes most_levels (λ j. level_image (r.level j)) _ from-levels (λ j. length-level (r.level j)) i h

  -- "48-51, 52-55: first and last step"
  pub first_part : part (rule_image r) first_step_at member_bytes ≡ privilege_image r.first_step.privilege
  unfolding rule_image level_image privilege_image tab flatten
  first_part = refl

  pub last-part : part (rule_image r) last_step_at member_bytes ≡ privilege_image r.last_step.privilege
  unfolding rule_image level_image privilege_image tab flatten
  last-part = refl

  -- what stands from the exclusions on
  from-exclusions : drop kind_at (rule_image r) ≡ exclusions ++ zeros rule_tail_bytes
  unfolding rule_image level_image privilege_image tab flatten exclusions
  from-exclusions = refl

  -- "56-343: eight exclusions of 36"
  pub exclusion-part : (e : ℕ) → e < most_exclusions → part (rule_image r) (kind_at + exclusion_bytes * e) exclusion_bytes ≡ exclusion_image (r.exclusion e)
  unfolding exclusions
  exclusion-part e h =
      row (rule_image r) kind_at exclusion_bytes most_exclusions (λ j. exclusion_image (r.exclusion j)) (zeros rule_tail_bytes) from-exclusions
      (λ j. length-exclusion (r.exclusion j)) e h

  -- bytes behind them are zero up to the check
  pub tail-part : part (rule_image r) rule_tail_at rule_tail_bytes ≡ zeros rule_tail_bytes
  unfolding rule_image level_image exclusion_image privilege_image tab flatten
  tail-part = refl

-- "eight members of 4" of an exclusion, behind its first four bytes
pub member-part : (x : Exclusion) (i : ℕ) → i < most_members → part (exclusion_image x) (4 + member_bytes * i) member_bytes ≡ privilege_image (x.member i)
unfolding exclusion_image
member-part x i h =
    row (exclusion_image x) 4 member_bytes most_members (λ j. privilege_image (x.member j)) []
    (sym (append-nil (flatten (tab (λ j. privilege_image (x.member j)) 0 most_members)))) (λ j. length-privilege (x.member j)) i h
