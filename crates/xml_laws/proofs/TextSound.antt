-- A rule that an accepted policy has and that may be written, and the rule that reading makes of its text: they are alike.
-- Assumes nothing.
use Prim.Native.Nat.{ℕ, ◌≤◌, ◌<◌}
use native.Mathlib.Omega.{arith}
use mathlib.Core.Path.{◌≡◌, refl, sym, ap, ap₂}
use mathlib.Core.Bool.{Bool, true, false, cond, not, ◌&&◌, ◌||◌, or-true}
use mathlib.Core.List.{List}
use mathlib.Core.Option.{none}
use borrow.Author.Tests.{eqb-true, leb-true, lt-ltb, le-ltb}
use lib.Dec.{eqb, leb, ltb}
use Rattle.words.specs.Lists.{all_below, tab}
use Rattle.word_laws.proofs.Lists.{length-tab}
use Rattle.word_laws.proofs.Tests.{both_first, both-second, all_below-at}
use Rattle.forms.proofs.Tests.{one_passes}
use Rattle.format.specs.Rule.{Level, Step, is_set, Exclusion, Rule, good_level, blank_level, good_step, good_steps, good_rule, good_roles, good_privileges, good_exclusion, blank_exclusion, good_exclusion_at, same_privilege, full_privilege}
use Rattle.format.specs.Rule.{blank_privilege as is_blank}
use Rattle.xml.specs.Names.{good_names}
use Rattle.xml.specs.Read.{step_of, no_step, level_from, Draft, new_members, exclusion_of, rule_from, rule_of}
use Rattle.xml.specs.Write.{context_text, rule_text_fault}
use Rattle.xml_laws.proofs.TextListed.{Writable, parts-listed}
use Rattle.xml_laws.proofs.TextCopies.{AlikeExclusions, copied, blank-is, at_place, good-exclusion, copied-alike, AlikeRules}
use Rattle.xml_laws.proofs.TextLevels.{Numbered, levels-read}

-- the rule keeps document 01's limits, and may be written
pub record Sound (l : List ℕ) (r : Rule) : Type 0 where
  pub faultless : rule_text_fault l r ≡ none
  pub rule : good_rule r ≡ true
  pub exclusion : (e : ℕ) → e < 8 → good_exclusion_at r e ≡ true

-- a good rule in parts
pub record GoodRule (r : Rule) : Type 0 where
  pub deep : r.depth ≤ 4
  pub many : r.exclusions ≤ 8
  pub level : (i : ℕ) → i < r.depth → good_level (r.level i) ≡ true
  pub past : (i : ℕ) → i < 4 → r.depth ≤ i → blank_level (r.level i) ≡ true
  pub first : good_step r.first_step ≡ true
  pub last : good_step r.last_step ≡ true

pub good-rule : (r : Rule) → good_rule r ≡ true → GoodRule r
unfolding good_rule good_steps
good-rule r h =
    let a = leb r.depth 4 in
    let b = leb 1 r.exclusions in
    let c = leb r.exclusions 8 in
    let at : ℕ → Bool = λ i. cond (ltb i r.depth) (good_level (r.level i)) (blank_level (r.level i)) in
    let d = all_below 4 at in
    let f = good_step r.first_step in
    let g = good_step r.last_step in
    let e = not (is_set r.first_step && is_set r.last_step && same_privilege r.first_step.privilege r.last_step.privilege) in
    let h₁ = both_first (a && b && c && d) (f && g && e) h in
    let h₂ = both_first (f && g) e (both-second (a && b && c && d) (f && g && e) h) in
    let h₃ = both_first (a && b && c) d h₁ in
    let levels : (i : ℕ) → i < 4 → at i ≡ true = λ i k. all_below-at 4 i at (both-second (a && b && c) d h₁) k in
    let deep : r.depth ≤ 4 = leb-true r.depth 4 (both_first a b (both_first (a && b) c h₃)) in
    record {
      deep = deep;
      many = leb-true r.exclusions 8 (both-second (a && b) c h₃);
      level = λ i k. rw (lt-ltb i r.depth k) at (levels i (omega arith));
      past = λ i k m. rw (le-ltb i r.depth m) at (levels i k);
      first = both_first f g h₂;
      last = both-second f g h₂;
    }

-- a step that is set, and one that is not
pub step_set : (s : Step) → is_set s ≡ true → step_of s.privilege ≡ s
step_set s h = ap {B = Step} (λ f. record { flag = f; privilege = s.privilege }) (sym (eqb-true s.flag 1 h))

pub step-unset : (s : Step) → good_step s ≡ true → is_set s ≡ false → no_step ≡ s
unfolding good_step
step-unset s g h =
    let t = go (eqb s.flag 1) (full_privilege s.privilege) (eqb s.flag 0 && is_blank s.privilege) h g in
    ap₂ {C = Step} (λ f p. record { flag = f; privilege = p })
    (sym (eqb-true s.flag 0 (both_first (eqb s.flag 0) (is_blank s.privilege) t)))
    (blank-is s.privilege (both-second (eqb s.flag 0) (is_blank s.privilege) t))
  where
    go : (a b c : Bool) → a ≡ false → (a && b) || c ≡ true → c ≡ true
    go true b c e h = cc
    go false b c e h = h

-- a blank level, and a blank exclusion, are what reading puts past the last
level-blank : (x : Level) → blank_level x ≡ true → level_from 0 0 0 ≡ x
unfolding blank_level
level-blank x h =
    let a = eqb x.type 0 in
    let b = eqb x.mark 0 in
    let c = eqb x.pad 0 in
    let d = eqb x.value 0 in
    let e = eqb x.tail 0 in
    let h₁ = both_first (a && b && c && d) e h in
    let h₂ = both_first (a && b && c) d h₁ in
    let h₃ = both_first (a && b) c h₂ in
    same x.type x.mark x.pad x.value x.tail (eqb-true x.type 0 (both_first a b h₃)) (eqb-true x.mark 0 (both-second a b h₃))
    (eqb-true x.pad 0 (both-second (a && b) c h₂)) (eqb-true x.value 0 (both-second (a && b && c) d h₁))
    (eqb-true x.tail 0 (both-second (a && b && c && d) e h))
  where
    same : (t m p v z : ℕ) → t ≡ 0 → m ≡ 0 → p ≡ 0 → v ≡ 0 → z ≡ 0 → level_from 0 0 0 ≡ record { type = t; mark = m; pad = p; value = v; tail = z }
    same t m p v z e₁ e₂ e₃ e₄ e₅ = rw (e₁, e₂, e₃, e₄, e₅)

exclusion-blank : (x : Exclusion) → blank_exclusion x ≡ true → AlikeExclusions (exclusion_of (new_members 0 0)) x
unfolding blank_exclusion exclusion_of
exclusion-blank x h =
    let a = eqb x.kind 0 in
    let b = eqb x.m 0 in
    let c = eqb x.n 0 in
    let d = eqb x.pad 0 in
    let e = all_below 8 (λ i. is_blank (x.member i)) in
    let h₁ = both_first (a && b && c && d) e h in
    let h₂ = both_first (a && b && c) d h₁ in
    let h₃ = both_first (a && b) c h₂ in
    record {
      kind = sym (eqb-true x.kind 0 (both_first a b h₃));
      m = sym (eqb-true x.m 0 (both-second a b h₃));
      n = sym (eqb-true x.n 0 (both-second (a && b) c h₂));
      pad = sym (eqb-true x.pad 0 (both-second (a && b && c) d h₁));
      member = λ i k. blank-is (x.member i) (all_below-at 8 i (λ j. is_blank (x.member j)) (both-second (a && b && c && d) e h) k);
    }

-- ---- a sound rule

-- what has been read when the end of a rule is read, and the rule that is made of it
unfoldable pub drafted : List ℕ → Rule → Draft
drafted l r =
    record {
      context = context_text l r;
      first = r.first_step;
      last = r.last_step;
      exclusions = tab (λ e. copied (r.exclusion e)) 0 r.exclusions;
    }

abbrev pub read_rule : List ℕ → Rule → Rule
read_rule l r = rule_of l (drafted l r)

module _ (l : List ℕ) (r : Rule) (sound : Sound l r) where
  -- its exclusions are good, and blank past the last
  pub sound-exclusion : (e : ℕ) → e < r.exclusions → good_exclusion (r.exclusion e) ≡ true
  unfolding good_exclusion_at
  sound-exclusion e h =
      rw (lt-ltb e r.exclusions h) at (sound.exclusion e (omega (arith, (good-rule r sound.rule).many)))

  past-exclusion : (e : ℕ) → e < 8 → r.exclusions ≤ e → blank_exclusion (r.exclusion e) ≡ true
  unfolding good_exclusion_at
  past-exclusion e h k = rw (le-ltb e r.exclusions k) at (sound.exclusion e h)

  -- so it may be written
  pub sound-writable : Writable l r
  sound-writable =
      record {
        faultless = sound.faultless;
        digit = λ e h. let g = good-exclusion (r.exclusion e) (sound-exclusion e h) in omega (arith, g.small, g.few);
        kind =
            λ e h.
            let x = r.exclusion e in
            one_passes (eqb x.kind 1 && good_roles x) (eqb x.kind 2 && good_privileges x) (good-exclusion x (sound-exclusion e h)).members
            (λ a. rw (both_first (eqb x.kind 1) (good_roles x) a))
            (λ a. rw (both_first (eqb x.kind 2) (good_privileges x) a) (or-true (eqb x.kind 1)));
      }

  -- and the rule that is read then is like it
  pub read_alike : good_names l ≡ true → Numbered l → AlikeRules (read_rule l r) r
  unfolding rule_of rule_from drafted
  read_alike good numbered =
      let g = good-rule r sound.rule in
      let h = parts-listed l r sound.faultless in
      record {
        depth = rw (levels-read l good numbered r h g.level) (length-tab r.level 0 r.depth);
        exclusions = length-tab (λ e. copied (r.exclusion e)) 0 r.exclusions;
        level =
            λ i b.
            rw (levels-read l good numbered r h g.level)
            (at_place (λ x. x ≡ r.level i) r.level (level_from 0 0 0) r.depth i (λ k. refl) (λ k. level-blank (r.level i) (g.past i b k)));
        first_step = refl;
        last_step = refl;
        exclusion =
            λ e b.
            let x = r.exclusion e in
            at_place (λ y. AlikeExclusions y x) (λ j. copied (r.exclusion j)) (exclusion_of (new_members 0 0)) r.exclusions e
            (λ k. copied-alike x (good-exclusion x (sound-exclusion e k))) (λ k. exclusion-blank x (past-exclusion e b k));
      }
