-- A tally that is made, and one that takes in a request.
-- Assumes nothing.
use Prim.Native.Nat.{ℕ, ◌+◌, ◌%◌, ◌≤◌, ◌<◌}
use native.Mathlib.Omega.{arith}
use mathlib.Core.Path.{◌≡◌, refl, sym, ap, ap₂, ◌∙◌}
use mathlib.Core.Bool.{Bool, cond, ◌||◌}
use mathlib.Core.List.{List, [], ◌∷◌, ◌++◌}
use lib.ListN.{length, set, length-set}
use lib.Bits.{bit_or}
use lib.Dec.{eqb}
use Rattle.words.specs.Lists.{keep, any_of}
use Rattle.words.specs.Bytes.{bit}
use Rattle.word_laws.proofs.BitLaws.{bit-or}
use Rattle.word_laws.proofs.Bits.{bit-none}
use Rattle.format.specs.Request.{Request, roles, operation}
use Rattle.format.specs.Rule.{Exclusion, Privilege}
use Rattle.judge.specs.Tally.{does}
use Rattle.fields.specs.Code.{packed_of, done_by}
use Rattle.tally.specs.declared.tallies.Tally.{Tally}
use Rattle.tally.specs.Code.{TallyOf, no_count, counted_at, member_at}
use Rattle.tally.specs.declared.counting.Counted.{Counted}
use Rattle.tally.proofs.Lists.{any_snoc, count-snoc, count_most, set_before, set-behind}
use Rattle.tally.proofs.Privileges.{packed-does}

-- a member that nobody has done
abbrev pub fresh : Privilege → Counted
fresh p = record { privilege = record { 0 = packed_of p }; times = 0 }

-- nothing taken in
pub none-taken :
    (x : Exclusion) (t : Tally) → t.kind ≡ x.kind → length t.members ≡ 8
    → ((k : ℕ) → k < 8 → (x.member k).operation < 65536) → ((k : ℕ) → k < 8 → counted_at t.members k ≡ fresh (x.member k))
    → t.roles.0 ≡ 0 → TallyOf x [] t
unfolding any_of keep
none-taken x t h e s m r =
    record {
      kind = h;
      eight = e;
      small = s;
      member = λ k b. ap (λ (c : Counted). c.privilege.0) (m k b);
      active = λ g k b. rw r (bit-none k);
      done = λ g k b. ap (λ (c : Counted). c.times) (m k b);
    }

-- a member after what is done. (The remainder keeps the sum in bounds; no count comes to it.)
abbrev pub next : ℕ → Counted → Counted
next d c = record { privilege = c.privilege; times = c.times % 65536 + cond (eqb d c.privilege.0) 1 0 }

pub is_next : (d : ℕ) (c v : Counted) → v.privilege ≡ c.privilege → v.times ≡ (next d c).times → v ≡ next d c
is_next d c v p t = ap₂ {C = Counted} (λ x y. record { privilege = x; times = y }) p t

-- the loop over the members: in ns, the first k of ms have gone on
pub record Counting (ms ns : List Counted) (d k : ℕ) : Type 0 where
  pub same_length : length ns ≡ length ms
  pub before : (i : ℕ) → i < k → counted_at ns i ≡ next d (counted_at ms i)
  pub behind : (i : ℕ) → k ≤ i → counted_at ns i ≡ counted_at ms i

pub counting-none : (ms : List Counted) (d : ℕ) → Counting ms ms d 0
counting-none ms d = record { same_length = refl; before = λ i h. absurd (omega arith); behind = λ i h. refl }

pub counting_more :
    (ms ns : List Counted) (d k : ℕ) (v : Counted) → Counting ms ns d k → k < length ns → v ≡ next d (counted_at ns k)
    → Counting ms (set ns k v) d (k + 1)
counting_more ms ns d k v c h e =
    record {
      same_length = length-set ns k v ∙ c.same_length;
      before = set_before no_count (λ (m : Counted). m) ns k v (λ i. next d (counted_at ms i)) h c.before
          (e ∙ ap (next d) (c.behind k (omega arith)));
      behind = λ i b. set-behind no_count (λ (m : Counted). m) ns k v i b ∙ c.behind i (omega arith);
    }

module _ (x : Exclusion) (qs : List Request) (q : Request) (s t : Tally) (of : TallyOf x qs s) (same_kind : t.kind ≡ s.kind) where
  pub roles-taken : s.kind ≡ 1 → t.members ≡ s.members → t.roles.0 ≡ bit_or s.roles.0 (roles q) → TallyOf x (qs ++ (q ∷ [])) t
  roles-taken is same f =
      record {
        kind = same_kind ∙ of.kind;
        eight = ap length same ∙ of.eight;
        small = of.small;
        member = λ k b. ap (λ (m : List Counted). member_at m k) same ∙ of.member k b;
        active = λ g k b.
            ap (bit k) f
            ∙ bit-or k s.roles.0 (roles q)
            ∙ ap (λ (u : Bool). u || bit k (roles q)) (of.active is k b)
            ∙ sym (any_snoc (λ r. bit k (roles r)) qs q);
        done = λ g. absurd (g (same_kind ∙ is));
      }

  pub done-taken :
      (d : ℕ) → (s.kind ≡ 1 → ⊥) → length qs < 65536 → operation q < 65536
      → d ≡ packed_of (done_by q) → Counting s.members t.members d 8 → TallyOf x (qs ++ (q ∷ [])) t
  done-taken d is few small e c =
      record {
        kind = same_kind ∙ of.kind;
        eight = c.same_length ∙ of.eight;
        small = of.small;
        member = λ k b. ap (λ (m : Counted). m.privilege.0) (c.before k b) ∙ of.member k b;
        active = λ g. absurd (is (sym same_kind ∙ g));
        done = λ g k b.
            ap (λ (m : Counted). m.times) (c.before k b)
            ∙ rw (of.done is k b, e, of.member k b, packed-does q (x.member k) small (of.small k b), count-snoc (does (x.member k)) qs q)
            (fits (length (keep (does (x.member k)) qs)) (omega (arith, count_most (does (x.member k)) qs)) (does (x.member k) q));
      }
    where
      fits : (n : ℕ) → n < 65536 → (b : Bool) → n % 65536 + cond b 1 0 ≡ n + cond b 1 0
      fits n h b = let e : n % 65536 ≡ n = omega arith in rw e
