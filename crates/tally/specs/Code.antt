-- What the values of the code stand for.
-- Assumes nothing.
use Rattle.std.specs.Prelude.{ℕ, ◌+◌, ◌*◌, ◌-◌, ◌<◌, min, ◌≡◌, Bool, cond, List, length, get_or, take, eqb, count_by}
use Rattle.std.specs.List.{list_any}
use Rattle.words.specs.Lists.{keep, any_of, sum_below}
use Rattle.words.specs.Bytes.{u16_at, bit}
use Rattle.format.specs.Layout.{members_at, exclusion_bytes, member_bytes}
use Rattle.format.specs.Request.{Request, roles}
use Rattle.format.specs.Rule.{Exclusion}
use Rattle.judge.specs.Tally.{does}
use Rattle.fields.specs.Code.{packed_of, done_by}
use Rattle.tally.specs.declared.deed.Deed.{Deed}
use Rattle.tally.specs.declared.counting.Counted.{Counted}
use Rattle.tally.specs.declared.tallies.Tally.{Tally}

-- ---- the past

-- what a tally takes in of a request: its active roles, and what it does in one number
abbrev pub deed_of : Request → Deed
deed_of q = record { roles = record { 0 = roles q }; privilege = record { 0 = packed_of (done_by q) } }

-- ---- the tally

-- member k, in one number, and how often it was done
abbrev pub no_count : Counted
no_count = record { privilege = record { 0 = 0 }; times = 0 }

abbrev pub counted_at : List Counted → ℕ → Counted
counted_at members k = get_or members k no_count

abbrev pub member_at : List Counted → ℕ → ℕ
member_at members k = (counted_at members k).privilege.0

-- "The tally of an exclusion takes in the records one by one": t is the tally of exclusion x with the requests qs taken in
pub record TallyOf (x : Exclusion) (qs : List Request) (t : Tally) : Type 0 where
  pub kind : t.kind ≡ x.kind
  pub eight : length t.members ≡ 8
  -- a member's operation has two bytes, and the member is in one number
  pub small : (k : ℕ) → k < 8 → (x.member k).operation < 65536
  pub member : (k : ℕ) → k < 8 → member_at t.members k ≡ packed_of (x.member k)
  -- of roles: "all their active roles"
  pub active : t.kind ≡ 1 → (k : ℕ) → k < 32 → bit k t.roles.0 ≡ any_of (λ q. bit k (roles q)) qs
  -- of privileges: the "times done" of each member
  pub done : (t.kind ≡ 1 → ⊥) → (k : ℕ) → k < 8 → (counted_at t.members k).times ≡ length (keep (does (x.member k)) qs)

-- ---- what the members count

-- "Kind 1: how many member roles appear": of the members of exclusion e in a block, member k is among these roles; and how many of the first n are
abbrev pub has_member : List ℕ → ℕ → ℕ → ℕ → Bool
has_member b e k all = bit (u16_at b (members_at + exclusion_bytes * e + member_bytes * k) - 1) all

unfoldable pub roles_among : List ℕ → ℕ → ℕ → ℕ → ℕ
roles_among b e n all = sum_below n (λ k. cond (has_member b e k all) 1 0)

-- the "times listed" of member k among these; and whether it repeats an earlier one
unfoldable pub listed : List Counted → ℕ → ℕ
listed members k = count_by (λ c. eqb c.privilege.0 (member_at members k)) members

unfoldable pub repeated : List Counted → ℕ → Bool
repeated members k = list_any (λ c. eqb c.privilege.0 (member_at members k)) (take k members)

-- "Kind 2: each different member counts min(times listed, times done), summed": member k, and all of them
unfoldable pub member_counts : List Counted → ℕ → ℕ
member_counts members k = cond (repeated members k) 0 (min (listed members k) (counted_at members k).times)

unfoldable pub members_count : List Counted → ℕ
members_count members = sum_below (length members) (member_counts members)
