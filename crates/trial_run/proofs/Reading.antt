-- Reads into a part of a buffer, one after another.
-- Assumes nothing.
use Rattle.std.proofs.Common.{arith, ◌≡◌, ℕ, ◌+◌, ◌-◌, ◌*◌, ◌≤◌, ◌<◌, List, ◌++◌, length, take, drop, slice_range, slice_index, None, Some, sym, ap, ◌∙◌, subst, le_refl, drop_at, length-take-le, take_all, take-append-drop, length-append}
use Rattle.std.specs.Prelude.{Option, Result, Ok, Err, OnErr}
use Rattle.std.proofs.lemmas.List.{drop_all, drop-drop, length-take, get_or-take, get_or_append_left}
use Rattle.std.proofs.lemmas.Slice.{take-put_mid_below}
use Rattle.std.specs.Io.KnownBytes.{Consumes}
use Rattle.std.proofs.KnownBytes.{Consumes-trans}
use borrow.Rule.Slice.PartMut.{put_mid, post_of}
use lib.Seq.{take-add, take-append-le}
use Rattle.trial_run.specs.Reading.{ReadsFront, LosesNone, policy_size, promised}

take_split : (a b : ℕ) (old new : List ℕ) → a ≤ b → take a new ≡ take a old → take a old ++ slice_range new a b ≡ take b new
take_split a b old new h front =
    let same : a + (b - a) ≡ b = omega arith in
    ap (λ l. l ++ slice_range new a b) (sym front) ∙ sym (take-add a (b - a) new) ∙ ap (λ n. take n new) same

slice_range_put_mid : (a k n : ℕ) (xs ys : List ℕ) → a ≤ length xs → n ≤ length ys → slice_range (put_mid a k xs ys) a (a + n) ≡ take n ys
slice_range_put_mid a k n xs ys within fits =
    let same : (a + n) - a ≡ n = omega arith in
    let after = post_of a k xs in
    ap (take ((a + n) - a)) (drop_at (take a xs) (ys ++ after) a (length-take-le a xs within)) ∙ ap (λ m. take m (ys ++ after)) same ∙ take-append-le n ys after fits

-- what was read into a part stands after what was read before it
pub take_parts : (a k n : ℕ) (xs ys : List ℕ) → a ≤ length xs → n ≤ length ys → take a xs ++ take n ys ≡ take (a + n) (put_mid a k xs ys)
take_parts a k n xs ys within fits =
    ap (λ l. take a xs ++ l) (sym (slice_range_put_mid a k n xs ys within fits))
    ∙ take_split a (a + n) xs (put_mid a k xs ys) (omega arith) (take-put_mid_below a k xs ys a (le_refl a) within)

pub consumes_parts : (o m n : Option (List ℕ)) (a k r : ℕ) (xs ys : List ℕ) → a ≤ length xs → r ≤ length ys → Consumes o m (take a xs) → Consumes m n (take r ys)
    → Consumes o n (take (a + r) (put_mid a k xs ys))
consumes_parts o m n a k r xs ys within fits p q = subst (Consumes o n) (take_parts a k r xs ys within fits) (Consumes-trans o m n _ _ p q)

-- a read of a whole part took just that
pub whole_consumed : (o n : Option (List ℕ)) (size : List ℕ → ℕ) (bs : List ℕ) → ReadsFront o n size bs → Consumes o n bs
whole_consumed None n size bs p = tt
whole_consumed (Some xs) n size bs p =
    subst (λ m. Consumes (Some xs) m bs) (sym p.1) (sym (take-append-drop (size xs) xs) ∙ ap (λ l. l ++ drop (size xs) xs) (sym p.0))

-- fewer bytes than a block: there are no more, however many are asked for
pub short_front : (o n : Option (List ℕ)) (got w : ℕ) (bs post : List ℕ) → w ≡ 512 → length bs ≡ 512 → got < 512 → ReadsFront o n (λ _. w) (take got bs)
    → ReadsFront o n policy_size (take got (bs ++ post))
short_front None n got w bs post wide whole less p = tt
short_front (Some xs) n got w bs post wide whole less was =
    let p : ReadsFront (Some xs) n (λ _. 512) (take got bs) = subst (λ v. ReadsFront (Some xs) n (λ _. v) (take got bs)) wide was in
    let fits : got ≤ length bs = omega arith in
    let few : length (take 512 xs) ≡ got = ap length (sym p.0) ∙ length-take-le got bs fits in
    let short : length xs ≤ 512 = omega (arith, length-take 512 xs) in
    let more : 512 ≤ policy_size xs = omega arith in
    let shorter : length xs ≤ policy_size xs = omega arith in
    (take-append-le got bs post fits ∙ p.0 ∙ take_all 512 xs short ∙ sym (take_all (policy_size xs) xs shorter), p.1 ∙ ap Some (drop_all 512 xs short ∙ sym (drop_all (policy_size xs) xs shorter)))

-- a block, and then the blocks that it promises
pub whole_front : (o m n : Option (List ℕ)) (got rest w v blocks : ℕ) (bs post ys : List ℕ) → w ≡ 512 → v ≡ 512 * blocks - 512
    → length bs ≡ 512 → got ≤ 512 → 512 ≤ got → rest ≤ length ys → 1 ≤ blocks
    → blocks ≡ promised (slice_index (bs ++ post) 6) (slice_index (bs ++ post) 7)
    → ReadsFront o m (λ _. w) (take got bs) → ReadsFront m n (λ _. v) (take rest ys)
    → ReadsFront o n policy_size (take (512 + rest) (put_mid 512 (512 * blocks - 512) (bs ++ post) ys))
whole_front None m n got rest w v blocks bs post ys wide more whole most least fits some said was then = tt
whole_front (Some xs) m n got rest w v blocks bs post ys wide more whole most least fits some said was then =
    let k = 512 * blocks - 512 in
    let size : k + 512 ≡ 512 * promised (slice_index (bs ++ post) 6) (slice_index (bs ++ post) 7) = omega arith in
    let p : ReadsFront (Some xs) m (λ _. 512) (take got bs) = subst (λ u. ReadsFront (Some xs) m (λ _. u) (take got bs)) wide was in
    let q : ReadsFront m n (λ _. k) (take rest ys) = subst (λ u. ReadsFront m n (λ _. u) (take rest ys)) more then in
    let then' : ReadsFront (Some (drop 512 xs)) n (λ _. k) (take rest ys) = subst (λ o. ReadsFront o n (λ _. k) (take rest ys)) p.1 q in
    let same : bs ≡ take 512 xs = sym (take_all got bs (omega arith)) ∙ p.0 in
    let front : take 512 (bs ++ post) ≡ take 512 xs = take-append-le 512 bs post (omega arith) ∙ take_all 512 bs (omega arith) ∙ same in
    let room : 512 ≤ length (bs ++ post) = omega (arith, length-append bs post) in
    let at : (i : ℕ) → i < 512 → slice_index (bs ++ post) i ≡ slice_index xs i =
    λ i less. get_or_append_left bs post 0 i (omega arith) ∙ ap (λ l. slice_index l i) same ∙ get_or-take 512 xs i 0 less in
    let sizes : k + 512 ≡ policy_size xs =
    size ∙ ap (λ a. 512 * promised a (slice_index (bs ++ post) 7)) (at 6 (omega arith)) ∙ ap (λ b. 512 * promised (slice_index xs 6) b) (at 7 (omega arith)) in
    let sum : 512 + k ≡ policy_size xs = omega arith in (
      sym (take_parts 512 k rest (bs ++ post) ys room fits)
          ∙ ap (λ l. l ++ take rest ys) front
          ∙ ap (λ l. take 512 xs ++ l) then'.0
          ∙ sym (take-add 512 k xs)
          ∙ ap (λ m. take m xs) sum,
      then'.1 ∙ ap Some (drop-drop k 512 xs ∙ ap (λ m. drop m xs) sum),
    )

-- a block, and then a read that failed
pub failed_after : (o m n : Option (List ℕ)) (got k w : ℕ) (bs post ys : List ℕ) → length bs ≡ 512 → got ≤ 512 → 512 ≤ got
    → ReadsFront o m (λ _. w) (take got bs) → LosesNone m n ys → LosesNone o n (put_mid 512 k (bs ++ post) ys)
failed_after o m n got k w bs post ys whole most least p q =
    let room : 512 ≤ length (bs ++ post) = omega (arith, length-append bs post) in
    let same : take got bs ≡ take 512 (bs ++ post) = take_all got bs (omega arith) ∙ sym (take_all 512 bs (omega arith)) ∙ sym (take-append-le 512 bs post (omega arith)) in
    let all = put_mid 512 k (bs ++ post) ys in
    let within : 512 + q.0 ≤ length all =
    omega (arith, length-append (take 512 (bs ++ post)) (ys ++ post_of 512 k (bs ++ post)), length-append ys (post_of 512 k (bs ++ post)), length-take-le 512 (bs ++ post) room) in
    (512 + q.0, within, consumes_parts o m n 512 k q.0 (bs ++ post) ys room q.1 (subst (Consumes o m) same (whole_consumed o m (λ _. w) _ p)) q.2)

pub on_err : {T E P : Type 0} (r : Result T E) → P → OnErr r P
on_err (Ok x) p = tt
on_err (Err e) p = p
