-- The image of some rules and of an accepted policy's permission blocks: what each of its blocks is, and how many there are of each kind.
-- Assumes nothing.
use Prim.Native.Nat.{ℕ, ◌+◌, ◌-◌, ◌*◌, ◌≤◌, ◌<◌}
use native.Mathlib.Decide.{dec_lt}
use native.Mathlib.Omega.{arith}
use mathlib.Core.Path.{◌≡◌, sym, ap, ◌∙◌}
use mathlib.Core.Bool.{cond}
use mathlib.Core.List.{List, [], ◌++◌, map}
use mathlib.Core.Option.{none}
use lib.ListN.{length, get_or, length-append, length-map, get_or-append}
use lib.Seq.{ext_get_or}
use lib.Dec.{eqb, ltb}
use borrow.Author.Tests.{lt-ltb, le-ltb}
use Rattle.words.specs.Lists.{tab}
use Rattle.word_laws.proofs.Every.{Every, every-tab}
use Rattle.word_laws.proofs.Lists.{OfLength, length-tab, get_d-tab, get_d_map, length-flatten, part-tab}
use Rattle.word_laws.proofs.Bytes.{get_d_past}
use Rattle.word_laws.proofs.Below.{sum_below-same}
use Rattle.format.specs.Layout.{block_bytes, check_at, rule_kind, permission_kind}
use Rattle.format.specs.Block.{blocks, block, kind}
use Rattle.format.specs.Rule.{Rule, rule_at}
use Rattle.format.specs.Policy.{policy_fault, rule_count}
use Rattle.format_laws.proofs.AcceptedPolicy.{rules-few}
use Rattle.xml.specs.Blocks.{rule_image, numbered_anew, permission_blocks, image_of, rules_image}
use Rattle.xml_laws.proofs.BlockCount.{count-below}
use Rattle.xml_laws.proofs.BlockAccepted.{block-sized, permission-from}
use Rattle.xml_laws.proofs.BlockAnew.{anew-length, anew-kind}
use Rattle.xml_laws.proofs.ImageParts.{length-rule, kind-rule}

-- how many permission blocks an image has
abbrev pub permissions : List ℕ → ℕ
permissions s = blocks s - rule_count s

-- the blocks of an image before they are numbered
abbrev pub parts : List Rule → List ℕ → List (List ℕ)
parts rs second = map rule_image rs ++ permission_blocks second

-- and numbered
abbrev pub numbered : List Rule → List ℕ → ℕ → List ℕ
numbered rs second k = numbered_anew (length (parts rs second)) k (get_or (parts rs second) k [])

-- two lists of rules with the same images give the same image
pub image-again : (rs rs' : List Rule) (second : List ℕ) → map rule_image rs ≡ map rule_image rs' → rules_image rs second ≡ rules_image rs' second
unfolding rules_image
image-again rs rs' second e = rw e

-- and they have the same images where they have them one by one
pub one_by_one : (rs rs' : List Rule) → length rs ≡ length rs'
    → ((k : ℕ) → k < length rs → rule_image (get_or rs k (rule_at [])) ≡ rule_image (get_or rs' k (rule_at []))) → map rule_image rs ≡ map rule_image rs'
one_by_one rs rs' e same =
    ext_get_or [] (map rule_image rs) (map rule_image rs') (rw (length-map rs rule_image, length-map rs' rule_image) e)
    (λ k h.
    let h' : k < length rs = rw length-map at h in
    get_d_map rule_image rs k (rule_at []) [] h' ∙ same k h' ∙ sym (get_d_map rule_image rs' k (rule_at []) [] (omega (arith, e))))

module _ (rs : List Rule) (second : List ℕ) (accepted : policy_fault second ≡ none) where
  rules-length : length (map rule_image rs) ≡ length rs
  rules-length = rw length-map

  -- as many blocks as rules and permission blocks
  pub parts-length : length (parts rs second) ≡ length rs + permissions second
  unfolding permission_blocks
  parts-length = rw (length-append, length-map, length-tab)

  -- what block k is made of
  pub rule-part : (k : ℕ) → k < length rs → get_or (parts rs second) k [] ≡ rule_image (get_or rs k (rule_at []))
  rule-part k h =
      get_or-append (map rule_image rs) (permission_blocks second) [] k (rw rules-length h) ∙ get_d_map rule_image rs k (rule_at []) [] h

  permission-part : (k : ℕ) → length rs ≤ k → k < length (parts rs second)
      → get_or (parts rs second) k [] ≡ block second (rule_count second + (k - length rs))
  unfolding permission_blocks
  permission-part k lo hi =
      let e : length rs + (k - length rs) ≡ k = omega arith in
      ap (λ (x : ℕ). get_or (parts rs second) x []) (sym e)
      ∙ get_d_past (map rule_image rs) (permission_blocks second) (length rs) (k - length rs) [] rules-length
      ∙ get_d-tab (block second) (rule_count second) (permissions second) (k - length rs) [] (omega (arith, parts-length))

  -- a block of either kind
  pub each : (P : ℕ → List ℕ → Type 0)
      → ((k : ℕ) → k < length rs → P k (rule_image (get_or rs k (rule_at []))))
      → ((k : ℕ) → length rs ≤ k → k < length (parts rs second) → P k (block second (rule_count second + (k - length rs))))
      → (k : ℕ) → k < length (parts rs second) → P k (get_or (parts rs second) k [])
  each P rule permission k h = go (dec_lt k (length rs))
    where
      go : Dec (k < length rs) → P k (get_or (parts rs second) k [])
      go (yes l) = rw (rule-part k l) (rule k l)
      go (no l) = rw (permission-part k (omega arith) h) (permission k (omega arith) h)

  -- where that permission block stands in the second image
  pub inside : (k : ℕ) → length rs ≤ k → k < length (parts rs second) → rule_count second + (k - length rs) < blocks second
  inside k lo hi = omega (arith, parts-length, rules-few second accepted)

  -- each has at least the 504 bytes before the check
  pub long : (k : ℕ) → k < length (parts rs second) → check_at ≤ length (get_or (parts rs second) k [])
  long =
      each (λ k b. check_at ≤ length b) (λ k h. omega (arith, length-rule (get_or rs k (rule_at []))))
      (λ k lo hi. omega (arith, block-sized second accepted (rule_count second + (k - length rs)) (inside k lo hi)))

  -- ---- the image and its blocks

  widths : Every (OfLength block_bytes) (tab (numbered rs second) 0 (length (parts rs second)))
  widths =
      every-tab (numbered rs second) 0 (length (parts rs second))
      (λ k lo hi. anew-length (length (parts rs second)) k (get_or (parts rs second) k []) (long k (omega arith)))

  sized : length (rules_image rs second) ≡ block_bytes * length (parts rs second)
  unfolding rules_image image_of
  sized = length-flatten block_bytes widths ∙ rw length-tab

  -- the image has as many blocks
  pub many : blocks (rules_image rs second) ≡ length (parts rs second)
  many = rw sized (omega arith)

  -- and they are its blocks, numbered
  pub block-is : (k : ℕ) → k < length (parts rs second) → block (rules_image rs second) k ≡ numbered rs second k
  unfolding rules_image image_of
  block-is k h = part-tab block_bytes (numbered rs second) (length (parts rs second)) k widths h

  kind-is : (k : ℕ) → k < length (parts rs second) → kind (block (rules_image rs second) k) ≡ kind (get_or (parts rs second) k [])
  kind-is k h = rw (block-is k h) (anew-kind (length (parts rs second)) k (get_or (parts rs second) k []) (long k h))

  -- the rule blocks come first, then the permission blocks
  pub kind-of-rule : (k : ℕ) → k < length rs → kind (block (rules_image rs second) k) ≡ rule_kind
  kind-of-rule k h = kind-is k (omega (arith, parts-length)) ∙ ap kind (rule-part k h) ∙ kind-rule (get_or rs k (rule_at []))

  pub kind-of-permission : (k : ℕ) → length rs ≤ k → k < length (parts rs second) → kind (block (rules_image rs second) k) ≡ permission_kind
  kind-of-permission k lo hi =
      kind-is k hi ∙ ap kind (permission-part k lo hi)
      ∙ permission-from second accepted (rule_count second + (k - length rs)) (omega arith) (inside k lo hi)

  pub rule-or-not : (k : ℕ) → k < length (parts rs second) → eqb (kind (block (rules_image rs second) k)) rule_kind ≡ ltb k (length rs)
  rule-or-not k h = go (dec_lt k (length rs))
    where
      go : Dec (k < length rs) → eqb (kind (block (rules_image rs second) k)) rule_kind ≡ ltb k (length rs)
      go (yes l) = rw (kind-of-rule k l, lt-ltb k (length rs) l)
      go (no l) = rw (kind-of-permission k (omega arith) h, le-ltb k (length rs) (omega arith))

  -- so its rules are as many as there were
  pub image-rules : rule_count (rules_image rs second) ≡ length rs
  unfolding rule_count
  image-rules =
      rw many
      (sum_below-same (length (parts rs second))
      (λ k. cond (eqb (kind (block (rules_image rs second) k)) rule_kind) 1 0) (λ k. cond (ltb k (length rs)) 1 0)
      (λ k h. rw (rule-or-not k h))
      ∙ count-below (length (parts rs second)) (length rs) (omega (arith, parts-length)))

  -- its blocks are the rules and the permission blocks
  pub image-blocks : blocks (rules_image rs second) ≡ length rs + permissions second
  image-blocks = many ∙ parts-length

  -- and its length is 512 times that
  pub image-length : length (rules_image rs second) ≡ block_bytes * (length rs + permissions second)
  image-length = sized ∙ ap (λ (x : ℕ). block_bytes * x) parts-length
