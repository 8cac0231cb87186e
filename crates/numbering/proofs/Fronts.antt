-- An image is told by the first 504 bytes of each of its blocks: so blocks that are rules with a check still to be made are as good as the rules.
-- Assumes nothing.
use Prim.Native.Nat.{ℕ, ◌<◌}
use native.Mathlib.Omega.{arith}
use mathlib.Core.Path.{◌≡◌, refl, sym, ap, ap₂, ◌∙◌}
use mathlib.Core.List.{List, [], ◌∷◌, ◌++◌, map, flatten}
use lib.ListN.{length, take, get_or, length-map}
use lib.Seq.{take_at, take_all, take-length}
use Rattle.words.specs.Lists.{tab}
use Rattle.word_laws.proofs.Lists.{tab-cong, tab-get_d, map-tab, get_d_map}
use Rattle.format.specs.Layout.{check_at}
use Rattle.format.specs.Block.{block}
use Rattle.format.specs.Rule.{Rule}
use Rattle.xml.specs.Blocks.{numbered_anew, image_of, level_image, privilege_image, exclusion_image, rule_image, permission_blocks, rules_image}
use Rattle.numbering.specs.Numbered.{together}
use Rattle.numbering.proofs.Body.{numbered-front}

-- the first 504 bytes of each block
abbrev pub fronts : List (List ℕ) → List (List ℕ)
fronts bs = map (take check_at) bs

-- have the image of the blocks
pub image-fronts : (bs : List (List ℕ)) → image_of (fronts bs) ≡ image_of bs
unfolding image_of
image-fronts bs =
    rw (length-map bs (take check_at))
    (ap flatten
    (tab-cong (λ k. numbered_anew (length bs) k (get_or (fronts bs) k [])) (λ k. numbered_anew (length bs) k (get_or bs k [])) 0 (length bs)
    (λ k lo hi.
    ap (numbered_anew (length bs) k) (get_d_map (take check_at) bs k [] [] (omega arith))
    ∙ numbered-front (length bs) k (get_or bs k []))))

-- so two lists of blocks that begin alike have one image
pub image-alike : (bs cs : List (List ℕ)) → fronts bs ≡ fronts cs → image_of bs ≡ image_of cs
image-alike bs cs e = sym (image-fronts bs) ∙ ap image_of e ∙ image-fronts cs

-- a rule has the 504 bytes before its check
pub length-rule : (r : Rule) → length (rule_image r) ≡ check_at
unfolding rule_image level_image privilege_image exclusion_image flatten tab
length-rule r = refl

-- so rules with any bytes behind them begin as the rules do, whatever blocks follow
fronts-rules : (c : List ℕ) (rs : List Rule) (others : List (List ℕ))
    → fronts (map (λ r. rule_image r ++ c) rs ++ others) ≡ fronts (map rule_image rs ++ others)
fronts-rules c [] others = refl
fronts-rules c (r ∷ rs) others =
    ap₂ {C = List (List ℕ)} (λ x xs. x ∷ xs)
    (take_at (rule_image r) c check_at (length-rule r) ∙ sym (take_all check_at (rule_image r) (omega (arith, length-rule r))))
    (fronts-rules c rs others)

-- and have their image
pub image-rules : (c : List ℕ) (rs : List Rule) (others : List (List ℕ))
    → image_of (map (λ r. rule_image r ++ c) rs ++ others) ≡ image_of (map rule_image rs ++ others)
image-rules c rs others = image-alike (map (λ r. rule_image r ++ c) rs ++ others) (map rule_image rs ++ others) (fronts-rules c rs others)

-- so where the first blocks of an image are rules, but for their checks, they and the permission blocks of another have the image that is asked for
pub image-kept : (c kept second : List ℕ) (rs : List Rule) (d : Rule) → ((k : ℕ) → k < length rs → block kept k ≡ rule_image (get_or rs k d) ++ c)
    → image_of (together kept (length rs) second) ≡ rules_image rs second
unfolding rules_image
image-kept c kept second rs d are =
    let f : Rule → List ℕ = λ r. rule_image r ++ c in
    ap (λ bs. image_of (bs ++ permission_blocks second))
    (tab-cong (block kept) (λ k. f (get_or rs k d)) 0 (length rs) (λ k lo hi. are k (omega arith))
    ∙ sym (map-tab f (λ k. get_or rs k d) 0 (length rs))
    ∙ ap (map f) (tab-get_d rs d 0 (length rs) (omega arith) ∙ take-length rs))
    ∙ image-rules c rs (permission_blocks second)
