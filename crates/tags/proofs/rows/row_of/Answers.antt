use mathlib.Core.Path.{◌≡◌, refl, ap, ◌∙◌}
use mathlib.Core.List.{map}
use lib.ListN.{length}
use Rattle.std.proofs.Common.{rules}
use Rattle.std.specs.Slice.Iter.{iter_rest}
use Rattle.std.proofs.lemmas.Iterator.{YieldsList-from_slice}
use Rattle.std.proofs.lemmas.Iterator.Search.{position_from_yields_List}
use Rattle.words.specs.Lists.{same_list}
use Rattle.forms.specs.Form.{ascii}
use Rattle.xml.specs.Tags.{rows}
use Rattle.tags.specs.Rows.{place_of, beginnings}
use Rattle.tags.proofs.Places.{found_or-length, place_in, compared}
use Rattle.tags.proofs.rows.row_of.Goals as goal

pub returns : goal.returns
unfolding beginnings rows ascii
returns c =
    let head = c.args.head.now in
    let rs = iter_rest c.iter.result in
    let found =
    position_from_yields_List (λ r. same_list head r.now) _ _ c.position.result c.position.ensures.ran (YieldsList-from_slice rs refl) (λ x b q k. search (rules, compared)) in
    let sixteen : length rs ≡ 16 = rw c.iter.ensures.rest in
    let all : map (λ r. r.now) rs ≡ beginnings = rw c.iter.ensures.rest in
    c.unwrap_or.ensures
    ∙ rw (← sixteen) (found_or-length (λ r. same_list head r.now) rs found)
    ∙ place_in head rs
    ∙ ap (place_of head) all
