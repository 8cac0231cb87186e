use Prim.Native.Nat.{ℕ, ◌+◌, ◌*◌}
use native.Mathlib.Omega.{arith}
use mathlib.Core.Path.{◌≡◌, refl, sym, ap, ◌∙◌}
use mathlib.Core.List.{List, ◌++◌}
use Rattle.words.specs.Bytes.{bytes2}
use Rattle.fields.specs.Code.{mark_code}
use Rattle.xml.specs.Blocks.{level_image}
use Rattle.xml.specs.Read.{level_from}
use Rattle.table_write.specs.Writing.{over}
use Rattle.table_write.proofs.Over.{joined}
use Rattle.drafts.specs.Draft.{draft_block}
use Rattle.drafts.proofs.Numbers.{byte-bytes}
use Rattle.drafts.proofs.DraftBlock.{level-stored, level-left}
use Rattle.drafts.proofs.rule.put_level.Goals as goal

pub returns-then-i-lt-MOST_LEVELS : goal.returns-then-i-lt-MOST_LEVELS
unfolding level_image
returns-then-i-lt-MOST_LEVELS c =
    let a = c.args in
    let m = c.code.result in
    let at : ℕ = 16 + 8 * a.i in
    let tail = bytes2 a.value ++ bytes2 0 in
    let next : 20 + 8 * a.i ≡ at + 4 = omega arith in
    λ ls d n e.
    rw (← c.code.ensures)
    (joined a.d.now (bytes2 a.kind ++ bytes2 m) tail at 4 4 (rw c.from.ensures at c.put_pair.ensures)
    (c.put_pair-then-i-lt-MOST_LEVELS.ensures ∙ ap (λ (k : ℕ). over c.put_pair.new.s k 4 tail) next) refl (omega arith)
    ∙ ap (λ (m : List ℕ). over a.d.now at 8 (bytes2 a.kind ++ m ++ tail)) (byte-bytes m (omega arith))
    ∙ ap (λ (b : List ℕ). over b at 8 (level_image (level_from a.kind m a.value))) e
    ∙ ap (λ (k : ℕ). over (draft_block ls d) (16 + 8 * k) 8 (level_image (level_from a.kind m a.value))) (sym n)
    ∙ level-stored ls d (level_from a.kind m a.value) (omega arith))

pub returns-else-i-lt-MOST_LEVELS : goal.returns-else-i-lt-MOST_LEVELS
returns-else-i-lt-MOST_LEVELS c =
    let a = c.args in
    λ ls d n e. e ∙ level-left ls d (level_from a.kind (mark_code a.mark) a.value) (omega arith)
