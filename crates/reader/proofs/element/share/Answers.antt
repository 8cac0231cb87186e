use borrow.Author.Tests.{lt-ltb, le-ltb}
use Rattle.reader.specs.Table.{may_stand}
use Rattle.reader.specs.Begin.{share}
use Rattle.reader.proofs.element.share.Goals as goal

pub returns-then-next_state-lt-NONE : goal.returns-then-next_state-lt-NONE
unfolding share may_stand
returns-then-next_state-lt-NONE c = rw (← c.next_state.ensures, lt-ltb _ _ c.if-next_state-lt-NONE.true) c.matched.ensures

pub returns-else-next_state-lt-NONE : goal.returns-else-next_state-lt-NONE
unfolding share may_stand
returns-else-next_state-lt-NONE c = rw (← c.next_state.ensures, le-ltb _ _ c.if-next_state-lt-NONE.false)
