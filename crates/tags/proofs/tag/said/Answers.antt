use native.Mathlib.Omega.{arith}
use mathlib.Core.Path.{sym}
use Rattle.xml.specs.Tags.{rows}
use Rattle.tags.specs.Rows.{said_by}
use Rattle.tags.proofs.RowLaws.{no_row}
use Rattle.tags.proofs.tag.said.Goals as goal

pub returns-in-0 : goal.returns-in-0
unfolding said_by rows
returns-in-0 c = (λ t. rw c.in-0.is, λ t one two. tt)

pub returns-in-1 : goal.returns-in-1
unfolding said_by rows
returns-in-1 c = (λ t. rw c.in-1.is, λ t one two. tt)

pub returns-in-2 : goal.returns-in-2
unfolding said_by rows
returns-in-2 c = (λ t. rw c.in-2.is, λ t one two. one)

pub returns-in-3 : goal.returns-in-3
unfolding said_by rows
returns-in-3 c = (λ t. rw c.in-3.is, λ t one two. tt)

pub returns-in-4 : goal.returns-in-4
unfolding said_by rows
returns-in-4 c = (λ t. rw c.in-4.is, λ t one two. (one, two))

pub returns-in-5 : goal.returns-in-5
unfolding said_by rows
returns-in-5 c = (λ t. rw c.in-5.is, λ t one two. (two, one))

pub returns-in-6 : goal.returns-in-6
unfolding said_by rows
returns-in-6 c = (λ t. rw c.in-6.is, λ t one two. (one, two))

pub returns-in-7 : goal.returns-in-7
unfolding said_by rows
returns-in-7 c = (λ t. rw c.in-7.is, λ t one two. (two, one))

pub returns-in-8 : goal.returns-in-8
unfolding said_by rows
returns-in-8 c = (λ t. rw c.in-8.is, λ t one two. one)

pub returns-in-9 : goal.returns-in-9
unfolding said_by rows
returns-in-9 c = (λ t. rw c.in-9.is, λ t one two. tt)

pub returns-in-10 : goal.returns-in-10
unfolding said_by rows
returns-in-10 c = (λ t. rw c.in-10.is, λ t one two. one)

pub returns-in-11 : goal.returns-in-11
unfolding said_by rows
returns-in-11 c = (λ t. rw c.in-11.is, λ t one two. tt)

pub returns-in-12 : goal.returns-in-12
unfolding said_by rows
returns-in-12 c = (λ t. rw c.in-12.is, λ t one two. two)

pub returns-in-13 : goal.returns-in-13
unfolding said_by rows
returns-in-13 c = (λ t. rw c.in-13.is, λ t one two. one)

pub returns-in-14 : goal.returns-in-14
unfolding said_by rows
returns-in-14 c = (λ t. rw c.in-14.is, λ t one two. (one, two))

pub returns-in-15 : goal.returns-in-15
unfolding said_by rows
returns-in-15 c = (λ t. rw c.in-15.is, λ t one two. (two, one))

pub returns-in_default : goal.returns-in_default
returns-in_default c = let row = c.args.row in (λ t. sym (no_row row _ _ (omega arith)), λ t one two. tt)
