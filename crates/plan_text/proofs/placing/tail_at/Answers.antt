-- What was put, and the entries left, make all of them.
use Rattle.std.proofs.Common.{◌∙◌, arith}
use Rattle.plan_text.proofs.Putting.{put_then, room_for, less_left_at, none_left_at}
use Rattle.plan_text.proofs.RowLines.{entries_from, none_behind}
use Rattle.plan_text.proofs.placing.tail_at.Goals as goal

pub byte_at-number-requires : goal.byte_at-number-requires
byte_at-number-requires c =
    omega (arith, room_for c.loop-entry.invariant (entries_from c.args.row.now c.loop-entry.entry-index c.loop-entry-test.true))

pub number_at-next-requires : goal.number_at-next-requires
number_at-next-requires c =
    let room = room_for c.loop-entry.invariant (entries_from c.args.row.now c.loop-entry.entry-index c.loop-entry-test.true) in
    rw c.from.ensures (omega (arith, room, c.byte_at-number.ensures.next_is, c.byte_at-number.auto.out))

pub loop-entry-preserved : goal.loop-entry-preserved
loop-entry-preserved c =
    less_left_at c.loop-entry.invariant (entries_from c.args.row.now c.loop-entry.entry-index c.loop-entry-test.true) _ _
    (c.number_at-next.auto.out ∙ c.byte_at-number.auto.out)
    (put_then c.byte_at-number.ensures (rw c.from.ensures at c.number_at-next.ensures))

pub returns : goal.returns
returns c = none_left_at c.loop-entry.invariant (none_behind c.args.row.now c.loop-entry.entry-index c.loop-entry-test.false)
