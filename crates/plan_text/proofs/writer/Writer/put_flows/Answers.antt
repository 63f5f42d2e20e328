-- What was put, and the lines left, make all of them.
use Rattle.std.proofs.Common.{arith}
use Rattle.plan_text.proofs.Putting.{room_next, less_left, none_left}
use Rattle.plan_text.proofs.PlanLines.{lines_from, no_lines}
use Rattle.plan_text.proofs.writer.Writer.put_flows.Goals as goal

pub put_flow-requires : goal.put_flow-requires
put_flow-requires c = room_next c.loop-flow.invariant (lines_from c.args.plan.now.list.now c.loop-flow.flow c.requires.threes (omega arith) (omega arith))

pub loop-flow-preserved : goal.loop-flow-preserved
loop-flow-preserved c =
    less_left c.loop-flow.invariant (lines_from c.args.plan.now.list.now c.loop-flow.flow c.requires.threes (omega arith) (omega arith)) c.put_flow.ensures

pub returns : goal.returns
returns c = none_left c.loop-flow.invariant (no_lines c.args.plan.now.list.now c.loop-flow.flow c.requires.threes (omega arith))
