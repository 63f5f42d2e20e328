-- What was put, and the lines left, make all of them.
use Rattle.std.proofs.Common.{drop, ◌-◌, ◌*◌}
use Rattle.flows.specs.Flows.{per_flow}
use Rattle.plan_text.specs.Form.{flow_lines}
use Rattle.plan_text.proofs.Putting.{Left}
use Rattle.plan_text.proofs.writer.Writer.put_flows.Given as goal

abbrev pub invariant-loop-flow : goal.invariant-loop-flow
invariant-loop-flow l = Left l.initial.self (flow_lines l.plan.list.now) l.self (flow_lines (drop (per_flow * (l.flow - 1)) l.plan.list.now))
