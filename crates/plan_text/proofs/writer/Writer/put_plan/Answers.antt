-- The parts of the text, one after the other.
use Rattle.plan_text.specs.Form.{text_of_plan}
use Rattle.plan_text.proofs.Putting.{puts_then}
use Rattle.plan_text.proofs.writer.Writer.put_plan.Goals as goal

pub returns : goal.returns
unfolding text_of_plan
returns c = puts_then (puts_then c.put_line.ensures c.put_line-2.ensures) c.put_flows.ensures
