-- The comma, and then the number.
use Rattle.plan_text.proofs.Putting.{puts_then}
use Rattle.plan_text.proofs.writer.Writer.put_after_comma.Goals as goal

pub returns : goal.returns
returns c = puts_then c.put_byte.ensures c.put_number.ensures
