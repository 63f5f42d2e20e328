-- The parts of the line, one after the other.
use Rattle.plan_text.proofs.Putting.{puts_then}
use Rattle.plan_text.proofs.writer.Writer.put_row.Goals as goal

pub returns : goal.returns
returns c = puts_then c.put_bytes.ensures (puts_then c.put_entries.ensures c.put_byte.ensures)
