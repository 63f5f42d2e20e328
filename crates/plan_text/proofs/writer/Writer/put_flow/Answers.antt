-- The parts of the line, one after the other.
use Rattle.plan_text.proofs.Putting.{puts_then}
use Rattle.plan_text.proofs.writer.Writer.put_flow.Goals as goal

pub returns : goal.returns
returns c =
    rw (← c.input_of.ensures, ← c.output_of.ensures, ← c.cells_of.ensures)
    (puts_then (puts_then (puts_then (puts_then c.put_bytes.ensures c.put_number.ensures) c.put_after_comma.ensures) c.put_after_comma-2.ensures) c.put_byte.ensures)
