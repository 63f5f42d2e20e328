-- The parts of the line, one after the other.
use Rattle.std.proofs.Common.{rules, ◌≡◌, ap}
use mir.Syntax.{w32}
use mir.Val.{to_z, of_z}
use Rattle.plan_text.specs.Lines.{signed}
use Rattle.plan_text.proofs.Putting.{puts_then, puts_as}
use Rattle.plan_text.proofs.writer.Writer.put_answer.Goals as goal

pub returns : goal.returns
returns c =
    let same : to_z w32 (of_z w32 c.args.answer.detail) ≡ c.args.answer.detail = search rules in
    rw (← c.from.ensures)
    (puts_then c.put_bytes.ensures (puts_then c.put_number.ensures (puts_then c.put_byte.ensures (puts_then (puts_as c.put_signed.ensures (ap signed same)) c.put_byte-2.ensures))))
