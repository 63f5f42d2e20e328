-- A byte ends a number, or it does not.
use Rattle.std.proofs.Common.{sym, ◌∙◌}
use Rattle.plan_text.proofs.Scanning.{one_more, none_more}
use Rattle.plan_text.proofs.reading.scan.Goals as goal
use Rattle.plan_text.proofs.reading.scan.Goals.{then-ends_number, else-ends_number}

pub loop-at-preserved : goal.loop-at-preserved
loop-at-preserved c =
    let e = sym c.takes.ensures ∙ c.if-not-takes.false in
    elim c.if-ends_number.branch [
      | then-ends_number w ↦
          rw (w.numbers-is, w.keep.ensures, w.value.ensures, c.past-reader.ensures)
          (one_more c.loop-at.invariant c.loop-at-test.true e (sym c.ends_number.ensures ∙ w.if-ends_number.true))
      | else-ends_number w ↦
          rw (w.numbers-is, c.past-reader.ensures)
          (none_more c.loop-at.invariant c.loop-at-test.true e (sym c.ends_number.ensures ∙ w.if-ends_number.false))
    ]
