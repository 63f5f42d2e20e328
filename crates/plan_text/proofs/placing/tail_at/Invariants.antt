-- What was put, and the entries left, make all of them.
use Rattle.std.proofs.Common.{drop}
use Rattle.plan_text.specs.Lines.{joined_tail}
use Rattle.plan_text.proofs.Putting.{LeftAt}
use Rattle.plan_text.proofs.placing.tail_at.Given as goal

abbrev pub invariant-loop-entry : goal.invariant-loop-entry
invariant-loop-entry l = LeftAt l.initial.out l.at (joined_tail l.row) l.out l.next (joined_tail (drop l.entry-index l.row))
