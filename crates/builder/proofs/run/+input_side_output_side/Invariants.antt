-- The cycle of calls of `input_side` and `output_side`. The measure is twice the rows not yet seen, and one more on the input side.
use Rattle.std.proofs.Common.{◌+◌, ◌*◌}
use Rattle.builder.specs.Exchange.{unseen}
use Rattle.builder.proofs.run.+input_side_output_side.Given as goal

abbrev pub decreases-input_side : goal.decreases-input_side
decreases-input_side l = 2 * unseen l.plan.now.ports l.seen + 1

abbrev pub decreases-output_side : goal.decreases-output_side
decreases-output_side l = 2 * unseen l.plan.now.ports l.seen
