-- `margins::delay_bound` meets its contract: neither the frames nor the delays of so few links can wrap.
use Rattle.std.proofs.Common.{arith}
use Rattle.margins.proofs.Bounds.{bound_fits}
use Rattle.margins.proofs.delay_bound.Goals as goal

pub overflow_add-result-2 : goal.overflow_add-result-2
overflow_add-result-2 c = omega (arith, bound_fits c.args.frame c.args.delays.now c.requires.0 c.requires.1 c.type_inv.delays)

pub returns-clause-value : goal.returns-clause-value
returns-clause-value c = omega (arith, bound_fits c.args.frame c.args.delays.now c.requires.0 c.requires.1 c.type_inv.delays)

pub returns-clause-small : goal.returns-clause-small
returns-clause-small c = omega (arith, bound_fits c.args.frame c.args.delays.now c.requires.0 c.requires.1 c.type_inv.delays)
