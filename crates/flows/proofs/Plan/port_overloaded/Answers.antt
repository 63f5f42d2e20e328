-- What is free and what the flows passed ask for are together the frame.
use Rattle.std.proofs.Common.{suc, arith}
use Rattle.answers.proofs.Sums.{sum_none}
use Rattle.flows.specs.Flows.{cells_at}
use Rattle.flows.specs.Sides.{as_input}
use Rattle.flows.proofs.Loads.{none_free, some_free, all_free}
use Rattle.flows.proofs.Plan.port_overloaded.Goals as goal

pub loop-passed-init : goal.loop-passed-init
loop-passed-init c = omega (arith, sum_none (λ x. cells_at (as_input c.args.side) c.args.self.now.list.now c.args.port (suc x)))

pub returns-then-free-asked : goal.returns-then-free-asked
returns-then-free-asked c =
    let plan = c.args.self.now in
    none_free (as_input c.args.side) plan.frame plan.list.now c.args.port _ _ c.loop-passed.invariant _ (omega arith) c.cells_at-asked.ensures c.if-free-asked.true

pub loop-passed-preserved : goal.loop-passed-preserved
loop-passed-preserved c =
    let plan = c.args.self.now in
    some_free (as_input c.args.side) plan.frame plan.list.now c.args.port _ _ c.loop-passed.invariant _ c.cells_at-asked.ensures c.if-free-asked.false

pub returns : goal.returns
returns c =
    let plan = c.args.self.now in
    all_free (as_input c.args.side) plan.frame plan.list.now c.args.port _ _ c.loop-passed.invariant (omega arith)
