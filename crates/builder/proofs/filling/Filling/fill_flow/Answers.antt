-- Each turn places one cell more.
use Rattle.std.proofs.Common.{arith}
use Rattle.builder.proofs.Progress.{one_more}
use Rattle.builder.proofs.filling.Filling.fill_flow.Goals as goal

pub loop-preserved : goal.loop-preserved
loop-preserved c =
    let cell = c.add_cell.ensures in
    one_more _ c.loop.self _ _ _ c.requires.go_on c.requires.flow (omega arith) c.loop.invariant cell.added cell.marked cell.same
