-- Of each message it is told which of the cycles passed took it.
use Rattle.cycles.specs.Lent.{of_network}
use Rattle.cycles.specs.Steps.{TookBefore}
use Rattle.cycles.proofs.responses.Run.all_cycles.Given as goal

abbrev pub invariant-loop-cycle : goal.invariant-loop-cycle
invariant-loop-cycle l = TookBefore (of_network l.self.judged.network) l.self.releases.now l.cycle l.taken_by
