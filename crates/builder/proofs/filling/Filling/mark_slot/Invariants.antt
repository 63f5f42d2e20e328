-- Each turn makes one input's mark.
use mathlib.Core.Path.{◌≡◌}
use Rattle.builder.specs.Filling.{SameFilling}
use Rattle.builder.proofs.Remarking.{MarkedTo}
use Rattle.builder.proofs.filling.Filling.mark_slot.Given as goal

abbrev pub invariant-loop-row : goal.invariant-loop-row
invariant-loop-row l =
    MarkedTo l.self.plan.now.frame l.self.plan.now.ports l.self.plan.now.list.now l.self.table.now l.slot l.row l.initial.self.used.now l.self.used.now
    × SameFilling l.initial.self l.self
    × (l.self.table.now ≡ l.initial.self.table.now)
