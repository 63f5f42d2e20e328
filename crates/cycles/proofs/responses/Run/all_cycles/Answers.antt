-- Before the first cycle none took any message.
use Rattle.cycles.proofs.Turns.{none_took}
use Rattle.cycles.proofs.responses.Run.all_cycles.Goals as goal

pub loop-cycle-init : goal.loop-cycle-init
loop-cycle-init c = none_took _ _ _ c.args.self.now.judged.few_messages
