-- The cycle that took the message comes at or after its release.
use Rattle.std.proofs.Common.{arith, sym, ◌∙◌}
use Rattle.cycles.specs.Lent.{of_network}
use Rattle.cycles.proofs.Turns.{found_released}
use Rattle.cycles.proofs.responses.Run.response.Goals as goal

pub overflow_sub-result : goal.overflow_sub-result
overflow_sub-result c =
    let run = c.args.self.now in
    omega (arith, found_released (of_network run.judged.network) run.releases.now c.args.place run.cycles c.in-Some.cycle (sym c.in-Some.is ∙ c.requires.known))
