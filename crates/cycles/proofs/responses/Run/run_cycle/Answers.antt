-- What is known of a message after the cycle is what a search over one cycle more finds.
use Rattle.std.proofs.Common.{Some, cond, rules, sym, ◌∙◌}
use Rattle.cycles.specs.Lent.{of_network}
use Rattle.cycles.specs.Run.{ready_in}
use Rattle.cycles.proofs.Turns.{found_through}
use Rattle.cycles.proofs.responses.Run.run_cycle.Goals as goal

pub returns : goal.returns
returns c = λ i u.
    let run = c.args.self.now in
    let w = of_network run.judged.network in
    let R = run.releases.now in
    let went = c.take_ready-taken.ensures (ready_in w R c.args.cycle) (λ i b u p. search rules) in
    c.loop-place.invariant.passed i (search rules)
    ∙ (λ j. cond (went.messages_taken i u j) (Some c.args.cycle) (c.requires i u j))
    ∙ sym (found_through w R i c.args.cycle)
