-- A message more was looked at.
use Rattle.std.proofs.Common.{ℕ, refl, ◌∙◌, ap, arith}
use Rattle.cycles.specs.Cycle.{load_after}
use Rattle.cycles.specs.Lent.{of_network}
use Rattle.cycles.proofs.Messages.{none_looked_at, one_looked_at}
use Rattle.cycles.proofs.judging.Judged.take_ready.Goals as goal

pub loop-place-init : goal.loop-place-init
loop-place-init g c = λ ready says. none_looked_at _ ready _ _ refl c.args.self.now.few_links

pub loop-place-preserved : goal.loop-place-preserved
loop-place-preserved g c = λ ready says.
    one_looked_at _ ready _ _ _ _ _ _ _ _ (c.loop-place.invariant ready says) (omega arith)
    (says _ _ (omega arith) c.is_ready.ensures)
    c.message-message.ensures.size c.message-message.ensures.path c.take.ensures.taken c.take.ensures.loads

pub returns : goal.returns
returns g c = λ ready says.
    let w = of_network c.args.self.now.network in
    let was = c.loop-place.invariant ready says in
    record {
      messages_taken = λ i u. was.taken_of i (omega arith);
      loads = λ l u. was.load_at l u ∙ ap (λ (n : ℕ). load_after w ready n l) (omega arith);
    }
