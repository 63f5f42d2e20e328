-- Of the messages passed it is known which are taken, and the loads are those after them.
use Rattle.std.proofs.Common.{ℕ, Bool, ◌≡◌, ◌<◌, length}
use Rattle.cycles.specs.Lent.{of_network}
use Rattle.cycles.proofs.Messages.{LookedAt}
use Rattle.cycles.proofs.judging.Judged.take_ready.Given as goal

abbrev pub invariant-loop-place : goal.invariant-loop-place
invariant-loop-place g l =
    (ready : ℕ → Bool) → ((i : ℕ) → (b : Bool) → i < length l.self.network.sizes.now → goal.F-post g l.is_ready i b → b ≡ ready i)
    → LookedAt (of_network l.self.network) ready l.taken.messages l.taken.loads l.place
