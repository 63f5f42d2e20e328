-- The messages passed have their responses.
use Rattle.std.proofs.Common.{ℕ, ◌≡◌, ◌<◌, get_or}
use Rattle.cycles.specs.Lent.{of_network}
use Rattle.cycles.specs.Run.{response_of}
use Rattle.cycles.proofs.responses.Run.run_cycles.Given as goal

abbrev pub invariant-loop-place : goal.invariant-loop-place
invariant-loop-place l = (k : ℕ) → k < l.place → get_or l.response-items k 0 ≡ response_of (of_network l.self.judged.network) l.self.releases.now l.self.cycles k
