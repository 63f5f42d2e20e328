-- The bytes of the messages passed tell whether they were taken.
use Rattle.std.proofs.Common.{ℕ, ◌≡◌, ◌<◌, false, get_or}
use Rattle.answers.specs.Sums.{one}
use Rattle.cycles.proofs.taking.Taken.store_messages.Given as goal

abbrev pub invariant-loop-place : goal.invariant-loop-place
invariant-loop-place l = (k : ℕ) → k < l.place → get_or l.bytes k 0 ≡ one (get_or l.self.messages k false)
