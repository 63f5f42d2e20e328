-- The links passed have the message's share on them, and the others are as they were.
use Rattle.std.proofs.Common.{ℕ, ◌≡◌, ◌+◌, ◌≤◌, ◌<◌}
use Rattle.cycles.specs.Cycle.{share}
use Rattle.cycles.specs.Steps.{load_in}
use Rattle.cycles.proofs.links.Message.add.Given as goal

abbrev pub invariant-loop-link : goal.invariant-loop-link
invariant-loop-link l =
    ((k : ℕ) → k < l.link → load_in l.loads k ≡ load_in l.fn.loads k + share l.self.size l.self.path k)
    × ((k : ℕ) → l.link ≤ k → load_in l.loads k ≡ load_in l.fn.loads k)
