-- The test held of none of the numbers passed.
use Rattle.std.proofs.Common.{ℕ, ◌≤◌, ◌<◌, false}
use Rattle.answers.proofs.first_where.Given as goal

abbrev pub invariant-loop-i : goal.invariant-loop-i
invariant-loop-i g l = (k : ℕ) → l.fn.range.start ≤ k → k < l.i → goal.F-post g l.test k false
