-- Of the messages passed it is noted where the cycle took them, and the others are as they were.
use Rattle.std.proofs.Common.{ℕ, ◌≡◌, ◌≤◌, ◌<◌, Option, List, Bool, Some, None, cond, false, length, get_or}
use Rattle.answers.specs.Limits.{max_messages}
use Rattle.cycles.proofs.responses.Run.run_cycle.Given as goal

-- T is what is noted once i messages were passed, T₀ what was before the cycle
pub record Noted (cycle : ℕ) (taken : List Bool) (T₀ T : List (Option ℕ)) (i : ℕ) : Type 0 where
  pub for_each : length T ≡ max_messages
  pub passed : (k : ℕ) → k < i → get_or T k None ≡ cond (get_or taken k false) (Some cycle) (get_or T₀ k None)
  pub to_come : (k : ℕ) → i ≤ k → get_or T k None ≡ get_or T₀ k None

abbrev pub invariant-loop-place : goal.invariant-loop-place
invariant-loop-place l = Noted l.cycle l.taken.messages l.fn.taken_by l.taken_by l.place
