-- The outputs passed are served: what the loop over the outputs keeps.
use Prim.Native.Nat.{ℕ, ◌≤◌}
use mathlib.Core.Path.{◌≡◌}
use mathlib.Core.List.{List}
use lib.ListN.{length}
use Rattle.answers.specs.Buffers.{written}
use Rattle.forwarding.specs.declared.Running.{Running}
use Rattle.forwarding.specs.Forwarding.{entries_now, served, output_byte}

-- the first j outputs are served
pub record Served (running : Running) (table waiting₀ sent₀ waiting sent : List ℕ) (j : ℕ) : Type 0 where
  pub below : j ≤ running.ports
  pub same_counts : length waiting ≡ length waiting₀
  pub same_room : length sent ≡ length sent₀
  pub counts : waiting ≡ served j (entries_now running table) waiting₀
  pub bytes : sent ≡ written j (output_byte (entries_now running table) waiting₀) sent₀
