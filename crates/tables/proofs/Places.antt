-- Places of a table: a row and a slot within their bounds are a place within the table.
use Prim.Native.Nat.{ℕ, ◌*◌, ◌≤◌}
use mathlib.Core.List.{List}
use native.Mathlib.Nat.{mul-le-mul}
use Rattle.answers.specs.Limits.{max_frame, max_ports, Within}
use Rattle.tables.specs.Check.{Holds}

-- frame and ports in range bound the table's size
pub size_of : {M N : ℕ} → Within 1 max_frame M → Within 1 max_ports N → N * M ≤ max_ports * max_frame
size_of m n = mul-le-mul n.at_most m.at_most

pub size_bound : {M N : ℕ} {T : List ℕ} → Holds M N T → N * M ≤ max_ports * max_frame
size_bound h = size_of h.frame_in_range h.ports_in_range
