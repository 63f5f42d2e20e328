-- When a table exists: a statement about the definition of accepted alone, whatever a builder does.
use Rattle.std.specs.Prelude.{ℕ, ◌*◌, ◌≡◌, ◌↔◌, List, length}
use Rattle.flows.specs.Flows.{Fitting}
use Rattle.tables.specs.Accepted.{Accepted}
use Rattle.builder.specs.AddCell.{PortsInRange}

-- an accepted table exists exactly if the cells of each input and of each output sum to at most M
abbrev pub TableExistsExactlyIfFitting : Type 0
TableExistsExactlyIfFitting =
    (M N : ℕ) (L : List ℕ) → PortsInRange N L → ((T : List ℕ) × (length T ≡ N * M) × Accepted M N L T) ↔ Fitting M N L
