-- One more cell of a flow: what the step that a build repeats promises.
use Rattle.std.specs.Prelude.{ℕ, suc, ◌+◌, ◌-◌, ◌*◌, ◌≤◌, ◌<◌, ◌≡◌, List, length, drop, set}
use Rattle.answers.specs.Limits.{max_flows, Within}
use Rattle.flows.specs.Flows.{per_flow, flow_count, IsFlow, input_of, output_of, cells_of, input_load, output_load}
use Rattle.tables.specs.Accepted.{entry, Accepted}
use Rattle.tables.specs.Check.{Holds}

-- the list with c cells for flow k
abbrev pub with_cells : List ℕ → ℕ → ℕ → List ℕ
with_cells L k c = set L (per_flow * (k - 1) + 2) c

-- the list with one more cell of flow k
abbrev pub one_cell_more : List ℕ → ℕ → List ℕ
one_cell_more L k = with_cells L k (suc (cells_of L k))

-- two lists of the same flows, whatever their cells
pub record SameFlows (L L' : List ℕ) : Type 0 where
  pub same_length : length L' ≡ length L
  pub same_inputs : (k : ℕ) → input_of L' k ≡ input_of L k
  pub same_outputs : (k : ℕ) → output_of L' k ≡ output_of L k

-- each flow's input and output are ports
pub record PortsInRange (N : ℕ) (L : List ℕ) : Type 0 where
  pub inputs : (k : ℕ) → IsFlow L k → Within 1 N (input_of L k)
  pub outputs : (k : ℕ) → IsFlow L k → Within 1 N (output_of L k)

-- what a cell of flow k asks for: room for the table, ports for the flows, and that k is one of them
pub record MayAdd (M N : ℕ) (L : List ℕ) (k : ℕ) (T : List ℕ) : Type 0 where
  pub table : Holds M N T
  pub ports : PortsInRange N L
  pub not_too_many : flow_count L ≤ max_flows
  pub flow : IsFlow L k

-- the tables differ at two slots at most
pub record InTwoSlots (M N : ℕ) (before after : List ℕ) : Type 0 where
  pub first_slot : ℕ
  pub second_slot : ℕ
  pub first_in_frame : first_slot < M
  pub second_in_frame : second_slot < M
  pub other_slots : (r s : ℕ) → r < N → s < M → (s ≡ first_slot → ⊥) → (s ≡ second_slot → ⊥) → entry M after r s ≡ entry M before r s

-- one cell of flow k was added; whatever cells the table held, if it was accepted for them and neither end of the flow is full, it is accepted for one more
pub record CellAdded (M N : ℕ) (L : List ℕ) (k : ℕ) (before after : List ℕ) : Type 0 where
  pub accepted : (L' : List ℕ) → SameFlows L L' → Accepted M N L' before → input_load L' (input_of L' k) < M → output_load L' (output_of L' k) < M → Accepted M N (one_cell_more L' k) after
  pub in_two_slots : InTwoSlots M N before after
  pub beyond : drop (N * M) after ≡ drop (N * M) before
