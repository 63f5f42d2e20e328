-- Marks beside the table: for each input a row of M, set at the slots at which some row of the table holds a flow of that input.
use Rattle.std.specs.Prelude.{ℕ, ◌+◌, ◌-◌, ◌*◌, ◌<◌, ◌≡◌, Bool, false, List, get_or}
use Rattle.answers.specs.Limits.{Within}
use Rattle.builder.specs.FreeSlots.{input_used}

-- the mark of row r at slot s: rows count from 0, and row r is input r + 1's
abbrev pub mark_at : ℕ → List Bool → ℕ → ℕ → Bool
mark_at M used r s = get_or used (r * M + s) false

-- at slot s the marks say of each input whether it is used there
abbrev pub MarkedAt : ℕ → ℕ → List ℕ → List ℕ → List Bool → ℕ → Type 0
MarkedAt M N L T used s = (i : ℕ) → Within 1 N i → mark_at M used (i - 1) s ≡ input_used M N L T i s

-- they do at every slot; that they have room is a fact of the filling itself
pub record Marked (M N : ℕ) (L T : List ℕ) (used : List Bool) : Type 0 where
  pub at_slots : (s : ℕ) → s < M → MarkedAt M N L T used s

-- the marks of one slot were made anew, and those of the other slots stay
pub record Remarked (M N : ℕ) (L T : List ℕ) (slot : ℕ) (before after : List Bool) : Type 0 where
  pub there : MarkedAt M N L T after slot
  pub elsewhere : (r s : ℕ) → s < M → (s ≡ slot → ⊥) → mark_at M after r s ≡ mark_at M before r s
