-- A table exists exactly if the loads fit. "Only if" is counting; "if" places one cell after another by the exchange, on tables as lists.
use Prim.Native.Nat.{ℕ, zero, suc, ◌+◌, ◌*◌, ◌≤◌, ◌<◌}
use mathlib.Core.Path.{◌≡◌, ◌∙◌}
use mathlib.Core.List.{List}
use native.Mathlib.Omega.{arith}
use lib.ListN.{length, replicate, length-replicate, get_or-replicate}
use lib.Arith.{digits_lt}
use Rattle.flows.specs.Flows.{flow_count, IsFlow, cells_of, Fitting}
use Rattle.tables.specs.Accepted.{Accepted}
use Rattle.tables.proofs.Counting.{accepted_fits}
use Rattle.builder.specs.AddCell.{PortsInRange}
use Rattle.builder.specs.Filling.{SoFar}
use Rattle.builder.specs.Existence.{TableExistsExactlyIfFitting}
use Rattle.builder.proofs.Adding.{with_cell, with_cell_length, added_accepted}
use Rattle.builder.proofs.Progress.{empty_so_far, cell_so_far, flow_so_far, whole_so_far}

-- a table of N rows, filled so far
record Filled (M N : ℕ) (L : List ℕ) (k c : ℕ) : Type 0 where
  table : List ℕ
  long : length table ≡ N * M
  so_far : SoFar M N L k c table

module _ (M N : ℕ) (L : List ℕ) (ports : PortsInRange N L) (fit : Fitting M N L) where
  one_cell : (k c : ℕ) → IsFlow L k → c < cells_of L k → Filled M N L k c → Filled M N L k (suc c)
  one_cell k c flow more f =
      let len : N * M ≤ length f.table = omega (arith, f.long) in
      record {
        table = with_cell N M N L k f.table;
        long = with_cell_length N M N L k f.table (omega arith) ports flow len ∙ f.long;
        so_far =
            cell_so_far M N L k flow ports fit c f.table (with_cell N M N L k f.table) more f.so_far
            (added_accepted N M N L k f.table (omega arith) ports flow len);
      }

  cells : (k n : ℕ) → IsFlow L k → n ≤ cells_of L k → Filled M N L k 0 → Filled M N L k n
  cells k zero flow l f = f
  cells k (suc n) flow l f = one_cell k n flow l (cells k n flow (omega arith) f)

  flows : (n : ℕ) → n ≤ flow_count L → Filled M N L (suc n) 0
  flows zero l =
      record {
        table = replicate {A = ℕ} (N * M) 0;
        long = length-replicate {A = ℕ} (N * M) 0;
        so_far = empty_so_far M N L (replicate {A = ℕ} (N * M) 0) (λ r s lr ls. get_or-replicate (N * M) (r * M + s) 0 0 (digits_lt lr ls));
      }
  flows (suc n) l =
      let flow : IsFlow L (suc n) = record { at_least = omega arith; at_most = l } in
      let f = cells (suc n) (cells_of L (suc n)) flow (omega arith) (flows n (omega arith)) in
      record { table = f.table; long = f.long; so_far = flow_so_far M N L (suc n) flow f.table f.so_far }

  table_exists : (T : List ℕ) × (length T ≡ N * M) × Accepted M N L T
  table_exists =
      let f = flows (flow_count L) (omega arith) in
      (f.table, f.long, whole_so_far M N L f.table (suc (flow_count L)) 0 (omega arith) f.so_far)

pub table_exists_exactly_if_fitting : TableExistsExactlyIfFitting
table_exists_exactly_if_fitting M N L ports = (λ t. accepted_fits M N L t.0 t.2, λ fit. table_exists M N L ports fit)
