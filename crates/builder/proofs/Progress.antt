-- How a build goes on: from the empty table, cell by cell and flow by flow, to a table that is accepted for the whole list.
use Prim.Native.Nat.{ℕ, zero, suc, ◌+◌, ◌*◌, ◌≤◌, ◌<◌}
use mathlib.Core.Path.{◌≡◌, sym, ◌∙◌, ap, subst}
use mathlib.Core.Logic.{inl}
use mathlib.Core.List.{List}
use native.Mathlib.Omega.{arith}
use native.Mathlib.Decide.{ℕ_discrete, dec_lt}
use native.Mathlib.Numerals.{add-one}
use borrow.Author.Tests.{ne_eqb}
use lib.Arith.{digits_lt}
use lib.Dec.{eqb}
use lib.ListN.{length, drop, replicate, length-replicate, get_or-replicate, get_or-append}
use lib.Seq.{drop_at}
use Rattle.answers.specs.Sums.{sum, one}
use Rattle.answers.proofs.Sums.{sum_zero}
use Rattle.flows.specs.Flows.{flow_count, IsFlow, input_of, output_of, cells_of, input_load, output_load, GoodList, Fitting}
use Rattle.tables.specs.Accepted.{entry, times, Accepted}
use Rattle.builder.specs.AddCell.{with_cells, one_cell_more, SameFlows, PortsInRange, CellAdded}
use Rattle.builder.specs.InputMarks.{Marked}
use Rattle.builder.specs.Filling.{emptied, SoFar, MayFill, SameFilling, MayGoOn, WentOn}
use Rattle.builder.specs.declared.filling.Filling.{Filling}
use Rattle.builder.proofs.Places.{holds_same}
use Rattle.builder.proofs.Loads.{input_less, output_less}
use Rattle.builder.proofs.SameFlows.{same_self, same_back, same_on, with_cells_same, with_cells_there, with_cells_else, is_flow_same, placed_of, accepted_of, placed_same}

-- the list with no cells for its first n flows
cleared : ℕ → List ℕ → List ℕ
cleared zero L = L
cleared (suc n) L = with_cells (cleared n L) (suc n) 0

cleared_same : (n : ℕ) (L : List ℕ) → SameFlows L (cleared n L)
unfolding cleared
cleared_same zero L = same_self L
cleared_same (suc n) L = same_on (cleared_same n L) (with_cells_same (cleared n L) (suc n) 0)

cleared_none : (n : ℕ) (L : List ℕ) → n ≤ flow_count L → (x : ℕ) → 1 ≤ x → x ≤ n → cells_of (cleared n L) x ≡ 0
unfolding cleared
cleared_none zero L h x l u = absurd (omega arith)
cleared_none (suc n) L h x l u = go (ℕ_discrete x (suc n)) (λ v. cleared_none n L (omega arith) x l v)
  where
    flow : IsFlow (cleared n L) (suc n)
    flow = is_flow_same (same_back (cleared_same n L)) (suc n) (record { at_least = omega arith; at_most = h })

    go : Dec (x ≡ suc n) → (x ≤ n → cells_of (cleared n L) x ≡ 0) → cells_of (with_cells (cleared n L) (suc n) 0) x ≡ 0
    go (yes e) before = ap (λ (y : ℕ). cells_of (with_cells (cleared n L) (suc n) 0) y) e ∙ with_cells_there (cleared n L) (suc n) 0 flow
    go (no d) before = with_cells_else (cleared n L) (suc n) 0 x flow l d ∙ before (omega arith)

-- an empty table is accepted for a list without cells
pub empty_so_far : (M N : ℕ) (L T : List ℕ) → ((r s : ℕ) → r < N → s < M → entry M T r s ≡ 0) → SoFar M N L 1 0 T
unfolding times
empty_so_far M N L T empty =
    record {
      held = cleared (flow_count L) L;
      same_flows = cleared_same (flow_count L) L;
      accepted =
          record {
            of_its_row = λ r s lr ls. inl (empty r s lr ls);
            input_once = λ s a b ls la lb d x y e. x (empty a s la ls);
            exact_counts = λ k f. none k (is_flow_same (cleared_same (flow_count L) L) k f) ∙ sym (no_cells k (is_flow_same (cleared_same (flow_count L) L) k f));
          };
      earlier = λ x f u. absurd (omega (arith, f.at_least));
      this = no_cells 1;
      later = λ x f u. no_cells x f;
    }
  where
    no_cells : (x : ℕ) → IsFlow L x → cells_of (cleared (flow_count L) L) x ≡ 0
    no_cells x f = cleared_none (flow_count L) L (omega arith) x f.at_least f.at_most

    none : (k : ℕ) → IsFlow L k → sum N (λ r. sum M (λ s. one (eqb (entry M T r s) k))) ≡ 0
    none k f =
        sum_zero N _ (λ r lr. sum_zero M _ (λ s ls. ap one (ne_eqb (entry M T r s) k (λ e. omega (arith, f.at_least, empty r s lr ls)))))

pub emptied_entries : (M N : ℕ) (T : List ℕ) (r s : ℕ) → r < N → s < M → entry M (emptied T (N * M)) r s ≡ 0
emptied_entries M N T r s lr ls =
    get_or-append (replicate {A = ℕ} (N * M) 0) (drop (N * M) T) 0 (r * M + s) (omega (arith, length-replicate {A = ℕ} (N * M) 0, digits_lt lr ls))
    ∙ get_or-replicate (N * M) (r * M + s) 0 0 (digits_lt lr ls)

pub emptied_beyond : (T : List ℕ) (end : ℕ) → drop end (emptied T end) ≡ drop end T
emptied_beyond T end = drop_at (replicate {A = ℕ} end 0) (drop end T) end (length-replicate {A = ℕ} end 0)

module _ (M N : ℕ) (L : List ℕ) (k : ℕ) (flow : IsFlow L k) where
  -- a cell of flow k that is not yet placed finds both its ends with room, and is placed
  pub cell_so_far : PortsInRange N L → Fitting M N L → (c : ℕ) (T T' : List ℕ) → c < cells_of L k → SoFar M N L k c T
      → ((L' : List ℕ) → SameFlows L L' → Accepted M N L' T → input_load L' (input_of L' k) < M → output_load L' (output_of L' k) < M → Accepted M N (one_cell_more L' k) T')
      → SoFar M N L k (suc c) T'
  cell_so_far ports fit c T T' more s add =
      record {
        held = one_cell_more L' k;
        same_flows = same_on same (with_cells_same L' k (suc (cells_of L' k)));
        accepted =
            add L' same s.accepted
            (omega (arith, input_less L L' same k flow no_more less, fit.inputs_fit (input_of L k) (ports.inputs k flow)))
            (omega (arith, output_less L L' same k flow no_more less, fit.outputs_fit (output_of L k) (ports.outputs k flow)));
        earlier = λ x f u. with_cells_else L' k (suc (cells_of L' k)) x flow' f.at_least (λ e. omega arith) ∙ s.earlier x f u;
        this = λ _. with_cells_there L' k (suc (cells_of L' k)) flow' ∙ ap suc (s.this flow);
        later = λ x f u. with_cells_else L' k (suc (cells_of L' k)) x flow' f.at_least (λ e. omega arith) ∙ s.later x f u;
      }
    where
      L' : List ℕ
      L' = s.held

      same : SameFlows L L'
      same = s.same_flows

      flow' : IsFlow L' k
      flow' = is_flow_same (same_back same) k flow

      less : cells_of L' k < cells_of L k
      less = omega (arith, s.this flow)

      no_more : (x : ℕ) → IsFlow L x → cells_of L' x ≤ cells_of L x
      no_more x f = go (dec_lt x k) (dec_lt k x)
        where
          go : Dec (x < k) → Dec (k < x) → cells_of L' x ≤ cells_of L x
          go (yes u) v = omega (arith, s.earlier x f u)
          go (no d) (yes v) = omega (arith, s.later x f v)
          go (no d) (no d') =
              let e : x ≡ k = omega arith in
              omega (arith, less, ap (λ (y : ℕ). cells_of L' y) e, ap (λ (y : ℕ). cells_of L y) e)

  -- with all its cells placed, the next flow's turn has come
  pub flow_so_far : (T : List ℕ) → SoFar M N L k (cells_of L k) T → SoFar M N L (suc k) 0 T
  flow_so_far T s =
      record {
        held = s.held;
        same_flows = s.same_flows;
        accepted = s.accepted;
        earlier = λ x f u. go x f (ℕ_discrete x k) u;
        this = λ f. s.later (suc k) f (omega arith);
        later = λ x f u. s.later x f (omega arith);
      }
    where
      go : (x : ℕ) → IsFlow L x → Dec (x ≡ k) → x < suc k → cells_of s.held x ≡ cells_of L x
      go x f (yes e) u = ap (λ (y : ℕ). cells_of s.held y) e ∙ s.this flow ∙ sym (ap (λ (y : ℕ). cells_of L y) e)
      go x f (no d) u = s.earlier x f (omega arith)

-- with all flows placed, the table is accepted for the list
pub whole_so_far : (M N : ℕ) (L T : List ℕ) (k c : ℕ) → flow_count L < k → SoFar M N L k c T → Accepted M N L T
whole_so_far M N L T k c past s =
    accepted_of (placed_same s.same_flows (placed_of s.accepted))
    (λ x f. s.accepted.exact_counts x (is_flow_same (same_back s.same_flows) x f) ∙ s.earlier x f (omega (arith, f.at_most)))

-- what a good list says of its ports
pub good_ports : {M N : ℕ} {L : List ℕ} → GoodList M N L → PortsInRange N L
good_ports g = record { inputs = g.inputs; outputs = g.outputs }

-- the same, as the code goes: with the bytes past the table as they were
pub may_fill_same : {M N : ℕ} {L T T' : List ℕ} → MayFill M N L T → length T' ≡ length T → MayFill M N L T'
may_fill_same {T' = T'} may e = record { table = holds_same T' may.table e; good = may.good; fitting = may.fitting }

-- a filling that goes on, turn by turn
same_still : {f f' f'' : Filling} → SameFilling f f' → SameFilling f' f'' → SameFilling f f''
same_still s t =
    record { same_plan = t.same_plan ∙ s.same_plan; same_table = t.same_table ∙ s.same_table; same_marks = t.same_marks ∙ s.same_marks }

pub one_more : (f f' f'' : Filling) (k c : ℕ) → MayGoOn f k → IsFlow f.plan.now.list.now k → c < cells_of f.plan.now.list.now k → WentOn f f' k c
    → CellAdded f'.plan.now.frame f'.plan.now.ports f'.plan.now.list.now k f'.table.now f''.table.now
    → Marked f'.plan.now.frame f'.plan.now.ports f'.plan.now.list.now f''.table.now f''.used.now → SameFilling f' f'' → WentOn f f'' k (c + 1)
one_more f f' f'' k c may flow more went add marked same =
    let p = f.plan.now in
    let added = rw went.same.same_plan at add in
    record {
      filled =
          record {
            so_far =
                subst (λ (n : ℕ). SoFar p.frame p.ports p.list.now k n f''.table.now) (sym (add-one c))
                (cell_so_far p.frame p.ports p.list.now k flow (good_ports may.may_fill.good) may.may_fill.fitting c f'.table.now f''.table.now more went.filled.so_far added.accepted);
            marked = rw went.same.same_plan at marked;
            beyond = added.beyond ∙ went.filled.beyond;
          };
      same = same_still went.same same;
    }

pub flow_filled : (f f' : Filling) (k c : ℕ) → IsFlow f.plan.now.list.now k → c ≡ cells_of f.plan.now.list.now k → WentOn f f' k c → WentOn f f' (suc k) 0
flow_filled f f' k c flow e went =
    let p = f.plan.now in
    record {
      filled =
          record {
            so_far = flow_so_far p.frame p.ports p.list.now k flow f'.table.now (subst (λ (n : ℕ). SoFar p.frame p.ports p.list.now k n f'.table.now) e went.filled.so_far);
            marked = went.filled.marked;
            beyond = went.filled.beyond;
          };
      same = went.same;
    }

pub one_flow_more : (f f' f'' : Filling) (k : ℕ) → WentOn f f' k 0 → WentOn f' f'' (suc k) 0 → WentOn f f'' (k + 1) 0
one_flow_more f f' f'' k went next =
    let p = f.plan.now in
    let filled = rw went.same.same_plan at next.filled in
    record {
      filled =
          record {
            so_far = subst (λ (n : ℕ). SoFar p.frame p.ports p.list.now n 0 f''.table.now) (sym (add-one k)) filled.so_far;
            marked = filled.marked;
            beyond = filled.beyond ∙ went.filled.beyond;
          };
      same = same_still went.same next.same;
    }
