-- Lists of the same flows: what is said of a table without its counts holds for one if it holds for the other.
use Prim.Native.Nat.{ℕ, suc, ◌+◌, ◌-◌, ◌*◌, ◌/◌, ◌≤◌, ◌<◌}
use mathlib.Core.Path.{◌≡◌, refl, sym, ◌∙◌, ap}
use mathlib.Core.Logic.{◌⊎◌, inl, inr}
use mathlib.Core.List.{List}
use native.Mathlib.Omega.{arith}
use lib.Dec.{eqb}
use lib.ListN.{length-set}
use lib.Seq.{get_or-set_same, get_or-set_other}
use Rattle.flows.specs.Flows.{per_flow, IsFlow, input_of, cells_of}
use Rattle.tables.specs.Accepted.{entry, times, FlowOf, Accepted}
use Rattle.builder.specs.AddCell.{with_cells, SameFlows}

pub same_self : (L : List ℕ) → SameFlows L L
same_self L = record { same_length = refl; same_inputs = λ k. refl; same_outputs = λ k. refl }

pub same_back : {L L' : List ℕ} → SameFlows L L' → SameFlows L' L
same_back s =
    record { same_length = sym s.same_length; same_inputs = λ k. sym (s.same_inputs k); same_outputs = λ k. sym (s.same_outputs k) }

pub same_on : {L L' L'' : List ℕ} → SameFlows L L' → SameFlows L' L'' → SameFlows L L''
same_on s t =
    record {
      same_length = t.same_length ∙ s.same_length;
      same_inputs = λ k. t.same_inputs k ∙ s.same_inputs k;
      same_outputs = λ k. t.same_outputs k ∙ s.same_outputs k;
    }

-- other cells for a flow leave the flows as they are
pub with_cells_same : (L : List ℕ) (k c : ℕ) → SameFlows L (with_cells L k c)
with_cells_same L k c =
    record {
      same_length = length-set L (per_flow * (k - 1) + 2) c;
      same_inputs = λ x. get_or-set_other L (per_flow * (k - 1) + 2) (per_flow * (x - 1)) c 0 (λ e. omega arith);
      same_outputs = λ x. get_or-set_other L (per_flow * (k - 1) + 2) (per_flow * (x - 1) + 1) c 0 (λ e. omega arith);
    }

pub with_cells_there : (L : List ℕ) (k c : ℕ) → IsFlow L k → cells_of (with_cells L k c) k ≡ c
with_cells_there L k c f = get_or-set_same L (per_flow * (k - 1) + 2) c 0 (omega (arith, f.at_least, f.at_most))

pub with_cells_else : (L : List ℕ) (k c x : ℕ) → IsFlow L k → 1 ≤ x → (x ≡ k → ⊥) → cells_of (with_cells L k c) x ≡ cells_of L x
with_cells_else L k c x f l d = get_or-set_other L (per_flow * (k - 1) + 2) (per_flow * (x - 1) + 2) c 0 (λ e. d (omega (arith, f.at_least)))

pub is_flow_same : {L L' : List ℕ} → SameFlows L L' → (k : ℕ) → IsFlow L' k → IsFlow L k
is_flow_same s k f = record { at_least = f.at_least; at_most = omega (arith, f.at_most, ap (λ (n : ℕ). n / 3) s.same_length) }

-- accepted but for the counts
pub record Placed (M N : ℕ) (L T : List ℕ) : Type 0 where
  pub of_its_row : (r s : ℕ) → r < N → s < M → (entry M T r s ≡ 0) ⊎ FlowOf L (suc r) (entry M T r s)
  pub input_once : (s a b : ℕ) → s < M → a < N → b < N → (a ≡ b → ⊥) → (entry M T a s ≡ 0 → ⊥) → (entry M T b s ≡ 0 → ⊥) → input_of L (entry M T a s) ≡ input_of L (entry M T b s) → ⊥

pub placed_of : {M N : ℕ} {L T : List ℕ} → Accepted M N L T → Placed M N L T
placed_of h = record { of_its_row = h.of_its_row; input_once = h.input_once }

pub accepted_of : {M N : ℕ} {L T : List ℕ} → Placed M N L T → ((k : ℕ) → IsFlow L k → times M N T k ≡ cells_of L k) → Accepted M N L T
accepted_of h c = record { of_its_row = h.of_its_row; input_once = h.input_once; exact_counts = c }

pub placed_same : {M N : ℕ} {L L' T : List ℕ} → SameFlows L L' → Placed M N L' T → Placed M N L T
placed_same {M} {N} {L} {L'} {T} s h =
    record {
      of_its_row = λ r t lr lt. flow r (entry M T r t) (h.of_its_row r t lr lt);
      input_once = λ t a b lt la lb d x y e. h.input_once t a b lt la lb d x y (s.same_inputs (entry M T a t) ∙ e ∙ sym (s.same_inputs (entry M T b t)));
    }
  where
    flow : (r e : ℕ) → (e ≡ 0) ⊎ FlowOf L' (suc r) e → (e ≡ 0) ⊎ FlowOf L (suc r) e
    flow r e (inl z) = inl z
    flow r e (inr f) =
        inr (record {
          is_flow = is_flow_same s e f.is_flow;
          its_output = ap (λ (x : ℕ). eqb x (suc r)) (sym (s.same_outputs e)) ∙ f.its_output;
        })
