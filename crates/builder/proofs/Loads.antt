-- A port that is asked for fewer cells than the frame has a slot free in an accepted table; and a port is asked for fewer while a cell of one of its flows is not placed.
use Prim.Native.Nat.{ℕ, suc, ◌-◌, ◌/◌, ◌≤◌, ◌<◌}
use mathlib.Core.Path.{◌≡◌, refl, sym, ◌∙◌, ap, subst}
use mathlib.Core.Logic.{◌⊎◌, inl, inr}
use mathlib.Core.Bool.{Bool, true, false, cond, true≢false}
use mathlib.Core.List.{List}
use native.Mathlib.Omega.{arith}
use native.Mathlib.Decide.{ℕ_discrete}
use native.Mathlib.Nat.{mul-one}
use borrow.Author.Tests.{eq-eqb, ne_eqb, eqb-false}
use lib.Dec.{eqb}
use Rattle.answers.specs.Sums.{sum, one}
use Rattle.answers.proofs.Sums.{sum_less, sum_const, term_le, term_below}
use Rattle.flows.specs.Flows.{per_flow, flow_count, IsFlow, input_of, output_of, cells_of, comes_from, goes_to, input_load, output_load}
use Rattle.tables.specs.Accepted.{entry, FlowOf, Accepted}
use Rattle.tables.proofs.Counting.{counted, by_slots}
use Rattle.builder.specs.AddCell.{SameFlows}

module _ (M N : ℕ) (L T : List ℕ) (acc : Accepted M N L T) where
  -- fewer cells than slots leave a slot at which no row holds one
  free_slot : (g : ℕ → Bool) → sum (flow_count L) (λ k. cond (g (suc k)) (cells_of L (suc k)) 0) < M
      → (s : ℕ) × (s < M) × ((r : ℕ) → r < N → counted g (entry M T r s) ≡ 0)
  free_slot g h =
      let found = term_below M (λ s. sum N (λ r. counted g (entry M T r s))) (λ s. 1) (omega (arith, by_slots M N L T acc g, sum_const M 1, mul-one M)) in
      (found.0, found.1, λ r l. omega (arith, term_le N (λ r. counted g (entry M T r found.0)) r l, found.2))

  counted_not : (g : ℕ → Bool) (e : ℕ) → counted g e ≡ 0 → (e ≡ 0 → ⊥) → g e ≡ false
  counted_not g e h d = go (g e) refl
    where
      go : (b : Bool) → g e ≡ b → b ≡ false
      go true x = absurd (omega (arith, sym (ap (λ (t : Bool). cond t 0 (one (g e))) (ne_eqb e 0 d)) ∙ h, ap one x))
      go false x = refl

  -- an output that is not full has a slot free
  pub free_at_row : (r : ℕ) → r < N → output_load L (suc r) < M → (s : ℕ) × (s < M) × (entry M T r s ≡ 0)
  unfolding output_load
  free_at_row r lr h =
      let found = free_slot (λ k. goes_to L k (suc r)) h in
      (found.0, found.1, empty found.0 (found.2 r lr) (ℕ_discrete (entry M T r found.0) 0) (acc.of_its_row r found.0 lr found.1))
    where
      empty : (s : ℕ) → counted (λ k. goes_to L k (suc r)) (entry M T r s) ≡ 0 → Dec (entry M T r s ≡ 0)
          → (entry M T r s ≡ 0) ⊎ FlowOf L (suc r) (entry M T r s) → entry M T r s ≡ 0
      empty s h (yes z) f = z
      empty s h (no d) (inl z) = z
      empty s h (no d) (inr f) = absurd (true≢false (sym f.its_output ∙ counted_not (λ k. goes_to L k (suc r)) (entry M T r s) h d))

  -- an input that is not full has a slot free
  pub free_at_input : (i : ℕ) → input_load L i < M → (s : ℕ) × (s < M) × ((r : ℕ) → r < N → (entry M T r s ≡ 0 → ⊥) → input_of L (entry M T r s) ≡ i → ⊥)
  unfolding input_load
  free_at_input i h =
      let found = free_slot (λ k. comes_from L k i) h in (
        found.0,
        found.1,
        λ r l d e. eqb-false _ _ (counted_not (λ k. comes_from L k i) (entry M T r found.0) (found.2 r l) d) e,
      )

-- a list of the same flows with no flow's cells more, and flow k's less, asks less of both of k's ports
module _ (L L' : List ℕ) (same : SameFlows L L') (k : ℕ) (flow : IsFlow L k)
    (no_more : (x : ℕ) → IsFlow L x → cells_of L' x ≤ cells_of L x) (less : cells_of L' k < cells_of L k) where
  load_less : (g g' : ℕ → Bool) → ((x : ℕ) → g' x ≡ g x) → g k ≡ true
      → sum (flow_count L') (λ x. cond (g' (suc x)) (cells_of L' (suc x)) 0) < sum (flow_count L) (λ x. cond (g (suc x)) (cells_of L (suc x)) 0)
  load_less g g' alike held =
      subst (λ (n : ℕ). sum n (λ x. cond (g' (suc x)) (cells_of L' (suc x)) 0) < sum (flow_count L) (λ x. cond (g (suc x)) (cells_of L (suc x)) 0))
      (sym (ap (λ (n : ℕ). n / per_flow) same.same_length))
      (sum_less (flow_count L) (λ x. cond (g' (suc x)) (cells_of L' (suc x)) 0) (λ x. cond (g (suc x)) (cells_of L (suc x)) 0) (k - 1)
      (omega (arith, flow.at_least, flow.at_most))
      (λ x u. at_most (g' (suc x)) (g (suc x)) (alike (suc x)) (no_more (suc x) (record { at_least = omega arith; at_most = omega arith })))
      (subst (λ (y : ℕ). cond (g' y) (cells_of L' y) 0 < cond (g y) (cells_of L y) 0) (omega (arith, flow.at_least))
      (subst (λ (b : Bool). cond b (cells_of L' k) 0 < cond (g k) (cells_of L k) 0) (sym (alike k ∙ held))
      (subst (λ (b : Bool). cells_of L' k < cond b (cells_of L k) 0) (sym held) less))))
    where
      at_most : (a b : Bool) {m n : ℕ} → a ≡ b → m ≤ n → cond a m 0 ≤ cond b n 0
      at_most true true e l = l
      at_most true false e l = absurd (true≢false e)
      at_most false b e l = omega arith

  pub input_less : input_load L' (input_of L' k) < input_load L (input_of L k)
  unfolding input_load
  input_less =
      load_less (λ x. comes_from L x (input_of L k)) (λ x. comes_from L' x (input_of L' k))
      (λ x. ap (λ (y : ℕ). eqb y (input_of L' k)) (same.same_inputs x) ∙ ap (λ (y : ℕ). eqb (input_of L x) y) (same.same_inputs k)) (eq-eqb (input_of L k) (input_of L k) refl)

  pub output_less : output_load L' (output_of L' k) < output_load L (output_of L k)
  unfolding output_load
  output_less =
      load_less (λ x. goes_to L x (output_of L k)) (λ x. goes_to L' x (output_of L' k))
      (λ x. ap (λ (y : ℕ). eqb y (output_of L' k)) (same.same_outputs x) ∙ ap (λ (y : ℕ). eqb (output_of L x) y) (same.same_outputs k)) (eq-eqb (output_of L k) (output_of L k) refl)
