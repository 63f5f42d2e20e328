-- A cell added at the first slots that are free: the step of the build, and of the existence of tables.
use Prim.Native.Nat.{ℕ, suc, ◌+◌, ◌-◌, ◌*◌, ◌≤◌, ◌<◌}
use mathlib.Core.Path.{◌≡◌, refl, sym, ◌∙◌, ap, subst}
use mathlib.Core.Bool.{Bool, true, false, cond, not}
use mathlib.Core.List.{List}
use native.Mathlib.Omega.{arith}
use native.Mathlib.Decide.{ℕ_discrete}
use borrow.Author.Tests.{eq-eqb, ne_eqb, eqb-true, eqb-false, lt-ltb, le-ltb, ltb-true, ltb-false, not-true}
use lib.Arith.{digits_lt}
use lib.Dec.{eqb, ltb}
use lib.ListN.{length, drop, set, length-set}
use Rattle.std.proofs.Common.{Some, None}
use lib.Seq.{drop-set-lt}
use Rattle.answers.specs.Limits.{max_ports}
use Rattle.answers.specs.Lowest.{lowest, found}
use Rattle.answers.proofs.Lowest.{lowest_found, somewhere_test, somewhere_false, nowhere_test, found_some, found_none}
use Rattle.answers.specs.Sums.{one}
use Rattle.flows.specs.Flows.{IsFlow, input_of, output_of, cells_of, input_load, output_load}
use Rattle.tables.specs.Accepted.{entry, times, Accepted}
use Rattle.builder.specs.Exchange.{input_at, none_seen, output_side}
use Rattle.builder.specs.FreeSlots.{empty_at, input_used, free_of_row, free_of_input}
use Rattle.builder.specs.InputMarks.{Marked, Remarked}
use Rattle.builder.specs.AddCell.{one_cell_more, SameFlows, PortsInRange, MayAdd, InTwoSlots, CellAdded}
use Rattle.builder.proofs.Places.{stored_else}
use Rattle.builder.proofs.Loads.{free_at_row, free_at_input}
use Rattle.builder.proofs.SameFlows.{same_back, same_on, with_cells_same, with_cells_there, with_cells_else, is_flow_same, placed_of, accepted_of, placed_same}
use Rattle.builder.proofs.Remarking.{marked_again}
use Rattle.builder.proofs.Placing.{turned, put_cell, input_at_flow, turned_exchanged, put_placed, put_times}

-- a test that holds in a range holds at the lowest number that is found
found_there : (count : ℕ) (test : ℕ → Bool) (s : ℕ) → s < count → test s ≡ true → (lowest 0 count test < count) × (test (lowest 0 count test) ≡ true)
found_there count test s l t =
    let u = ltb-true (lowest 0 count test) (0 + count) (somewhere_test 0 count test s (omega arith) (omega arith) t) in
    (omega arith, (lowest_found 0 count test).there u)

pub free_of_row_lem : (M : ℕ) (T : List ℕ) (r s : ℕ) → s < M → entry M T r s ≡ 0 → (free_of_row M T r < M) × (entry M T r (free_of_row M T r) ≡ 0)
unfolding free_of_row
free_of_row_lem M T r s l e =
    let f = found_there M (empty_at M T r) s l (eq-eqb (entry M T r s) 0 e) in
    (f.0, eqb-true _ _ f.1)

module _ (M N : ℕ) (L T : List ℕ) (i : ℕ) (some : i ≡ 0 → ⊥) where
  used_not : (s : ℕ) → ((r : ℕ) → r < N → (entry M T r s ≡ 0 → ⊥) → input_of L (entry M T r s) ≡ i → ⊥) → input_used M N L T i s ≡ false
  used_not s h = nowhere_test 0 N (λ r. eqb (input_at L (entry M T r s)) i) (λ r _ l. ne_eqb _ _ (λ e. at r (omega arith) e (ℕ_discrete (entry M T r s) 0)))
    where
      at : (r : ℕ) → r < N → input_at L (entry M T r s) ≡ i → Dec (entry M T r s ≡ 0) → ⊥
      at r l e (yes z) = some (sym e ∙ rw (eq-eqb (entry M T r s) 0 z))
      at r l e (no d) = h r l d (sym (input_at_flow L (entry M T r s) d) ∙ e)

  not_used : (s : ℕ) → input_used M N L T i s ≡ false → (r : ℕ) → r < N → (entry M T r s ≡ 0 → ⊥) → input_of L (entry M T r s) ≡ i → ⊥
  not_used s h r l d e =
      eqb-false _ _ (somewhere_false 0 N (λ x. eqb (input_at L (entry M T x s)) i) h r (omega arith) (omega arith)) (input_at_flow L (entry M T r s) d ∙ e)

  pub free_of_input_lem : (s : ℕ) → s < M → ((r : ℕ) → r < N → (entry M T r s ≡ 0 → ⊥) → input_of L (entry M T r s) ≡ i → ⊥)
      → (free_of_input M N L T i < M)
      × ((r : ℕ) → r < N → (entry M T r (free_of_input M N L T i) ≡ 0 → ⊥) → input_of L (entry M T r (free_of_input M N L T i)) ≡ i → ⊥)
  unfolding free_of_input
  free_of_input_lem s l h =
      let f = found_there M (λ t. not (input_used M N L T i t)) s l (ap not (used_not s h)) in
      (f.0, not_used _ (not-true _ f.1))

-- the row of flow k's output, and the slots at which its output and its input are free
abbrev pub row_of : List ℕ → ℕ → ℕ
row_of L k = output_of L k - 1

abbrev pub out_slot : ℕ → List ℕ → ℕ → List ℕ → ℕ
out_slot M L k T = free_of_row M T (row_of L k)

abbrev pub in_slot : ℕ → ℕ → List ℕ → ℕ → List ℕ → ℕ
in_slot M N L k T = free_of_input M N L T (input_of L k)

-- the table with one more cell of flow k, where both ends have a slot free; else the table as it was
abbrev pub with_cell : ℕ → ℕ → ℕ → List ℕ → ℕ → List ℕ → List ℕ
with_cell w M N L k T =
    cond (ltb (out_slot M L k T) M)
    (cond (ltb (in_slot M N L k T) M) (put_cell w M N L k (out_slot M L k T) (in_slot M N L k T) (row_of L k) T) T)
    T

module _ (w M N : ℕ) (L : List ℕ) (k : ℕ) (T : List ℕ) (room : N ≤ w) (ports : PortsInRange N L) (flow : IsFlow L k) (len : N * M ≤ length T) where
  row_in : row_of L k < N
  row_in = let o = ports.outputs k flow in omega (arith, o.at_least, o.at_most)

  row_out : output_of L k ≡ suc (row_of L k)
  row_out = let o = ports.outputs k flow in omega (arith, o.at_least)

  pub added_accepted : (L' : List ℕ) → SameFlows L L' → Accepted M N L' T → input_load L' (input_of L' k) < M → output_load L' (output_of L' k) < M
      → Accepted M N (one_cell_more L' k) (with_cell w M N L k T)
  added_accepted L' same acc in-room out-room =
      subst (λ (x : List ℕ). Accepted M N (one_cell_more L' k) x) (sym chosen)
      (accepted_of
      (placed_same (same_back (same_on same (with_cells_same L' k (suc (cells_of L' k)))))
      (put_placed w M N L T k p q j room outs.0 ins.0 row_in len ports flow row_out (placed_same same (placed_of acc)) outs.1 ins.1))
      counts)
    where
      p : ℕ
      p = out_slot M L k T

      q : ℕ
      q = in_slot M N L k T

      j : ℕ
      j = row_of L k

      flow' : IsFlow L' k
      flow' = is_flow_same (same_back same) k flow

      outs : (p < M) × (entry M T j p ≡ 0)
      outs =
          let at = free_at_row M N L' T acc j row_in (subst (λ (x : ℕ). output_load L' x < M) (same.same_outputs k ∙ row_out) out-room) in
          free_of_row_lem M T j at.0 at.1 at.2

      ins : (q < M) × ((r : ℕ) → r < N → (entry M T r q ≡ 0 → ⊥) → input_of L (entry M T r q) ≡ input_of L k → ⊥)
      ins =
          let at = free_at_input M N L' T acc (input_of L' k) in-room in
          free_of_input_lem M N L T (input_of L k) (λ z. omega (arith, (ports.inputs k flow).at_least)) at.0 at.1
          (λ r l d e. at.2 r l d (same.same_inputs (entry M T r at.0) ∙ e ∙ sym (same.same_inputs k)))

      chosen : with_cell w M N L k T ≡ put_cell w M N L k p q j T
      chosen =
          ap (λ (b : Bool). cond b (cond (ltb q M) (put_cell w M N L k p q j T) T) T) (lt-ltb p M outs.0)
          ∙ ap (λ (b : Bool). cond b (put_cell w M N L k p q j T) T) (lt-ltb q M ins.0)

      counts : (x : ℕ) → IsFlow (one_cell_more L' k) x → times M N (put_cell w M N L k p q j T) x ≡ cells_of (one_cell_more L' k) x
      counts x fx =
          put_times w M N L T k p q j room outs.0 ins.0 row_in len ports flow row_out (placed_same same (placed_of acc)) outs.1 ins.1 x fx.at_least
          ∙ at (ℕ_discrete x k)
        where
          was : times M N T x ≡ cells_of L' x
          was = acc.exact_counts x (is_flow_same (with_cells_same L' k (suc (cells_of L' k))) x fx)

          at : Dec (x ≡ k) → times M N T x + one (eqb k x) ≡ cells_of (one_cell_more L' k) x
          at (yes e) =
              omega (
                arith,
                was,
                ap one (eq-eqb k x (sym e)),
                with_cells_there L' k (suc (cells_of L' k)) flow',
                ap (λ (y : ℕ). cells_of (one_cell_more L' k) y) e,
                ap (λ (y : ℕ). cells_of L' y) e,
              )
          at (no d) =
              omega (arith, was, ap one (ne_eqb k x (λ e. d (sym e))), with_cells_else L' k (suc (cells_of L' k)) x flow' fx.at_least d)

  pub with_cell_length : length (with_cell w M N L k T) ≡ length T
  with_cell_length = outer (ltb (out_slot M L k T) M) refl
    where
      p : ℕ
      p = out_slot M L k T

      q : ℕ
      q = in_slot M N L k T

      j : ℕ
      j = row_of L k

      inner : (b : Bool) → ltb q M ≡ b → p < M → length (cond b (put_cell w M N L k p q j T) T) ≡ length T
      inner true e lp =
          length-set (turned w M N L p q j T) (j * M + q) k ∙ (turned_exchanged w M N L T k p q j room lp (ltb-true q M e) row_in len).same_length
      inner false e lp = refl

      outer : (b : Bool) → ltb p M ≡ b → length (cond b (cond (ltb q M) (put_cell w M N L k p q j T) T) T) ≡ length T
      outer true e = inner (ltb q M) refl (ltb-true p M e)
      outer false e = refl

  -- the step in full: a cell added, at two slots at most, and nothing past the table touched
  pub cell_added : 0 < M → CellAdded M N L k T (with_cell w M N L k T)
  cell_added some = record { accepted = added_accepted; in_two_slots = slots (ltb p M) refl; beyond = past (ltb p M) refl }
    where
      p : ℕ
      p = out_slot M L k T

      q : ℕ
      q = in_slot M N L k T

      j : ℕ
      j = row_of L k

      as_it_was : InTwoSlots M N T T
      as_it_was = record { first_slot = 0; second_slot = 0; first_in_frame = some; second_in_frame = some; other_slots = λ r s lr ls d d'. refl }

      put : p < M → q < M → InTwoSlots M N T (put_cell w M N L k p q j T)
      put lp lq =
          record {
            first_slot = p;
            second_slot = q;
            first_in_frame = lp;
            second_in_frame = lq;
            other_slots = λ r s lr ls d d'.
                stored_else M (turned w M N L p q j T) r s j q k ls lq (λ _ e. d' e)
                ∙ (turned_exchanged w M N L T k p q j room lp lq row_in len).others r s ls d d';
          }

      slots_2 : (b : Bool) → ltb q M ≡ b → p < M → InTwoSlots M N T (cond b (put_cell w M N L k p q j T) T)
      slots_2 true e lp = put lp (ltb-true q M e)
      slots_2 false e lp = as_it_was

      slots : (b : Bool) → ltb p M ≡ b → InTwoSlots M N T (cond b (cond (ltb q M) (put_cell w M N L k p q j T) T) T)
      slots true e = slots_2 (ltb q M) refl (ltb-true p M e)
      slots false e = as_it_was

      past_2 : (b : Bool) → ltb q M ≡ b → p < M → drop (N * M) (cond b (put_cell w M N L k p q j T) T) ≡ drop (N * M) T
      past_2 true e lp =
          drop-set-lt (N * M) (turned w M N L p q j T) (j * M + q) k (digits_lt row_in (ltb-true q M e))
          ∙ (turned_exchanged w M N L T k p q j room lp (ltb-true q M e) row_in len).beyond
      past_2 false e lp = refl

      past : (b : Bool) → ltb p M ≡ b → drop (N * M) (cond b (cond (ltb q M) (put_cell w M N L k p q j T) T) T) ≡ drop (N * M) T
      past true e = past_2 (ltb q M) refl (ltb-true p M e)
      past false e = refl

-- the step as the code goes: the row, the two slots, the run and the store, or no slot and the table as it was
module _ {M N : ℕ} {L : List ℕ} {k : ℕ} {T : List ℕ} (may : MayAdd M N L k T) {out into : ℕ} (out_is : out ≡ output_of L k) (into_is : into ≡ input_of L k) where
  whole : CellAdded M N L k T (with_cell max_ports M N L k T)
  whole =
      let h = may.table in
      cell_added max_ports M N L k T h.ports_in_range.at_most may.ports may.flow h.long_enough (omega (arith, h.frame_in_range.at_least))

  none_below : (test : ℕ → Bool) → None ≡ found 0 M test → M ≤ lowest 0 M test
  none_below test e = omega (arith, ltb-false _ _ (found_none 0 M test e))

  unless : (A : List ℕ) {b : Bool} → b ≡ false → cond b A T ≡ T
  unless A e = ap (λ (b : Bool). cond b A T) e

  pub row_full : None ≡ found 0 M (empty_at M T (out - 1)) → CellAdded M N L k T T
  unfolding free_of_row
  row_full e =
      subst (λ (x : List ℕ). CellAdded M N L k T x)
      (unless _ (le-ltb (out_slot M L k T) M (none_below (empty_at M T (row_of L k)) (e ∙ ap (λ (x : ℕ). found 0 M (empty_at M T (x - 1))) out_is)))) whole

  pub input_full : None ≡ found 0 M (λ s. not (input_used M N L T into s)) → CellAdded M N L k T T
  unfolding free_of_input
  input_full e =
      subst (λ (x : List ℕ). CellAdded M N L k T x)
      (neither (ltb (out_slot M L k T) M) (put_cell max_ports M N L k (out_slot M L k T) (in_slot M N L k T) (row_of L k) T)
      (le-ltb (in_slot M N L k T) M (none_below (λ s. not (input_used M N L T (input_of L k) s)) (e ∙ ap (λ (x : ℕ). found 0 M (λ s. not (input_used M N L T x s))) into_is)))) whole
    where
      neither : (a : Bool) (A : List ℕ) {b : Bool} → b ≡ false → cond a (cond b A T) T ≡ T
      neither true A e = unless A e
      neither false A e = refl

  -- both ends have a slot free
  module _ {first second : ℕ} (first_is : Some first ≡ found 0 M (empty_at M T (out - 1))) (second_is : Some second ≡ found 0 M (λ s. not (input_used M N L T into s))) where
    first_found : (first < M) × (first ≡ out_slot M L k T)
    unfolding free_of_row
    first_found =
        let f = found_some 0 M (empty_at M T (out - 1)) first first_is in
        (omega (arith, f.high), f.is ∙ ap (λ (x : ℕ). lowest 0 M (empty_at M T (x - 1))) out_is)

    second_found : (second < M) × (second ≡ in_slot M N L k T)
    unfolding free_of_input
    second_found =
        let f = found_some 0 M (λ s. not (input_used M N L T into s)) second second_is in
        (omega (arith, f.high), f.is ∙ ap (λ (x : ℕ). lowest 0 M (λ s. not (input_used M N L T x s))) into_is)

    module _ {T' T'' : List ℕ} (ran : T' ≡ output_side M N L first second (out - 1) (none_seen max_ports) T) (put : T'' ≡ set T' ((out - 1) * M + second) k) where
      pub added_by_run : CellAdded M N L k T T''
      added_by_run =
          subst (λ (x : List ℕ). CellAdded M N L k T x)
          (ap (λ (b : Bool). cond b (cond (ltb q M) (cell j p q) T) T) (lt-ltb p M (omega (arith, first_found.0, first_found.1)))
          ∙ ap (λ (b : Bool). cond b (cell j p q) T) (lt-ltb q M (omega (arith, second_found.0, second_found.1)))
          ∙ sym (put ∙ ap (λ (x : List ℕ). set x ((out - 1) * M + second) k) ran
          ∙ ap (λ (x : ℕ). cell (x - 1) first second) out_is ∙ ap (λ (x : ℕ). cell j x second) first_found.1 ∙ ap (λ (x : ℕ). cell j p x) second_found.1))
          whole
        where
          p : ℕ
          p = out_slot M L k T

          q : ℕ
          q = in_slot M N L k T

          j : ℕ
          j = row_of L k

          cell : ℕ → ℕ → ℕ → List ℕ
          cell r s t = put_cell max_ports M N L k s t r T

      -- every entry at another slot is as it was
      added_elsewhere : (r s : ℕ) → s < M → (s ≡ first → ⊥) → (s ≡ second → ⊥) → entry M T'' r s ≡ entry M T r s
      added_elsewhere r s ls d d' =
          let o = may.ports.outputs k may.flow in
          let h = may.table in
          ap (λ (t : List ℕ). entry M t r s) put
          ∙ stored_else M T' r s (out - 1) second k ls second_found.0 (λ _ x. d' x)
          ∙ ap (λ (t : List ℕ). entry M t r s) ran
          ∙ (turned_exchanged max_ports M N L T k first second (out - 1) h.ports_in_range.at_most first_found.0 second_found.0 (omega (arith, out_is, o.at_least, o.at_most)) h.long_enough).others r s ls d d'

      -- and the marks are right once those of both slots are made anew
      pub marked_by_run : {U U' U'' : List Bool} → Marked M N L T U → Remarked M N L T'' first U U' → Remarked M N L T'' second U' U'' → Marked M N L T'' U''
      marked_by_run {U} {U'} {U''} marked a b = marked_again M N L T T'' U U' U'' first second marked added_elsewhere a b
