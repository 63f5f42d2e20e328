-- The load of a port, counted in an accepted table slot by slot; so an accepted table asks no port for more than the frame.
use Prim.Native.Nat.{ℕ, zero, suc, ◌≤◌, ◌<◌}
use mathlib.Core.Path.{◌≡◌, refl, sym, ◌∙◌, ap}
use mathlib.Core.Logic.{◌⊎◌, inl, inr}
use mathlib.Core.Bool.{Bool, true, false, cond, not, ◌&&◌}
use mathlib.Core.List.{List}
use native.Mathlib.Omega.{arith}
use native.Mathlib.Nat.{mul-one}
use lib.Dec.{eqb}
use Rattle.std.proofs.lemmas.Bool.Decides.{nat_tests}
use Rattle.answers.specs.Sums.{sum, one}
use Rattle.answers.proofs.Sums.{sum_agree, sum_at_most, sum_zero, sum_swap, sum_change, count_once}
use Rattle.flows.specs.Flows.{flow_count, cells_of, comes_from, goes_to, input_load, output_load, Fitting}
use Rattle.tables.specs.Accepted.{entry, times, Accepted}

-- 1 where the entry is a flow of which the test holds, else 0
abbrev pub counted : (ℕ → Bool) → ℕ → ℕ
counted g e = cond (eqb e 0) 0 (one (g e))

pick_sum : (b : Bool) (n : ℕ) (f : ℕ → ℕ) → cond b (sum n f) 0 ≡ sum n (λ x. cond b (f x) 0)
pick_sum true n f = refl
pick_sum false n f = sym (sum_zero n (λ x. 0) (λ x l. refl))

-- an entry is counted at its own flow alone
one_flow : (K : ℕ) (g : ℕ → Bool) (e : ℕ) → (e ≡ 0) ⊎ ((1 ≤ e) × (e ≤ K)) → sum K (λ k. cond (g (suc k)) (one (eqb e (suc k))) 0) ≡ counted g e
one_flow K g e (inl z) = grind (arith, nat_tests, sum_zero K (λ k. cond (g (suc k)) (one (eqb e (suc k))) 0) (λ k l. grind (arith, nat_tests)))
one_flow K g zero (inr b) = absurd (omega arith)
one_flow K g (suc j) (inr b) =
    grind (
      arith,
      nat_tests,
      sum_change K (λ k. 0) (λ k. cond (g (suc k)) (one (eqb (suc j) (suc k))) 0) j (omega arith) (λ k u d. grind (arith, nat_tests)),
      sum_zero K (λ k. 0) (λ k u. refl),
    )

module _ (M N : ℕ) (L T : List ℕ) (acc : Accepted M N L T) where
  pub entry_range : (r s : ℕ) → r < N → s < M → (entry M T r s ≡ 0) ⊎ ((1 ≤ entry M T r s) × (entry M T r s ≤ flow_count L))
  entry_range r s lr ls = grind (arith, acc.of_its_row r s lr ls)

  -- the cells of the flows of which a test holds, counted slot by slot
  pub by_slots : (g : ℕ → Bool) → sum (flow_count L) (λ k. cond (g (suc k)) (cells_of L (suc k)) 0) ≡ sum M (λ s. sum N (λ r. counted g (entry M T r s)))
  unfolding times
  by_slots g =
      sum_agree K _ (λ k. sum N (λ r. sum M (λ s. at k r s)))
      (λ k l.
      ap (λ (n : ℕ). cond (g (suc k)) n 0) (sym (acc.exact_counts (suc k) (record { at_least = omega arith; at_most = omega arith })))
      ∙ pick_sum (g (suc k)) N (λ r. sum M (λ s. one (eqb (entry M T r s) (suc k))))
      ∙ sum_agree N _ (λ r. sum M (λ s. at k r s)) (λ r u. pick_sum (g (suc k)) M (λ s. one (eqb (entry M T r s) (suc k)))))
      ∙ sum_swap K N (λ k r. sum M (λ s. at k r s))
      ∙ sum_agree N _ (λ r. sum M (λ s. counted g (entry M T r s)))
      (λ r u. sum_swap K M (λ k s. at k r s) ∙ sum_agree M _ (λ s. counted g (entry M T r s)) (λ s v. one_flow K g (entry M T r s) (entry_range r s u v)))
      ∙ sum_swap N M (λ r s. counted g (entry M T r s))
    where
      K : ℕ
      K = flow_count L

      at : ℕ → ℕ → ℕ → ℕ
      at k r s = cond (g (suc k)) (one (eqb (entry M T r s) (suc k))) 0

  counted_once : (g : ℕ → Bool) (s : ℕ)
      → ((a b : ℕ) → a < N → b < N → (entry M T a s ≡ 0 → ⊥) → (entry M T b s ≡ 0 → ⊥) → g (entry M T a s) ≡ true → g (entry M T b s) ≡ true → a ≡ b)
      → sum N (λ r. counted g (entry M T r s)) ≤ 1
  counted_once g s h =
      omega (
        arith,
        sum_agree N (λ r. counted g (entry M T r s)) (λ r. one (test r)) (λ r l. grind arith),
        count_once N test (λ a b u w x y. h a b u w (filled a x).0 (filled b y).0 (filled a x).1 (filled b y).1),
      )
    where
      test : ℕ → Bool
      test r = not (eqb (entry M T r s) 0) && g (entry M T r s)

      filled : (r : ℕ) → test r ≡ true → (entry M T r s ≡ 0 → ⊥) × (g (entry M T r s) ≡ true)
      filled r x = grind (arith, nat_tests)

  fits : (g : ℕ → Bool) → ((s : ℕ) → s < M → sum N (λ r. counted g (entry M T r s)) ≤ 1) → sum (flow_count L) (λ k. cond (g (suc k)) (cells_of L (suc k)) 0) ≤ M
  fits g h = omega (arith, by_slots g, sum_at_most M (λ s. sum N (λ r. counted g (entry M T r s))) 1 h, mul-one M)

  -- two rows that hold flows of one input at a slot are one row
  one_row_an_input : (i s : ℕ) → s < M → (a b : ℕ) → a < N → b < N → (entry M T a s ≡ 0 → ⊥) → (entry M T b s ≡ 0 → ⊥)
      → comes_from L (entry M T a s) i ≡ true → comes_from L (entry M T b s) i ≡ true → a ≡ b
  one_row_an_input i s ls a b la lb da db x y = grind (arith, nat_tests, acc.input_once s a b ls la lb)

  -- a flow for output j stands in j's row alone
  own_row : (j s : ℕ) → s < M → (r : ℕ) → r < N → (entry M T r s ≡ 0 → ⊥) → goes_to L (entry M T r s) j ≡ true → j ≡ suc r
  own_row j s ls r lr d x = grind (arith, nat_tests, acc.of_its_row r s lr ls)

  -- no input and no output is asked for more than M
  pub accepted_fits : Fitting M N L
  unfolding input_load output_load
  accepted_fits =
      record {
        inputs_fit = λ i w. fits (λ k. comes_from L k i) (λ s l. counted_once (λ k. comes_from L k i) s (one_row_an_input i s l));
        outputs_fit = λ j w.
            fits (λ k. goes_to L k j)
            (λ s l. counted_once (λ k. goes_to L k j) s
            (λ a b la lb da db x y. omega (arith, own_row j s l a la da x, own_row j s l b lb db y)));
      }
