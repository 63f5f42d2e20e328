-- What stays as rows exchange their entries at two slots: what each row holds, and how often each flow stands in the table. And what one store does to the counts.
use Prim.Native.Nat.{ℕ, ◌+◌, ◌*◌, ◌≤◌, ◌<◌}
use mathlib.Core.Path.{◌≡◌, sym, ◌∙◌, ap, subst}
use mathlib.Core.Logic.{inl, inr}
use mathlib.Core.List.{List}
use native.Mathlib.Omega.{arith}
use native.Mathlib.Decide.{ℕ_discrete}
use lib.Dec.{eqb}
use lib.ListN.{length, set}
use lib.Seq.{get_or-set_same}
use Rattle.answers.specs.Sums.{sum, one}
use Rattle.answers.proofs.Sums.{sum_agree, sum_change, sum_exchange}
use Rattle.tables.specs.Accepted.{entry, times}
use Rattle.builder.proofs.Places.{in_table, stored_else}
use Rattle.builder.proofs.Alternation.{RowExchanged, Exchanged}

module _ (M N p q : ℕ) (T T' : List ℕ) (lp : p < M) (lq : q < M) (x : Exchanged M N p q T T') where
  -- what holds of each entry of a row holds of each entry of that row
  pub row_kept : (P : ℕ → Type 0) (r : ℕ) → r < N → ((s : ℕ) → s < M → P (entry M T r s)) → (s : ℕ) → s < M → P (entry M T' r s)
  row_kept P r lr h s ls = go (ℕ_discrete s p) (ℕ_discrete s q) (x.rows r lr)
    where
      go : Dec (s ≡ p) → Dec (s ≡ q)
          → RowExchanged M p q T T' r
          → P (entry M T' r s)
      go (yes e) d (inl k) = subst P (sym (ap (λ (t : ℕ). entry M T' r t) e ∙ k.0)) (h p lp)
      go (yes e) d (inr k) = subst P (sym (ap (λ (t : ℕ). entry M T' r t) e ∙ k.0)) (h q lq)
      go (no c) (yes e) (inl k) = subst P (sym (ap (λ (t : ℕ). entry M T' r t) e ∙ k.1)) (h q lq)
      go (no c) (yes e) (inr k) = subst P (sym (ap (λ (t : ℕ). entry M T' r t) e ∙ k.1)) (h p lp)
      go (no c) (no d) k = subst P (sym (x.others r s ls c d)) (h s ls)

  pub times_kept : (k : ℕ) → times M N T' k ≡ times M N T k
  unfolding times
  times_kept k = sum_agree N _ (λ r. sum M (λ s. one (eqb (entry M T r s) k))) (λ r lr. row r (ℕ_discrete p q) (x.rows r lr))
    where
      at : ℕ → ℕ → ℕ
      at r s = one (eqb (entry M T r s) k)

      at' : ℕ → ℕ → ℕ
      at' r s = one (eqb (entry M T' r s) k)

      there : (r s : ℕ) {y : ℕ} → entry M T' r s ≡ y → at' r s ≡ one (eqb y k)
      there r s e = ap (λ (z : ℕ). one (eqb z k)) e

      stay : (r : ℕ) → entry M T' r p ≡ entry M T r p → entry M T' r q ≡ entry M T r q → sum M (at' r) ≡ sum M (at r)
      stay r e f = sum_agree M (at' r) (at r) (λ s ls. slot s ls (ℕ_discrete s p) (ℕ_discrete s q))
        where
          slot : (s : ℕ) → s < M → Dec (s ≡ p) → Dec (s ≡ q) → at' r s ≡ at r s
          slot s ls (yes i) d = ap (at' r) i ∙ there r p e ∙ sym (ap (at r) i)
          slot s ls (no c) (yes i) = ap (at' r) i ∙ there r q f ∙ sym (ap (at r) i)
          slot s ls (no c) (no d) = there r s (x.others r s ls c d)

      row : (r : ℕ) → Dec (p ≡ q)
          → RowExchanged M p q T T' r
          → sum M (at' r) ≡ sum M (at r)
      row r d (inl h) = stay r h.0 h.1
      row r (yes e) (inr h) = stay r (h.0 ∙ sym (ap (λ (s : ℕ). entry M T r s) e)) (h.1 ∙ ap (λ (s : ℕ). entry M T r s) e)
      row r (no d) (inr h) =
          sum_exchange M (at' r) (at r) p q lp lq d (sym (there r q h.1)) (sym (there r p h.0)) (λ s ls c d'. there r s (x.others r s ls c d'))

-- a store changes the count of what it puts in the place, and of what stood there
pub times_stored : (M N : ℕ) (T : List ℕ) (r s v k : ℕ) → r < N → s < M → N * M ≤ length T
    → times M N (set T (r * M + s) v) k + one (eqb (entry M T r s) k) ≡ times M N T k + one (eqb v k)
unfolding times
times_stored M N T r s v k lr ls len =
    omega (
      arith,
      sum_change N (λ a. sum M (at a)) (λ a. sum M (at' a)) r lr
          (λ a la d. sum_agree M (at a) (at' a) (λ t lt. ap (λ (z : ℕ). one (eqb z k)) (sym (stored_else M T a t r s v lt ls (λ e _. d e))))),
      sum_change M (at r) (at' r) s ls (λ t lt d. ap (λ (z : ℕ). one (eqb z k)) (sym (stored_else M T r t r s v lt ls (λ _ e. d e)))),
      ap (λ (z : ℕ). one (eqb z k)) (get_or-set_same T (r * M + s) v 0 (in_table T len lr ls)),
    )
  where
    at : ℕ → ℕ → ℕ
    at a t = one (eqb (entry M T a t) k)

    at' : ℕ → ℕ → ℕ
    at' a t = one (eqb (entry M (set T (r * M + s) v) a t) k)
