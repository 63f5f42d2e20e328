-- One more cell: from an accepted table and a slot free at each end of the flow, by a run and a store, to a table accepted for one cell more.
use Prim.Native.Nat.{ℕ, suc, ◌+◌, ◌*◌, ◌≤◌, ◌<◌}
use mathlib.Core.Path.{◌≡◌, refl, sym, ◌∙◌, ap, subst}
use mathlib.Core.Logic.{◌⊎◌, inl, inr}
use mathlib.Core.Bool.{Bool, false, cond}
use mathlib.Core.List.{List}
use native.Mathlib.Omega.{arith}
use native.Mathlib.Decide.{ℕ_discrete, dec_lt}
use borrow.Author.Tests.{eq-eqb, ne_eqb}
use lib.Dec.{eqb, ltb}
use lib.ListN.{length, get_or, set, length-replicate, get_or-replicate, get_or-eq_default}
use lib.Seq.{get_or-set_same}
use Rattle.answers.specs.Sums.{one}
use Rattle.flows.specs.Flows.{IsFlow, input_of, output_of}
use Rattle.tables.specs.Accepted.{entry, times, FlowOf}
use Rattle.builder.specs.Exchange.{input_at, none_seen, unseen, run}
use Rattle.builder.specs.AddCell.{PortsInRange}
use Rattle.builder.proofs.Exchange.{Clean, Free, Ready}
use Rattle.builder.proofs.Places.{in_table, stored_else}
use Rattle.builder.proofs.Alternation.{who, who_in, who_out, mark_of, Exchanged, RunDone, run_done, run_exchanged}
use Rattle.builder.proofs.Kept.{row_kept, times_kept, times_stored}
use Rattle.builder.proofs.SameFlows.{Placed}

pub none_seen_at : (w a : ℕ) → get_or (none_seen w) a false ≡ false
none_seen_at w a = go (dec_lt a w)
  where
    go : Dec (a < w) → get_or (none_seen w) a false ≡ false
    go (yes l) = get_or-replicate w a false false l
    go (no d) = get_or-eq_default (none_seen w) false {n = a} (omega (arith, length-replicate {A = Bool} w false))

pub input_at_empty : (L : List ℕ) (e : ℕ) → e ≡ 0 → input_at L e ≡ 0
input_at_empty L e z = rw (eq-eqb e 0 z)

pub input_at_flow : (L : List ℕ) (e : ℕ) → (e ≡ 0 → ⊥) → input_at L e ≡ input_of L e
input_at_flow L e d = rw (ne_eqb e 0 d)

-- a slot at which no input stands twice is clean
clean_of : (M N : ℕ) (L T : List ℕ) → Placed M N L T → (s : ℕ) → s < M → Clean (who M N L T s)
clean_of M N L T h s ls a b n e = go (dec_lt a N) (dec_lt b N) (ℕ_discrete a b)
  where
    filled : (x : ℕ) → x < N → (who M N L T s x ≡ 0 → ⊥) → entry M T x s ≡ 0 → ⊥
    filled x l m z = m (who_in M N L T s x l ∙ input_at_empty L (entry M T x s) z)

    its_input : (x : ℕ) → x < N → (entry M T x s ≡ 0 → ⊥) → who M N L T s x ≡ input_of L (entry M T x s)
    its_input x l d = who_in M N L T s x l ∙ input_at_flow L (entry M T x s) d

    go : Dec (a < N) → Dec (b < N) → Dec (a ≡ b) → a ≡ b
    go la lb (yes i) = i
    go (no la) lb (no d) = absurd (n (who_out M N L T s a (omega arith)))
    go (yes la) (no lb) (no d) = absurd (n (e ∙ who_out M N L T s b (omega arith)))
    go (yes la) (yes lb) (no d) =
        let fa = filled a la n in
        let fb = filled b lb (λ z. n (e ∙ z)) in
        absurd (h.input_once s a b ls la lb d fa fb (sym (its_input a la fa) ∙ e ∙ its_input b lb fb))

-- at a clean slot no input stands twice
once_of : (M N : ℕ) (L T : List ℕ) → PortsInRange N L → ((r s : ℕ) → r < N → s < M → (entry M T r s ≡ 0) ⊎ FlowOf L (suc r) (entry M T r s))
    → (s a b : ℕ) → s < M → Clean (who M N L T s) → a < N → b < N → (a ≡ b → ⊥) → (entry M T a s ≡ 0 → ⊥) → (entry M T b s ≡ 0 → ⊥)
    → input_of L (entry M T a s) ≡ input_of L (entry M T b s) → ⊥
once_of M N L T ports rows s a b ls clean la lb d fa fb e =
    d (clean a b (λ z. some (rows a s la ls) (sym (its_input a la fa) ∙ z)) (its_input a la fa ∙ e ∙ sym (its_input b lb fb)))
  where
    its_input : (x : ℕ) → x < N → (entry M T x s ≡ 0 → ⊥) → who M N L T s x ≡ input_of L (entry M T x s)
    its_input x l f = who_in M N L T s x l ∙ input_at_flow L (entry M T x s) f

    some : (entry M T a s ≡ 0) ⊎ FlowOf L (suc a) (entry M T a s) → input_of L (entry M T a s) ≡ 0 → ⊥
    some (inl z) x = fa z
    some (inr f) x = omega (arith, (ports.inputs (entry M T a s) f.is_flow).at_least)

-- a clean slot stays clean as an input that is free there comes to a row
clean_more : (u u' : ℕ → ℕ) (j : ℕ) → Clean u → Free u (u' j) → ((a : ℕ) → (a ≡ j → ⊥) → u' a ≡ u a) → Clean u'
clean_more u u' j clean free other a b n e = go (ℕ_discrete a j) (ℕ_discrete b j)
  where
    go : Dec (a ≡ j) → Dec (b ≡ j) → a ≡ b
    go (yes i) (yes k) = i ∙ sym k
    go (yes i) (no d) = absurd (free b (sym (other b d) ∙ sym e ∙ ap u' i))
    go (no d) (yes k) = absurd (free a (sym (other a d) ∙ e ∙ ap u' k))
    go (no d) (no c) = clean a b (λ z. n (other a d ∙ z)) (sym (other a d) ∙ e ∙ other b c)

clean_alike : (u u' : ℕ → ℕ) → Clean u → ((a : ℕ) → u' a ≡ u a) → Clean u'
clean_alike u u' clean same a b n e = clean a b (λ z. n (same a ∙ z)) (sym (same a) ∙ e ∙ same b)

-- the table after the run from row j at slots p and q, and after the cell of flow k is put at q
abbrev pub turned : ℕ → ℕ → ℕ → List ℕ → ℕ → ℕ → ℕ → List ℕ → List ℕ
turned w M N L p q j T = run (unseen N (none_seen w)) M N L p q j (none_seen w) T

abbrev pub put_cell : ℕ → ℕ → ℕ → List ℕ → ℕ → ℕ → ℕ → ℕ → List ℕ → List ℕ
put_cell w M N L k p q j T = set (turned w M N L p q j T) (j * M + q) k

module _ (w M N : ℕ) (L T : List ℕ) (k p q j : ℕ) (room : N ≤ w) (lp : p < M) (lq : q < M) (lj : j < N) (len : N * M ≤ length T) where
  pub turned_exchanged : Exchanged M N p q T (turned w M N L p q j T)
  turned_exchanged = run_exchanged M N L p q lp lq (unseen N (none_seen w)) j (none_seen w) T lj len

  pub turned_length : N * M ≤ length (turned w M N L p q j T)
  turned_length = omega (arith, turned_exchanged.same_length)

  module _ (ports : PortsInRange N L) (flow : IsFlow L k) (out : output_of L k ≡ suc j) (placed : Placed M N L T) (empty : entry M T j p ≡ 0)
      (free : (r : ℕ) → r < N → (entry M T r q ≡ 0 → ⊥) → input_of L (entry M T r q) ≡ input_of L k → ⊥) where
    some_input : input_of L k ≡ 0 → ⊥
    some_input z = omega (arith, (ports.inputs k flow).at_least)

    empty_row : who M N L T p j ≡ 0
    empty_row = who_in M N L T p j lj ∙ input_at_empty L (entry M T j p) empty

    free_at_q : Free (who M N L T q) (input_of L k)
    free_at_q a e = go (dec_lt a N) (ℕ_discrete (entry M T a q) 0)
      where
        go : Dec (a < N) → Dec (entry M T a q ≡ 0) → ⊥
        go (no d) z = some_input (sym e ∙ who_out M N L T q a (omega arith))
        go (yes l) (yes z) = some_input (sym e ∙ who_in M N L T q a l ∙ input_at_empty L (entry M T a q) z)
        go (yes l) (no d) = free a l d (sym (who_in M N L T q a l ∙ input_at_flow L (entry M T a q) d) ∙ e)

    start : Ready (who M N L T p) (who M N L T q) (mark_of (none_seen w)) j
    start =
        record {
          fresh = none_seen_at w j;
          p_clean = λ a b _ _. clean_of M N L T placed p lp a b;
          q_clean = clean_of M N L T placed q lq;
          free_at_q = λ n. absurd (n empty_row);
          paired = λ z m o g a s. absurd (s (none_seen_at w a));
        }

    done : RunDone M N L p q j (none_seen w) T (turned w M N L p q j T)
    done = run_done M N L p q lp lq (unseen N (none_seen w)) j (none_seen w) T lj (omega (arith, length-replicate {A = Bool} w false)) len refl start

    -- row j is empty at q now
    freed : entry M (turned w M N L p q j T) j q ≡ 0
    freed = done.own_row ∙ empty

    rows_turned : (r s : ℕ) → r < N → s < M → (entry M (turned w M N L p q j T) r s ≡ 0) ⊎ FlowOf L (suc r) (entry M (turned w M N L p q j T) r s)
    rows_turned r s lr ls =
        row_kept M N p q T (turned w M N L p q j T) lp lq turned_exchanged (λ e. (e ≡ 0) ⊎ FlowOf L (suc r) e) r lr (λ t lt. placed.of_its_row r t lr lt) s ls

    clean_turned : (s : ℕ) → s < M → Clean (who M N L (turned w M N L p q j T) s)
    clean_turned s ls = go (ℕ_discrete s p) (ℕ_discrete s q)
      where
        go : Dec (s ≡ p) → Dec (s ≡ q) → Clean (who M N L (turned w M N L p q j T) s)
        go (yes e) d = subst (λ (t : ℕ). Clean (who M N L (turned w M N L p q j T) t)) (sym e) done.p_clean
        go (no c) (yes e) = subst (λ (t : ℕ). Clean (who M N L (turned w M N L p q j T) t)) (sym e) done.q_clean
        go (no c) (no d) =
            clean_alike (who M N L T s) (who M N L (turned w M N L p q j T) s) (clean_of M N L T placed s ls)
            (λ a. ap (λ (e : ℕ). cond (ltb a N) (input_at L e) 0) (turned_exchanged.others a s ls c d))

    put_there : entry M (put_cell w M N L k p q j T) j q ≡ k
    put_there = get_or-set_same (turned w M N L p q j T) (j * M + q) k 0 (in_table (turned w M N L p q j T) turned_length lj lq)

    put_else : (a s : ℕ) → s < M → (a ≡ j → s ≡ q → ⊥) → entry M (put_cell w M N L k p q j T) a s ≡ entry M (turned w M N L p q j T) a s
    put_else a s ls d = stored_else M (turned w M N L p q j T) a s j q k ls lq d

    rows_put : (r s : ℕ) → r < N → s < M → (entry M (put_cell w M N L k p q j T) r s ≡ 0) ⊎ FlowOf L (suc r) (entry M (put_cell w M N L k p q j T) r s)
    rows_put r s lr ls = go (ℕ_discrete r j) (ℕ_discrete s q)
      where
        its_row : r ≡ j → FlowOf L (suc r) k
        its_row i = record { is_flow = flow; its_output = eq-eqb (output_of L k) (suc r) (out ∙ ap suc (sym i)) }

        go : Dec (r ≡ j) → Dec (s ≡ q) → (entry M (put_cell w M N L k p q j T) r s ≡ 0) ⊎ FlowOf L (suc r) (entry M (put_cell w M N L k p q j T) r s)
        go (yes i) (yes e) =
            inr (subst (λ (x : ℕ). FlowOf L (suc r) x)
            (sym (ap (λ (a : ℕ). entry M (put_cell w M N L k p q j T) a s) i ∙ ap (λ (t : ℕ). entry M (put_cell w M N L k p q j T) j t) e ∙ put_there)) (its_row i))
        go (yes i) (no d) =
            subst (λ (x : ℕ). (x ≡ 0) ⊎ FlowOf L (suc r) x) (sym (put_else r s ls (λ _ e. d e))) (rows_turned r s lr ls)
        go (no d) e = subst (λ (x : ℕ). (x ≡ 0) ⊎ FlowOf L (suc r) x) (sym (put_else r s ls (λ i _. d i))) (rows_turned r s lr ls)

    clean_put : (s : ℕ) → s < M → Clean (who M N L (put_cell w M N L k p q j T) s)
    clean_put s ls = go (ℕ_discrete s q)
      where
        own : who M N L (put_cell w M N L k p q j T) q j ≡ input_of L k
        own =
            who_in M N L (put_cell w M N L k p q j T) q j lj
            ∙ ap (λ (e : ℕ). input_at L e) put_there
            ∙ input_at_flow L k (λ z. omega (arith, flow.at_least))

        at_q : Clean (who M N L (put_cell w M N L k p q j T) q)
        at_q =
            clean_more (who M N L (turned w M N L p q j T) q) (who M N L (put_cell w M N L k p q j T) q) j done.q_clean
            (λ a e. done.still_free (input_of L k) free_at_q (λ x. some_input (sym x ∙ empty_row)) a (e ∙ own))
            (λ a d. ap (λ (e : ℕ). cond (ltb a N) (input_at L e) 0) (put_else a q lq (λ i _. d i)))

        go : Dec (s ≡ q) → Clean (who M N L (put_cell w M N L k p q j T) s)
        go (yes e) = subst (λ (t : ℕ). Clean (who M N L (put_cell w M N L k p q j T) t)) (sym e) at_q
        go (no d) =
            clean_alike (who M N L (turned w M N L p q j T) s) (who M N L (put_cell w M N L k p q j T) s) (clean_turned s ls)
            (λ a. ap (λ (e : ℕ). cond (ltb a N) (input_at L e) 0) (put_else a s ls (λ _ e. d e)))

    pub put_placed : Placed M N L (put_cell w M N L k p q j T)
    put_placed =
        record {
          of_its_row = rows_put;
          input_once = λ s a b ls la lb. once_of M N L (put_cell w M N L k p q j T) ports rows_put s a b ls (clean_put s ls) la lb;
        }

    pub put_times : (x : ℕ) → 1 ≤ x → times M N (put_cell w M N L k p q j T) x ≡ times M N T x + one (eqb k x)
    put_times x l =
        omega (
          arith,
          times_stored M N (turned w M N L p q j T) j q k x lj lq turned_length,
          times_kept M N p q T (turned w M N L p q j T) lp lq turned_exchanged x,
          ap (λ (e : ℕ). one (eqb e x)) freed,
          ap one (ne_eqb 0 x (λ z. omega arith)),
        )
