-- What a whole run does to a table: rows exchange their entries at two slots, and both slots are clean after.
use Prim.Native.Nat.{ℕ, zero, suc, ◌+◌, ◌*◌, ◌≤◌, ◌<◌}
use mathlib.Core.Path.{◌≡◌, refl, sym, ◌∙◌, ap}
use mathlib.Core.Logic.{◌⊎◌, inl, inr}
use mathlib.Core.Bool.{Bool, true, false, cond, not, true≢false}
use mathlib.Core.List.{List}
use native.Mathlib.Omega.{arith}
use native.Mathlib.Decide.{ℕ_discrete, dec_lt}
use lib.Arith.{digits_lt}
use borrow.Author.Tests.{eq-eqb, eqb-true, eqb-false, lt-ltb, le-ltb, ltb-true, ltb-false, not-true}
use lib.Dec.{eqb, ltb}
use lib.ListN.{length, get_or, set, drop, length-set}
use lib.Seq.{get_or-set_same, get_or-set_other, drop-set-lt}
use Rattle.answers.proofs.Lowest.{lowest_found}
use Rattle.answers.proofs.Ranges.{both_true}
use Rattle.answers.specs.Sums.{one}
use Rattle.answers.proofs.Sums.{sum_change, term_le}
use Rattle.tables.specs.Accepted.{entry}
use Rattle.builder.specs.Exchange.{input_at, swapped, unseen, holds_next, next_row, from_input, run}
use Rattle.builder.proofs.Exchange.{Clean, Free, Ready, RowSwapped, RowMarked, q_clean_after, p_clean_after, ready_next, free_after}
use Rattle.builder.proofs.Places.{same_row, same_slot, in_table, length-swapped, swapped_first, swapped_second, swapped_else}

-- the input that row r holds at slot s; past the last row there is none
abbrev pub who : ℕ → ℕ → List ℕ → List ℕ → ℕ → ℕ → ℕ
who M N L T s r = cond (ltb r N) (input_at L (entry M T r s)) 0

pub who_in : (M N : ℕ) (L T : List ℕ) (s r : ℕ) → r < N → who M N L T s r ≡ input_at L (entry M T r s)
who_in M N L T s r l = rw (lt-ltb r N l)

pub who_out : (M N : ℕ) (L T : List ℕ) (s r : ℕ) → N ≤ r → who M N L T s r ≡ 0
who_out M N L T s r l = rw (le-ltb r N l)

abbrev pub mark_of : List Bool → ℕ → Bool
mark_of marks r = get_or marks r false

-- a row as it was, or with its entries at the two slots exchanged
abbrev pub RowExchanged : ℕ → ℕ → ℕ → List ℕ → List ℕ → ℕ → Type 0
RowExchanged M p q T T' r =
    ((entry M T' r p ≡ entry M T r p) × (entry M T' r q ≡ entry M T r q)) ⊎ ((entry M T' r p ≡ entry M T r q) × (entry M T' r q ≡ entry M T r p))

-- every row so, and every other entry and byte as it was
pub record Exchanged (M N p q : ℕ) (T T' : List ℕ) : Type 0 where
  pub same_length : length T' ≡ length T
  pub rows : (r : ℕ) → r < N → RowExchanged M p q T T' r
  pub others : (r s : ℕ) → s < M → (s ≡ p → ⊥) → (s ≡ q → ⊥) → entry M T' r s ≡ entry M T r s
  pub beyond : drop (N * M) T' ≡ drop (N * M) T

exchanged_not : {M N p q : ℕ} (T : List ℕ) → Exchanged M N p q T T
exchanged_not T = record { same_length = refl; rows = λ r l. inl (refl, refl); others = λ r s l d d'. refl; beyond = refl }

exchanged_twice : {M N p q : ℕ} (T T' T'' : List ℕ) → Exchanged M N p q T T' → Exchanged M N p q T' T'' → Exchanged M N p q T T''
exchanged_twice {M} {N} {p} {q} T T' T'' e f =
    record {
      same_length = f.same_length ∙ e.same_length;
      rows = λ r l. both r (e.rows r l) (f.rows r l);
      others = λ r s l d d'. f.others r s l d d' ∙ e.others r s l d d';
      beyond = f.beyond ∙ e.beyond;
    }
  where
    both : (r : ℕ) → RowExchanged M p q T T' r
        → RowExchanged M p q T' T'' r
        → RowExchanged M p q T T'' r
    both r (inl a) (inl b) = inl (b.0 ∙ a.0, b.1 ∙ a.1)
    both r (inl a) (inr b) = inr (b.0 ∙ a.1, b.1 ∙ a.0)
    both r (inr a) (inl b) = inr (b.0 ∙ a.0, b.1 ∙ a.1)
    both r (inr a) (inr b) = inl (b.0 ∙ a.1, b.1 ∙ a.0)

-- a fresh mark lowers the number of unseen rows by one
pub unseen_mark : (N : ℕ) (marks : List Bool) (r : ℕ) → r < N → r < length marks → get_or marks r false ≡ false → suc (unseen N (set marks r true)) ≡ unseen N marks
unfolding unseen
unseen_mark N marks r l k e =
    omega (
      arith,
      sum_change N (λ a. one (not (get_or marks a false))) (λ a. one (not (get_or (set marks r true) a false))) r l
          (λ a u d. ap (λ (x : Bool). one (not x)) (sym (get_or-set_other marks r a true false d))),
      ap (λ (x : Bool). one (not x)) e,
      ap (λ (x : Bool). one (not x)) (get_or-set_same marks r true false k),
    )

pub unseen_some : (N : ℕ) (marks : List Bool) (r : ℕ) → r < N → get_or marks r false ≡ false → 0 < unseen N marks
unfolding unseen
unseen_some N marks r l e =
    omega (arith, term_le N (λ a. one (not (get_or marks a false))) r l, ap (λ (x : Bool). one (not x)) e)

-- what the tests of a row tell of the search
pub next_here : (M : ℕ) (L : List ℕ) (marks : List Bool) (s y : ℕ) (T : List ℕ) (r : ℕ) → get_or marks r false ≡ false → input_at L (entry M T r s) ≡ y → holds_next M L marks s y T r ≡ true
next_here M L marks s y T r m e = rw (m, eq-eqb _ _ e)

-- the row that is found is unseen and holds the input; where none is found, no unseen row holds it
pub next_found : (M N : ℕ) (L : List ℕ) (marks : List Bool) (s y : ℕ) (T : List ℕ) → next_row M N L marks s y T < N
    → (get_or marks (next_row M N L marks s y T) false ≡ false) × (input_at L (entry M T (next_row M N L marks s y T) s) ≡ y)
unfolding next_row
next_found M N L marks s y T l =
    let found = (lowest_found 0 N (holds_next M L marks s y T)).there (omega arith) in
    let both = both_true _ _ found in
    (not-true _ both.0, eqb-true _ _ both.1)

pub next_none : (M N : ℕ) (L : List ℕ) (marks : List Bool) (s y : ℕ) (T : List ℕ) → N ≤ next_row M N L marks s y T
    → (a : ℕ) → a < N → get_or marks a false ≡ false → input_at L (entry M T a s) ≡ y → ⊥
unfolding next_row
next_none M N L marks s y T l a la m e =
    true≢false (sym (next_here M L marks s y T a m e) ∙ (lowest_found 0 N (holds_next M L marks s y T)).none_lower a (omega arith) (omega arith))

-- what a run leaves, begun at row r
pub record RunDone (M N : ℕ) (L : List ℕ) (p q r : ℕ) (marks : List Bool) (T T' : List ℕ) : Type 0 where
  pub p_clean : Clean (who M N L T' p)
  pub q_clean : Clean (who M N L T' q)
  -- an input that was free at q, and is not the one in the way, is free at q still
  pub still_free : (z : ℕ) → Free (who M N L T q) z → (who M N L T p r ≡ z → ⊥) → Free (who M N L T' q) z
  -- rows seen before stay as they were
  pub seen_stay : (a s : ℕ) → s < M → (get_or marks a false ≡ false → ⊥) → entry M T' a s ≡ entry M T a s
  -- row r has at q what it had at p
  pub own_row : entry M T' r q ≡ entry M T r p

module _ (M N : ℕ) (L : List ℕ) (p q : ℕ) (lp : p < M) (lq : q < M) where
  -- one row's swap, as lists
  module _ (r : ℕ) (T : List ℕ) (lr : r < N) (len : N * M ≤ length T) where
    there_p : entry M (swapped T (r * M + p) (r * M + q)) r p ≡ entry M T r q
    there_p = swapped_first T (r * M + p) (r * M + q) (in_table T len lr lp) (in_table T len lr lq)

    there_q : entry M (swapped T (r * M + p) (r * M + q)) r q ≡ entry M T r p
    there_q = swapped_second T (r * M + p) (r * M + q) (in_table T len lr lq)

    other_row : (a s : ℕ) → s < M → (a ≡ r → ⊥) → entry M (swapped T (r * M + p) (r * M + q)) a s ≡ entry M T a s
    other_row a s ls d =
        swapped_else T (r * M + p) (r * M + q) (a * M + s) (λ e. d (same_row a r ls lp e)) (λ e. d (same_row a r ls lq e))

    other_slot : (a s : ℕ) → s < M → (s ≡ p → ⊥) → (s ≡ q → ⊥) → entry M (swapped T (r * M + p) (r * M + q)) a s ≡ entry M T a s
    other_slot a s ls d d' =
        swapped_else T (r * M + p) (r * M + q) (a * M + s) (λ e. d (same_slot a r ls lp e)) (λ e. d' (same_slot a r ls lq e))

    swap_exchanged : Exchanged M N p q T (swapped T (r * M + p) (r * M + q))
    swap_exchanged =
        record {
          same_length = length-swapped T (r * M + p) (r * M + q);
          rows = λ a l. at a (ℕ_discrete a r);
          others = other_slot;
          beyond =
              drop-set-lt (N * M) (set T (r * M + p) (entry M T r q)) (r * M + q) (entry M T r p) (digits_lt lr lq)
              ∙ drop-set-lt (N * M) T (r * M + p) (entry M T r q) (digits_lt lr lp);
        }
      where
        at : (a : ℕ) → Dec (a ≡ r) → RowExchanged M p q T (swapped T (r * M + p) (r * M + q)) a
        at a (yes e) =
            inr (
              ap (λ (x : ℕ). entry M (swapped T (r * M + p) (r * M + q)) x p) e ∙ there_p ∙ sym (ap (λ (x : ℕ). entry M T x q) e),
              ap (λ (x : ℕ). entry M (swapped T (r * M + p) (r * M + q)) x q) e ∙ there_q ∙ sym (ap (λ (x : ℕ). entry M T x p) e),
            )
        at a (no d) = inl (other_row a p lp d, other_row a q lq d)

    row_swapped : RowSwapped (who M N L T p) (who M N L T q) (who M N L (swapped T (r * M + p) (r * M + q)) p) (who M N L (swapped T (r * M + p) (r * M + q)) q) r
    row_swapped =
        record {
          at_p = ap (λ (e : ℕ). cond (ltb r N) (input_at L e) 0) there_p;
          at_q = ap (λ (e : ℕ). cond (ltb r N) (input_at L e) 0) there_q;
          else_p = λ a d. ap (λ (e : ℕ). cond (ltb a N) (input_at L e) 0) (other_row a p lp d);
          else_q = λ a d. ap (λ (e : ℕ). cond (ltb a N) (input_at L e) 0) (other_row a q lq d);
        }

  pub row_marked : (marks : List Bool) (r : ℕ) → r < length marks → RowMarked (mark_of marks) (mark_of (set marks r true)) r
  row_marked marks r l =
      record { here = λ e. true≢false (sym (get_or-set_same marks r true false l) ∙ e); elsewhere = λ a d. get_or-set_other marks r a true false d }

  -- whatever the table holds, a run exchanges entries of the two slots, each within its row
  pub run_exchanged : (n r : ℕ) (marks : List Bool) (T : List ℕ) → r < N → N * M ≤ length T → Exchanged M N p q T (run n M N L p q r marks T)
  unfolding run
  run_exchanged zero r marks T lr len = exchanged_not T
  run_exchanged (suc n) r marks T lr len =
      followed (eqb came 0)
      (λ t lt. run_exchanged n t (set marks r true) (swapped T (r * M + p) (r * M + q)) lt (omega (arith, length-swapped T (r * M + p) (r * M + q))))
    where
      T' : List ℕ
      T' = swapped T (r * M + p) (r * M + q)

      came : ℕ
      came = input_at L (entry M T' r p)

      next : ℕ
      next = next_row M N L (set marks r true) p came T'

      Later : Type 0
      Later = (t : ℕ) → t < N → Exchanged M N p q T' (run n M N L p q t (set marks r true) T')

      led : (b : Bool) → ltb next N ≡ b → Later → Exchanged M N p q T (cond b (run n M N L p q next (set marks r true) T') T')
      led true x later =
          exchanged_twice T T' (run n M N L p q next (set marks r true) T') (swap_exchanged r T lr len) (later next (ltb-true next N x))
      led false x later = swap_exchanged r T lr len

      followed : (b : Bool) → Later → Exchanged M N p q T (cond b T' (from_input (λ t. run n M N L p q t (set marks r true) T') N next T'))
      followed true later = swap_exchanged r T lr len
      followed false later = led (ltb next N) refl later

  -- a run that ends after its first row
  ended : (r : ℕ) (marks : List Bool) (T : List ℕ) (lr : r < N) (len : N * M ≤ length T) → r < length marks
      → Ready (who M N L T p) (who M N L T q) (mark_of marks) r
      → ((who M N L (swapped T (r * M + p) (r * M + q)) p r ≡ 0 → ⊥) → (a : ℕ) → mark_of (set marks r true) a ≡ false
      → who M N L (swapped T (r * M + p) (r * M + q)) p a ≡ who M N L (swapped T (r * M + p) (r * M + q)) p r → ⊥)
      → RunDone M N L p q r marks T (swapped T (r * M + p) (r * M + q))
  ended r marks T lr len lm ready stop =
      record {
        p_clean = p_clean_after _ _ _ _ _ _ r ready (row_swapped r T lr len) (row_marked marks r lm) stop;
        q_clean = q_clean_after _ _ _ _ _ _ r ready (row_swapped r T lr len) (row_marked marks r lm);
        still_free = free_after _ _ _ _ _ _ r ready (row_swapped r T lr len) (row_marked marks r lm);
        seen_stay = λ a s ls m. other_row r T lr len a s ls (λ e. m (ap (λ (x : ℕ). get_or marks x false) e ∙ ready.fresh));
        own_row = there_q r T lr len;
      }

  -- a run that goes on at row t
  went_on : (r t : ℕ) (marks : List Bool) (T T'' : List ℕ) (lr : r < N) (len : N * M ≤ length T) → r < length marks
      → Ready (who M N L T p) (who M N L T q) (mark_of marks) r
      → who M N L (swapped T (r * M + p) (r * M + q)) p t ≡ who M N L (swapped T (r * M + p) (r * M + q)) p r
      → RunDone M N L p q t (set marks r true) (swapped T (r * M + p) (r * M + q)) T''
      → RunDone M N L p q r marks T T''
  went_on r t marks T T'' lr len lm ready e later =
      record {
        p_clean = later.p_clean;
        q_clean = later.q_clean;
        still_free = λ z f d.
            later.still_free z (free_after _ _ _ _ _ _ r ready (row_swapped r T lr len) (row_marked marks r lm) z f d)
            (λ x. f r (sym (row_swapped r T lr len).at_p ∙ sym e ∙ x));
        seen_stay = λ a s ls m.
            let d : (a ≡ r → ⊥) = λ i. m (ap (λ (x : ℕ). get_or marks x false) i ∙ ready.fresh) in
            later.seen_stay a s ls (λ z. m (sym ((row_marked marks r lm).elsewhere a d) ∙ z)) ∙ other_row r T lr len a s ls d;
        own_row = later.seen_stay r q lq (row_marked marks r lm).here ∙ there_q r T lr len;
      }

  pub run_done : (n r : ℕ) (marks : List Bool) (T : List ℕ) → r < N → N ≤ length marks → N * M ≤ length T → unseen N marks ≡ n
      → Ready (who M N L T p) (who M N L T q) (mark_of marks) r → RunDone M N L p q r marks T (run n M N L p q r marks T)
  unfolding run
  run_done zero r marks T lr lm len e ready = absurd (omega (arith, unseen_some N marks r lr ready.fresh))
  run_done (suc n) r marks T lr lm len e ready =
      followed (eqb (came) 0) refl
      (λ t lt rd. run_done n t (set marks r true) (swapped T (r * M + p) (r * M + q)) lt (omega (arith, length-set marks r true))
      (omega (arith, length-swapped T (r * M + p) (r * M + q))) (omega (arith, unseen_mark N marks r lr (omega arith) ready.fresh)) rd)
    where
      lm' : r < length marks
      lm' = omega arith

      T' : List ℕ
      T' = swapped T (r * M + p) (r * M + q)

      marks' : List Bool
      marks' = set marks r true

      came : ℕ
      came = input_at L (entry M T' r p)

      next : ℕ
      next = next_row M N L marks' p came T'

      Later : Type 0
      Later = (t : ℕ) → t < N → Ready (who M N L T' p) (who M N L T' q) (mark_of marks') t → RunDone M N L p q t marks' T' (run n M N L p q t marks' T')

      nowhere : (came ≡ 0 → ⊥) → N ≤ next → (a : ℕ) → mark_of marks' a ≡ false → who M N L T' p a ≡ who M N L T' p r → ⊥
      nowhere d l a m x = at (dec_lt a N)
        where
          at : Dec (a < N) → ⊥
          at (yes i) = next_none M N L marks' p came T' l a i m (sym (who_in M N L T' p a i) ∙ x ∙ who_in M N L T' p r lr)
          at (no i) = d (sym (who_in M N L T' p r lr) ∙ sym x ∙ who_out M N L T' p a (omega arith))

      led : (b : Bool) → ltb next N ≡ b → (came ≡ 0 → ⊥) → Later
          → RunDone M N L p q r marks T (cond b (run n M N L p q next marks' T') T')
      led true x d later =
          let l = ltb-true next N x in
          let found = next_found M N L marks' p came T' l in
          let to = who_in M N L T' p next l ∙ found.1 ∙ sym (who_in M N L T' p r lr) in
          went_on r next marks T (run n M N L p q next marks' T') lr len lm' ready to
          (later next l (ready_next _ _ _ _ _ _ r ready (row_swapped r T lr len) (row_marked marks r lm') next found.0 (λ z. d (sym (who_in M N L T' p r lr) ∙ z)) to))
      led false x d later = ended r marks T lr len lm' ready (λ _ a m y. nowhere d (ltb-false next N x) a m y)

      followed : (b : Bool) → eqb came 0 ≡ b → Later
          → RunDone M N L p q r marks T (cond b T' (from_input (λ t. run n M N L p q t marks' T') N next T'))
      followed true x later = ended r marks T lr len lm' ready (λ d. absurd (d (who_in M N L T' p r lr ∙ eqb-true came 0 x)))
      followed false x later = led (ltb next N) refl (eqb-false came 0 x) later
