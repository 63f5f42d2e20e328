-- The marks of the inputs: how those of a slot are made anew, and that a table is marked again once the slots at which it changed are.
use Prim.Native.Nat.{ℕ, ◌+◌, ◌-◌, ◌*◌, ◌≤◌, ◌<◌}
use mathlib.Core.Path.{◌≡◌, sym, ◌∙◌, ap, subst}
use mathlib.Core.Bool.{Bool, false}
use mathlib.Core.List.{List}
use native.Mathlib.Omega.{arith}
use native.Mathlib.Decide.{ℕ_discrete}
use borrow.Author.Tests.{ne_eqb}
use lib.Arith.{digits_lt}
use lib.Dec.{eqb, ltb}
use lib.ListN.{length, set}
use lib.Seq.{get_or-set_same, get_or-set_other}
use Rattle.answers.specs.Limits.{Within}
use Rattle.answers.proofs.Lowest.{lowest_agree, nowhere_test}
use Rattle.flows.specs.declared.Plan.{Plan}
use Rattle.tables.specs.Accepted.{entry}
use Rattle.builder.specs.Exchange.{input_at}
use Rattle.builder.specs.FreeSlots.{input_used}
use Rattle.builder.specs.InputMarks.{mark_at, MarkedAt, Marked, Remarked}
use Rattle.builder.proofs.Placing.{input_at_empty}
use Rattle.builder.proofs.Places.{same_row, same_slot}

-- the marks of the first inputs at a slot are made
pub record MarkedTo (M N : ℕ) (L T : List ℕ) (slot row : ℕ) (before after : List Bool) : Type 0 where
  pub done : (r : ℕ) → r < row → mark_at M after r slot ≡ input_used M N L T (r + 1) slot
  pub elsewhere : (r s : ℕ) → s < M → (s ≡ slot → ⊥) → mark_at M after r s ≡ mark_at M before r s

-- a mark set at row b, slot t leaves every other mark
mark_else : (M : ℕ) (U : List Bool) (a s b t : ℕ) (v : Bool) → s < M → t < M → (a ≡ b → s ≡ t → ⊥) → mark_at M (set U (b * M + t) v) a s ≡ mark_at M U a s
mark_else M U a s b t v ls lt d =
    get_or-set_other U (b * M + t) (a * M + s) v false (λ e. d (same_row a b ls lt e) (same_slot a b ls lt e))

module _ (M N : ℕ) (L T : List ℕ) (slot : ℕ) (ls : slot < M) (U : List Bool) where
  pub marked_more : (row : ℕ) (U' : List Bool) (b : Bool) → N * M ≤ length U' → row < N → b ≡ input_used M N L T (row + 1) slot → MarkedTo M N L T slot row U U'
      → MarkedTo M N L T slot (row + 1) U (set U' (row * M + slot) b)
  marked_more row U' b room lr e m =
      record {
        done = λ r u. go r u (ℕ_discrete r row);
        elsewhere = λ r s l d. mark_else M U' r s row slot b l ls (λ _ x. d x) ∙ m.elsewhere r s l d;
      }
    where
      go : (r : ℕ) → r < row + 1 → Dec (r ≡ row) → mark_at M (set U' (row * M + slot) b) r slot ≡ input_used M N L T (r + 1) slot
      go r u (yes x) =
          ap (λ (y : ℕ). mark_at M (set U' (row * M + slot) b) y slot) x
          ∙ get_or-set_same U' (row * M + slot) b false (omega (arith, digits_lt lr ls))
          ∙ e
          ∙ ap (λ (y : ℕ). input_used M N L T (y + 1) slot) (sym x)
      go r u (no d) = mark_else M U' r slot row slot b ls ls (λ x _. d x) ∙ m.done r (omega arith)

-- marks made anew for one plan and table are made anew for equal ones
pub remarked_for : {p p' : Plan} {T T' : List ℕ} {slot : ℕ} {U U' : List Bool} → p' ≡ p → T' ≡ T
    → Remarked p.frame p.ports p.list.now T slot U U' → Remarked p'.frame p'.ports p'.list.now T' slot U U'
remarked_for {p} {p'} {T} {T'} {slot} {U} {U'} e f m =
    subst (λ (x : Plan). Remarked x.frame x.ports x.list.now T' slot U U') (sym e)
    (subst (λ (t : List ℕ). Remarked p.frame p.ports p.list.now t slot U U') (sym f) m)

-- a table that changed at two slots only is marked again once those two are
module _ (M N : ℕ) (L T T' : List ℕ) (U U' U'' : List Bool) (p q : ℕ)
    (marked : Marked M N L T U) (same : (r s : ℕ) → s < M → (s ≡ p → ⊥) → (s ≡ q → ⊥) → entry M T' r s ≡ entry M T r s)
    (first : Remarked M N L T' p U U') (second : Remarked M N L T' q U' U'') where
  used_same : (i s : ℕ) → s < M → (s ≡ p → ⊥) → (s ≡ q → ⊥) → input_used M N L T i s ≡ input_used M N L T' i s
  used_same i s l d d' =
      ap (λ (n : ℕ). ltb n (0 + N))
      (lowest_agree 0 N (λ r. eqb (input_at L (entry M T r s)) i) (λ r. eqb (input_at L (entry M T' r s)) i)
      (λ r _ u. ap (λ (e : ℕ). eqb (input_at L e) i) (sym (same r s l d d'))))

  kept : (s : ℕ) → s < M → (s ≡ q → ⊥) → MarkedAt M N L T' U' s → MarkedAt M N L T' U'' s
  kept s l d m i w = second.elsewhere (i - 1) s l d ∙ m i w

  pub marked_again : Marked M N L T' U''
  marked_again = record { at_slots = λ s l. at s l (ℕ_discrete s p) (ℕ_discrete s q) }
    where
      at : (s : ℕ) → s < M → Dec (s ≡ p) → Dec (s ≡ q) → MarkedAt M N L T' U'' s
      at s l d (yes e) = subst (λ (t : ℕ). MarkedAt M N L T' U'' t) (sym e) second.there
      at s l (yes e) (no d) = kept s l d (subst (λ (t : ℕ). MarkedAt M N L T' U' t) (sym e) first.there)
      at s l (no c) (no d) =
          kept s l d
          (λ i w. first.elsewhere (i - 1) s l c ∙ marked.at_slots s l i w ∙ used_same i s l c d)

-- an empty table has empty marks
pub marked_empty : (M N : ℕ) (L T : List ℕ) (U : List Bool) → ((r s : ℕ) → r < N → s < M → entry M T r s ≡ 0) → ((r s : ℕ) → mark_at M U r s ≡ false) → Marked M N L T U
marked_empty M N L T U empty none = record { at_slots = λ s l i w. none (i - 1) s ∙ sym (unused s l i w) }
  where
    unused : (s : ℕ) → s < M → (i : ℕ) → Within 1 N i → input_used M N L T i s ≡ false
    unused s l i w =
        nowhere_test 0 N (λ r. eqb (input_at L (entry M T r s)) i)
        (λ r _ u. ne_eqb (input_at L (entry M T r s)) i (λ e. omega (arith, w.at_least, input_at_empty L (entry M T r s) (empty r s (omega arith) l))))
