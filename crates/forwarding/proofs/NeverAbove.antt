-- Refusal 28 in its own words, and that an accepted table with K counts never meets it: each of its entries is 0 or a flow, and flows have counts.
use Prim.Native.Nat.{ℕ}
use mathlib.Core.Path.{◌≡◌, refl, ◌∙◌}
use mathlib.Core.Logic.{◌↔◌}
use mathlib.Core.List.{List, [], ◌∷◌}
use native.Mathlib.Omega.{arith}
use borrow.Author.Tests.{ltb-true, lt-ltb}
use lib.ListN.{length}
use lib.IntN.{pos}
use Rattle.answers.specs.Numbers.{ENTRY_ABOVE_COUNTS}
use Rattle.answers.specs.Lowest.{IsLowest}
use Rattle.answers.specs.Answers.{answer, done_with}
use Rattle.answers.proofs.First.{NoneHolds, told_exactly}
use Rattle.answers.proofs.Lowest.{nowhere_test}
use Rattle.flows.specs.Flows.{flow_count}
use Rattle.tables.specs.Accepted.{Accepted}
use Rattle.tables.proofs.Counting.{entry_range}
use Rattle.forwarding.specs.declared.Running.{Running}
use Rattle.forwarding.specs.Forwarding.{entries_now, place_now, above_counts, slot_size_rules, fresh_start_answer, offer_answer, slot_size_answer, slot_answer}
use Rattle.forwarding.specs.Histories.{State, Call, step, total, fresh_start_by}
use Rattle.forwarding.specs.Shares.{LentOnly}
use Rattle.forwarding.specs.AboveCounts.{SlotAsked, WithoutCount, NamesEntry, SizesDecide, answered_with, NeverInWindow}
use Rattle.forwarding.proofs.Keeping.{step-length}
use Rattle.forwarding.proofs.Shares.{lent_after}

-- what a slot asks says that 1, 2, 7, 12 and 11 are not due, and the other way round
asked : (r : Running) (T W : List ℕ) (n : ℕ) → NoneHolds (slot_size_rules r T W n) → SlotAsked r T W n
asked r T W n none = grind arith

none_due : (r : Running) (T W : List ℕ) (n : ℕ) → SlotAsked r T W n → NoneHolds (slot_size_rules r T W n)
none_due r T W n a = grind arith

pub names_entry : NamesEntry
unfolding slot_answer
names_entry r T W n p = (λ e. let h = law.0 e in (asked r T W n h.0, h.1), λ h. law.1 (none_due r T W n h.0, h.1))
  where
    law : (slot_answer r T W n ≡ answer ENTRY_ABOVE_COUNTS (pos p)) ↔ (NoneHolds (slot_size_rules r T W n) × ((j : ℕ) × IsLowest 0 r.ports (WithoutCount r T W) j × (place_now r j ≡ p)))
    law =
        told_exactly ENTRY_ABOVE_COUNTS 0 r.ports (above_counts r T (length W)) (WithoutCount r T W) (λ j a u e. omega (arith, ltb-true (length W) (entries_now r T j) e))
        (λ j a u l. lt-ltb (length W) (entries_now r T j) (omega arith)) (place_now r) (slot_size_rules r T W n) [] (done_with (pos 0)) p tt tt tt

pub sizes_decide : SizesDecide
unfolding slot_answer slot_size_answer
sizes_decide L T W r n acc counts = grind (arith, nowhere_test, entry_range)

module _ (L T : List ℕ) where
  -- the table is accepted at the record's frame and ports, and there are K counts
  record InForce (st : State) : Type 0 where
    accepted : Accepted st.running.frame st.running.ports L T
    counts : length st.waiting ≡ flow_count L

  never : (st : State) (c : Call) (h : List Call) → InForce st → LentOnly T (c ∷ h) → answered_with ENTRY_ABOVE_COUNTS st c ≡ 0
  unfolding fresh_start_answer offer_answer slot_size_answer
  never st c h f lent = grind (arith, sizes_decide)

  -- but for a fresh start, no call changes frame or ports, and none the number of counts
  stays : (st : State) (c : Call) → InForce st → fresh_start_by st c ≡ 0 → InForce (step st c)
  unfolding step
  stays st c f none = record { accepted = grind arith; counts = step-length st c ∙ f.counts }

  none_of_all : (st : State) (h : List Call) → InForce st → LentOnly T h → total fresh_start_by st h ≡ 0 → total (answered_with ENTRY_ABOVE_COUNTS) st h ≡ 0
  unfolding total
  none_of_all st [] f lent none = refl
  none_of_all st (c ∷ h) f lent none =
      omega (arith, never st c h f lent, none_of_all (step st c) h (stays st c f (omega arith)) (lent_after T c h lent) (omega arith))

pub never_in_window : NeverInWindow
never_in_window L T st calls slots w =
    none_of_all L T st calls (record { accepted = w.accepted; counts = w.counts }) w.one_table w.no_fresh_start
