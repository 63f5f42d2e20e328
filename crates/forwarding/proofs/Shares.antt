-- Upper and lower share: the slots of a window meet the flow's entries, and each meeting sends exactly if a cell waits.
use Prim.Native.Nat.{ℕ, suc, ◌+◌, ◌≤◌, ◌<◌, min}
use mathlib.Core.Path.{◌≡◌, refl, sym, ◌∙◌, ap, subst}
use mathlib.Core.List.{List, [], ◌∷◌}
use native.Mathlib.Omega.{arith}
use native.Mathlib.Decide.{ℕ_discrete}
use borrow.Author.Tests.{eq-eqb}
use lib.ListN.{length}
use lib.Dec.{eqb}
use Rattle.answers.specs.Numbers.{DONE}
use Rattle.answers.specs.Limits.{Within}
use Rattle.answers.specs.Sums.{sum, one}
use Rattle.answers.proofs.Sums.{sum_none, sum_zero, sum_swap}
use Rattle.flows.specs.Flows.{IsFlow, cells_of}
use Rattle.tables.specs.Accepted.{entry, times}
use Rattle.forwarding.specs.declared.Running.{Running}
use Rattle.forwarding.specs.Forwarding.{waiting_of}
use Rattle.forwarding.specs.Histories.{State, Call, an_offer, a_slot, running_at, answer_of, carried_out, step, total, sent_by, slot_by, fresh_start_by}
use Rattle.forwarding.specs.Shares.{LentOnly, Window, UpperShare, LowerShare}
use Rattle.forwarding.proofs.Done.{Done, Refused, slot_done, step_done}
use Rattle.forwarding.proofs.Rotation.{met, rotation}
use Rattle.forwarding.proofs.Keeping.{named, slot_sends, step_known, kept}

-- the calls after the first are lent the table too
pub lent_after : (T : List ℕ) (c : Call) (h : List Call) → LentOnly T (c ∷ h) → LentOnly T h
lent_after T c h lent = grind arith

module _ (k : ℕ) (T : List ℕ) where
  -- how often flow k is named in a column, and over that many slots in a row
  abbrev column : Running → ℕ → ℕ
  column r p = named k (running_at r.frame r.ports p) T

  abbrev meetings : State → List Call → ℕ
  meetings st h = met (column st.running) st.running.frame st.running.position (total slot_by st h)

  record Share (st : State) (h : List Call) : Type 0 where
    at_most : total (sent_by k) st h ≤ meetings st h
    at_least : min (meetings st h) (waiting_of st.waiting k) ≤ total (sent_by k) st h
    placed : 0 < total slot_by st h → st.running.position < st.running.frame

  -- the slots met from st on, where they number n
  abbrev met_in : State → ℕ → ℕ
  met_in st n = met (column st.running) st.running.frame st.running.position n

  after_refused : (st : State) (c : Call) (h : List Call) → Refused st c → Share (step st c) h → Share st (c ∷ h)
  unfolding total step
  after_refused st c h d later = grind arith

  after_offer : (st : State) (j n : ℕ) (h : List Call) → Within 1 (length st.waiting) k → Done st (an_offer j n)
      → Share (step st (an_offer j n)) h → Share st (an_offer j n ∷ h)
  unfolding total step
  after_offer st j n h known e later = grind (arith, kept k st known (an_offer j n))

  after_slot : (st : State) (n : ℕ) (h : List Call) → Within 1 (length st.waiting) k → Done st (a_slot T n)
      → Share (step st (a_slot T n)) h → Share st (a_slot T n ∷ h)
  unfolding total met
  after_slot st n h known e later =
      let c = a_slot T n in
      let after = step_done st c e in
      let rest = subst (λ (s : State). Share s h) after later in
      let slots : slot_by st c + total slot_by (step st c) h ≡ suc (total slot_by (carried_out st c) h) =
      omega (arith, ap (λ (s : State). total slot_by s h) after, ap one (eq-eqb (answer_of st c).number DONE e)) in
      let cells = ap (λ (s : State). total (sent_by k) s h) after in
      let meets = ap (λ (m : ℕ). met_in st m) slots in
      let waits = ap (λ (s : State). waiting_of s.waiting k) after in
      record {
        at_most = omega (arith, rest.at_most, slot_sends k st T n known e);
        at_least = omega (arith, rest.at_least, slot_sends k st T n known e, kept k st known c refl);
        placed = λ l. (slot_done st.running T st.waiting n e).asked.placed;
      }

  -- one call more, whichever it is
  shared : (st : State) (c : Call) (h : List Call) → Within 1 (length st.waiting) k → LentOnly T (c ∷ h) → fresh_start_by st c ≡ 0 → Share (step st c) h → Share st (c ∷ h)
  shared st c h known lent none later = grind (arith, after_refused st c h, after_offer st, after_slot st)

  share : (st : State) (h : List Call) → Within 1 (length st.waiting) k → LentOnly T h → total fresh_start_by st h ≡ 0 → Share st h
  unfolding total met
  share st [] known lent none = record { at_most = omega arith; at_least = omega arith; placed = λ l. absurd (omega arith) }
  share st (c ∷ h) known lent none =
      shared st c h known lent (omega arith) (share (step st c) h (step_known k st c known) (lent_after T c h lent) (omega arith))

-- over a whole frame the columns name the flow as often as the table does
whole_frame : (k : ℕ) (T : List ℕ) (r : Running) → r.position < r.frame → met (column k T r) r.frame r.position r.frame ≡ times r.frame r.ports T k
unfolding times
whole_frame k T r l =
    rotation (column k T r) r.frame r.position l
    ∙ sym (sum_swap r.ports r.frame (λ j p. one (eqb (entry r.frame T j p) k)))

-- a record of no frame has no slots, and its table no entries
no_frame : (k N : ℕ) (T : List ℕ) → times 0 N T k ≡ 0
unfolding times
no_frame k N T = sum_zero N (λ j. sum 0 (λ p. one (eqb (entry 0 T j p) k))) (λ j l. sum_none (λ p. one (eqb (entry 0 T j p) k)))

module _ (L T : List ℕ) (st : State) (calls : List Call) (k : ℕ) (w : Window L T st calls st.running.frame) (flow : IsFlow L k) where
  known : Within 1 (length st.waiting) k
  known = record { at_least = flow.at_least; at_most = omega (arith, w.counts, flow.at_most) }

  shares : Share k T st calls
  shares = share k T st calls known w.one_table w.no_fresh_start

  -- a window of a frame's slots meets the flow exactly as many times as its cells
  met_cells : meetings k T st calls ≡ cells_of L k
  unfolding met
  met_cells = ap (λ (n : ℕ). met_in k T st n) w.slots_done ∙ go (ℕ_discrete st.running.frame 0) ∙ w.accepted.exact_counts k flow
    where
      go : Dec (st.running.frame ≡ 0) → met_in k T st st.running.frame ≡ times st.running.frame st.running.ports T k
      go (yes z) =
          ap (λ (n : ℕ). met_in k T st n) z ∙ sym (ap (λ (m : ℕ). times m st.running.ports T k) z ∙ no_frame k st.running.ports T)
      go (no d) = whole_frame k T st.running (shares.placed (omega (arith, w.slots_done)))

pub upper_share : UpperShare
upper_share L T st calls k w flow = omega (arith, (shares L T st calls k w flow).at_most, met_cells L T st calls k w flow)

pub lower_share : LowerShare
lower_share L T st calls k w flow = omega (arith, (shares L T st calls k w flow).at_least, met_cells L T st calls k w flow)
