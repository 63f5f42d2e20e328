-- Calls, what each does to the state, and what is counted over a history of them. A refused call changes nothing.
use Rattle.std.specs.Prelude.{ℕ, ◌+◌, Bool, cond, List, [], ◌∷◌, length, replicate, eqb}
use Rattle.answers.specs.declared.Answer.{Answer}
use Rattle.answers.specs.Answers.{is_done}
use Rattle.answers.specs.Sums.{sum, one}
use Rattle.answers.specs.Buffers.{written}
use Rattle.forwarding.specs.declared.Running.{Running}
use Rattle.forwarding.specs.Outcome.{Outcome}
use Rattle.forwarding.specs.Forwarding.{fresh_start_answer, offer_answer, slot_answer, entries_now, added, served, output_byte, next_position}

-- what the calls are about: the running record and the waiting counts
pub record State : Type 0 where
  pub running : Running
  pub waiting : List ℕ

abbrev pub state_of : Running → List ℕ → State
state_of r W = record { running = r; waiting = W }

-- a record at that frame, those ports and that position
abbrev pub running_at : ℕ → ℕ → ℕ → Running
running_at M N p = record { frame = M; ports = N; position = p }

-- a call with its arguments; a slot call carries the table that it was lent and the length of its sent buffer
pub data Call : Type 0 where
  a_fresh_start : ℕ → ℕ → Call
  an_offer : ℕ → ℕ → Call
  a_slot : List ℕ → ℕ → Call

-- what the call answers
abbrev pub answer_of : State → Call → Answer
answer_of st (a_fresh_start M N) = fresh_start_answer M N st.waiting
answer_of st (an_offer k n) = offer_answer st.waiting k n
answer_of st (a_slot T sentLength) = slot_answer st.running T st.waiting sentLength

-- the call is done
abbrev pub done : State → Call → Bool
done st c = is_done (answer_of st c)

-- the record after a slot
abbrev pub advanced : Running → Running
advanced r = running_at r.frame r.ports (next_position r.frame r.position)

-- the state after a call that is done
abbrev pub carried_out : State → Call → State
carried_out st (a_fresh_start M N) = state_of (running_at M N 0) (replicate (length st.waiting) 0)
carried_out st (an_offer k n) = state_of st.running (added st.waiting k n)
carried_out st (a_slot T sentLength) =
    state_of (advanced st.running) (served st.running.ports (entries_now st.running T) st.waiting)

-- the state after a call
unfoldable pub step : State → Call → State
step st c = cond (done st c) (carried_out st c) st

-- what a fresh start or a slot hands back: its answer, and the record after it
unfoldable pub outcome_of : State → Call → Outcome
outcome_of st c = record { answer = answer_of st c; running = (step st c).running }

-- the sent buffer S after a slot that was lent the table T: each output's byte, the other bytes stay
unfoldable pub sent_after : State → List ℕ → List ℕ → List ℕ
sent_after st T S =
    cond (done st (a_slot T (length S))) (written st.running.ports (output_byte (entries_now st.running T) st.waiting) S) S

-- the state after all the calls
unfoldable pub run : State → List Call → State
run st [] = st
run st (c ∷ h) = run (step st c) h

-- what f counts at each call, summed over the calls
unfoldable pub total : (State → Call → ℕ) → State → List Call → ℕ
total f st [] = 0
total f st (c ∷ h) = f st c + total f (step st c) h

-- the cells of flow k that a slot sends: the bytes k that it writes
abbrev pub cells_in_slot : ℕ → State → List ℕ → ℕ
cells_in_slot k st T = sum st.running.ports (λ r. one (eqb (output_byte (entries_now st.running T) st.waiting r) k))

-- the cells of flow k that a call sends
abbrev pub sent_by : ℕ → State → Call → ℕ
sent_by k st (a_fresh_start M N) = 0
sent_by k st (an_offer j n) = 0
sent_by k st (a_slot T sentLength) = cond (done st (a_slot T sentLength)) (cells_in_slot k st T) 0

-- the cells of flow k that a call brings: those of an accepted offer to it
abbrev pub accepted_by : ℕ → State → Call → ℕ
accepted_by k st (a_fresh_start M N) = 0
accepted_by k st (an_offer j n) = cond (done st (an_offer j n)) (cond (eqb j k) n 0) 0
accepted_by k st (a_slot T sentLength) = 0

-- a call that is a slot; a refused slot is no slot
abbrev pub slot_by : State → Call → ℕ
slot_by st (a_fresh_start M N) = 0
slot_by st (an_offer j n) = 0
slot_by st (a_slot T sentLength) = one (done st (a_slot T sentLength))

-- a call that starts afresh; a refused fresh start is none
abbrev pub fresh_start_by : State → Call → ℕ
fresh_start_by st (a_fresh_start M N) = one (done st (a_fresh_start M N))
fresh_start_by st (an_offer j n) = 0
fresh_start_by st (a_slot T sentLength) = 0
