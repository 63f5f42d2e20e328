-- A window that opens in the middle of a frame and meets every premise of the shares, with offers and refused calls among its slots:
-- document 01's plan A, whose frame is 5 and which has 4 ports, from position 3 on.
use Prim.Native.Nat.{ℕ, ◌≤◌}
use mathlib.Core.Path.{◌≡◌, refl}
use mathlib.Core.List.{List, [], ◌∷◌}
use native.Mathlib.Omega.{arith}
use Rattle.answers.specs.Lowest.{lowest}
use Rattle.answers.specs.Sums.{sum}
use Rattle.tables.specs.Accepted.{Accepted, times}
use Rattle.tables.proofs.Judgement.{accepted_then}
use Rattle.forwarding.specs.Forwarding.{offer_answer, slot_answer, served}
use Rattle.forwarding.specs.Histories.{State, Call, an_offer, a_slot, running_at, state_of, step, run, total, sent_by}
use Rattle.forwarding.specs.Shares.{Window}
use Rattle.forwarding.proofs.Shares.{upper_share, lower_share}

abbrev L : List ℕ
L = 1 ∷ 1 ∷ 3 ∷ 1 ∷ 2 ∷ 2 ∷ 2 ∷ 1 ∷ 2 ∷ []

abbrev T : List ℕ
T = 1 ∷ 1 ∷ 1 ∷ 3 ∷ 3 ∷ 0 ∷ 0 ∷ 0 ∷ 2 ∷ 2 ∷ 0 ∷ 0 ∷ 0 ∷ 0 ∷ 0 ∷ 0 ∷ 0 ∷ 0 ∷ 0 ∷ 0 ∷ []

-- one cell of flow 1 waits, five of flow 2, none of flow 3
abbrev opened : State
opened = state_of (running_at 5 4 3) (1 ∷ 5 ∷ 0 ∷ [])

-- the third slot call's sent buffer is too short, and the last offer is of one cell too many
abbrev calls : List Call
calls = a_slot T 4 ∷ an_offer 3 1 ∷ a_slot T 4 ∷ a_slot T 3 ∷ a_slot T 9 ∷ an_offer 1 4000 ∷ an_offer 1 1 ∷ a_slot T 4 ∷ a_slot T 4 ∷ []

-- flow 1 sends the cell that waited and two that were offered meanwhile, its whole reservation
flow_1 : total (sent_by 1) opened calls ≡ 3
unfolding total step sum served offer_answer slot_answer lowest
flow_1 = refl

-- flow 2 sends its reservation, which waited
flow_2 : total (sent_by 2) opened calls ≡ 2
unfolding total step sum served offer_answer slot_answer lowest
flow_2 = refl

-- flow 3's entry comes up once before a cell is offered and once after
flow_3 : total (sent_by 3) opened calls ≡ 1
unfolding total step sum served offer_answer slot_answer lowest
flow_3 = refl

-- the window ends at the position at which it opened
closed : run opened calls ≡ state_of (running_at 5 4 3) (3998 ∷ 3 ∷ 0 ∷ [])
unfolding run step served offer_answer slot_answer lowest
closed = refl

accepted : Accepted 5 4 L T
unfolding lowest times sum
accepted = accepted_then 5 4 L T (refl, (refl, (refl, tt)))

window : Window L T opened calls 5
unfolding total step served offer_answer slot_answer lowest
window = record { accepted = accepted; counts = refl; one_table = (refl, (refl, (refl, (refl, (refl, (refl, tt)))))); no_fresh_start = refl; slots_done = refl }

-- so the theorems speak of this run: of flow 1 they say 1 to 3 cells, of flow 2 exactly 2
flow_1_at_most : total (sent_by 1) opened calls ≤ 3
flow_1_at_most = upper_share L T opened calls 1 window (record { at_least = omega arith; at_most = omega arith })

flow_1_at_least : 1 ≤ total (sent_by 1) opened calls
flow_1_at_least = lower_share L T opened calls 1 window (record { at_least = omega arith; at_most = omega arith })

flow_2_at_most : total (sent_by 2) opened calls ≤ 2
flow_2_at_most = upper_share L T opened calls 2 window (record { at_least = omega arith; at_most = omega arith })

flow_2_at_least : 2 ≤ total (sent_by 2) opened calls
flow_2_at_least = lower_share L T opened calls 2 window (record { at_least = omega arith; at_most = omega arith })
