-- The sent buffer shows the cells that a slot sends: counting them in the history is counting them there.
use Rattle.std.specs.Prelude.{ℕ, ◌≤◌, ◌≡◌, true, List, length, get_or, eqb}
use Rattle.answers.specs.Sums.{sum, one}
use Rattle.forwarding.specs.Histories.{State, a_slot, done, sent_after, sent_by}

-- after a slot flow k's number stands in the first N bytes as many times as the slot sends cells of it
abbrev pub CellsShown : Type 0
CellsShown =
    (k : ℕ) (st : State) (T S : List ℕ) → done st (a_slot T (length S)) ≡ true
    → sum st.running.ports (λ r. one (eqb (get_or (sent_after st T S) r 0) k)) ≡ sent_by k st (a_slot T (length S))

-- bytes past N stay
abbrev pub BytesPastStay : Type 0
BytesPastStay =
    (st : State) (T S : List ℕ) (r : ℕ) → st.running.ports ≤ r → get_or (sent_after st T S) r 0 ≡ get_or S r 0
