-- In M slots in a row, from any position, a flow sends at most its reservation, and as much of it as it has waiting.
use Rattle.std.specs.Prelude.{ℕ, min, ◌≤◌, ◌≡◌, List, [], ◌∷◌, length}
use Rattle.flows.specs.Flows.{IsFlow, flow_count, cells_of}
use Rattle.tables.specs.Accepted.{Accepted}
use Rattle.forwarding.specs.Forwarding.{waiting_of}
use Rattle.forwarding.specs.Histories.{State, Call, a_fresh_start, an_offer, a_slot, total, sent_by, slot_by, fresh_start_by}

-- every slot call is lent the table T
abbrev pub LentOnly : List ℕ → List Call → Type 0
LentOnly T [] = Unit {0}
LentOnly T (a_fresh_start M N ∷ h) = LentOnly T h
LentOnly T (an_offer k n ∷ h) = LentOnly T h
LentOnly T (a_slot U sentLength ∷ h) = (U ≡ T) × LentOnly T h

-- the calls from state st on are a window of that many slots; other calls, refused ones too, stand anywhere among the slots
pub record Window (L T : List ℕ) (st : State) (calls : List Call) (slots : ℕ) : Type 0 where
  -- the table is accepted for the list at the record's frame and ports
  pub accepted : Accepted st.running.frame st.running.ports L T
  -- there are K waiting counts
  pub counts : length st.waiting ≡ flow_count L
  -- the table stays the same
  pub one_table : LentOnly T calls
  -- no fresh start falls inside the window
  pub no_fresh_start : total fresh_start_by st calls ≡ 0
  pub slots_done : total slot_by st calls ≡ slots

-- in any M consecutive slots flow k sends at most its cells per frame
abbrev pub UpperShare : Type 0
UpperShare =
    (L T : List ℕ) (st : State) (calls : List Call) (k : ℕ)
    → Window L T st calls st.running.frame → IsFlow L k → total (sent_by k) st calls ≤ cells_of L k

-- and at least as many of them as it has waiting when the window opens
abbrev pub LowerShare : Type 0
LowerShare =
    (L T : List ℕ) (st : State) (calls : List Call) (k : ℕ)
    → Window L T st calls st.running.frame → IsFlow L k → min (cells_of L k) (waiting_of st.waiting k) ≤ total (sent_by k) st calls
