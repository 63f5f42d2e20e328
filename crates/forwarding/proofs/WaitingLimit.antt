-- No call takes a waiting count past its limit: an offer is refused before it would, a slot only takes cells away, and a fresh start leaves none.
use Prim.Native.Nat.{ℕ, ◌≤◌}
use mathlib.Core.List.{List, [], ◌∷◌}
use native.Mathlib.Omega.{arith}
use borrow.Author.Tests.{eqb-true}
use lib.ListN.{length, get_or-replicate}
use Rattle.answers.specs.Numbers.{DONE}
use Rattle.answers.specs.Limits.{max_waiting, Within}
use Rattle.forwarding.specs.Forwarding.{waiting_of}
use Rattle.forwarding.specs.Histories.{State, Call, a_fresh_start, answer_of, step, run}
use Rattle.forwarding.specs.WaitingLimit.{NeverPastLimit}
use Rattle.forwarding.proofs.Done.{offer_done}
use Rattle.forwarding.proofs.Cells.{served_is, added_is}
use Rattle.forwarding.proofs.Keeping.{step_known, start_empties}

module _ (k : ℕ) where
  abbrev Low : State → Type 0
  Low st = waiting_of st.waiting k ≤ max_waiting

  low_step : (st : State) → Within 1 (length st.waiting) k → (c : Call) → Low st → Low (step st c)
  unfolding step
  low_step st known c low = grind (arith, served_is, added_is, offer_done, get_or-replicate)

  low_run : (st : State) (h : List Call) → Within 1 (length st.waiting) k → Low st → Low (run st h)
  unfolding run
  low_run st [] known low = low
  low_run st (c ∷ h) known low = low_run (step st c) h (step_known k st c known) (low_step st known c low)

pub never_past_limit : NeverPastLimit
never_past_limit k M N st calls known e =
    let start = a_fresh_start M N in
    let empty = start_empties k st M N known (eqb-true (answer_of st start).number DONE e) in
    low_run k (step st start) calls (step_known k st start known) (omega (arith, empty))
