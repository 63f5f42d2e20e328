-- "cells waiting per flow: 0 to 4,000, each flow its own limit".
use Rattle.std.specs.Prelude.{ℕ, ◌≤◌, ◌≡◌, true, List, length}
use Rattle.answers.specs.Limits.{max_waiting, Within}
use Rattle.forwarding.specs.Forwarding.{waiting_of}
use Rattle.forwarding.specs.Histories.{State, Call, a_fresh_start, step, done, run}

-- from a fresh start on no waiting count passes the limit, whatever is called: any offers, under any tables, further fresh starts and refused calls among them
abbrev pub NeverPastLimit : Type 0
NeverPastLimit =
    (k M N : ℕ) (st : State) (calls : List Call)
    → Within 1 (length st.waiting) k
    → done st (a_fresh_start M N) ≡ true
    → waiting_of (run (step st (a_fresh_start M N)) calls).waiting k ≤ max_waiting
