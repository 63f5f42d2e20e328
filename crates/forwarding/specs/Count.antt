-- No cell is made up and none is lost.
use Rattle.std.specs.Prelude.{ℕ, ◌+◌, ◌≡◌, true, List, length}
use Rattle.answers.specs.Limits.{Within}
use Rattle.forwarding.specs.Forwarding.{waiting_of}
use Rattle.forwarding.specs.Histories.{State, Call, a_fresh_start, step, done, run, total, sent_by, accepted_by, fresh_start_by}

-- since the last fresh start, under any tables, each flow's accepted offers equal its cells sent plus its cells waiting
abbrev pub CellsKept : Type 0
CellsKept =
    (k M N : ℕ) (st : State) (calls : List Call)
    → Within 1 (length st.waiting) k
    → done st (a_fresh_start M N) ≡ true
    → total fresh_start_by (step st (a_fresh_start M N)) calls ≡ 0
    → total (accepted_by k) (step st (a_fresh_start M N)) calls
    ≡ total (sent_by k) (step st (a_fresh_start M N)) calls + waiting_of (run (step st (a_fresh_start M N)) calls).waiting k
