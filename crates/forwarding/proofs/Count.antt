-- The count of cells: call by call what a flow is brought is what it sends and what more waits.
use Prim.Native.Nat.{ℕ, ◌+◌}
use mathlib.Core.Path.{◌≡◌}
use mathlib.Core.List.{List, [], ◌∷◌}
use native.Mathlib.Omega.{arith}
use borrow.Author.Tests.{eqb-true}
use lib.ListN.{length}
use Rattle.answers.specs.Numbers.{DONE}
use Rattle.answers.specs.Limits.{Within}
use Rattle.forwarding.specs.Forwarding.{waiting_of}
use Rattle.forwarding.specs.Histories.{State, Call, a_fresh_start, answer_of, step, run, total, sent_by, accepted_by, fresh_start_by}
use Rattle.forwarding.specs.Count.{CellsKept}
use Rattle.forwarding.proofs.Keeping.{kept, step_known, start_empties}

-- from any state on
from_any : (k : ℕ) (st : State) (h : List Call) → Within 1 (length st.waiting) k → total fresh_start_by st h ≡ 0
    → waiting_of st.waiting k + total (accepted_by k) st h ≡ total (sent_by k) st h + waiting_of (run st h).waiting k
unfolding total run
from_any k st [] known none = omega arith
from_any k st (c ∷ h) known none =
    omega (arith, kept k st known c (omega arith), from_any k (step st c) h (step_known k st c known) (omega arith))

pub cells_kept : CellsKept
cells_kept k M N st calls known e none =
    let start = a_fresh_start M N in
    omega (
      arith,
      start_empties k st M N known (eqb-true (answer_of st start).number DONE e),
      from_any k (step st start) calls (step_known k st start known) none,
    )
