-- What one call does to one flow's cells: none is made up and none is lost.
use Prim.Native.Nat.{ℕ, ◌+◌, min}
use mathlib.Core.Path.{◌≡◌}
use mathlib.Core.List.{List}
use native.Mathlib.Omega.{arith}
use borrow.Author.Tests.{eq-eqb}
use lib.ListN.{length, length-set, length-replicate, get_or-replicate}
use lib.Dec.{eqb}
use Rattle.answers.specs.Limits.{Within}
use Rattle.answers.specs.Sums.{sum, one}
use Rattle.forwarding.specs.declared.Running.{Running}
use Rattle.forwarding.specs.Forwarding.{entries_now, waiting_of}
use Rattle.forwarding.specs.Histories.{State, Call, a_fresh_start, a_slot, step, sent_by, accepted_by, slot_by, fresh_start_by}
use Rattle.forwarding.proofs.Done.{Done, Refused, offer_done}
use Rattle.forwarding.proofs.Cells.{served-length, served_is, sent_is, added_is}

-- how many outputs have flow k's number at the record's position
abbrev pub named : ℕ → Running → List ℕ → ℕ
named k r T = sum r.ports (λ j. one (eqb (entries_now r T j) k))

-- a refused call counts for nothing
pub record Nothing (k : ℕ) (st : State) (c : Call) : Type 0 where
  pub none_sent : sent_by k st c ≡ 0
  pub none_accepted : accepted_by k st c ≡ 0
  pub no_slot : slot_by st c ≡ 0
  pub no_start : fresh_start_by st c ≡ 0

pub nothing : (k : ℕ) (st : State) (c : Call) → Refused st c → Nothing k st c
nothing k st c d = record { none_sent = grind (arith, d); none_accepted = grind (arith, d); no_slot = grind (arith, d); no_start = grind (arith, d) }

pub slot_sends : (k : ℕ) (st : State) (T : List ℕ) (n : ℕ) → Within 1 (length st.waiting) k → Done st (a_slot T n)
    → sent_by k st (a_slot T n) ≡ min (named k st.running T) (waiting_of st.waiting k)
slot_sends k st T n known e =
    simp (eq-eqb _ _ e) (sent_is k st.running.ports (entries_now st.running T) st.waiting known)

pub step-length : (st : State) (c : Call) → length (step st c).waiting ≡ length st.waiting
unfolding step
step-length st c = grind (arith, length-replicate, length-set, served-length)

pub step_known : (k : ℕ) (st : State) (c : Call) → Within 1 (length st.waiting) k → Within 1 (length (step st c).waiting) k
step_known k st c known = grind (arith, step-length)

-- after a fresh start no cell waits
pub start_empties : (k : ℕ) (st : State) (M N : ℕ) → Within 1 (length st.waiting) k → Done st (a_fresh_start M N)
    → waiting_of (step st (a_fresh_start M N)).waiting k ≡ 0
unfolding step
start_empties k st M N known e = grind (arith, get_or-replicate)

-- what waits after the call and what it sent, against what waited before and what it brought
pub kept : (k : ℕ) (st : State) → Within 1 (length st.waiting) k → (c : Call) → fresh_start_by st c ≡ 0
    → waiting_of (step st c).waiting k + sent_by k st c ≡ waiting_of st.waiting k + accepted_by k st c
unfolding step
kept k st known c none = grind (arith, served_is, slot_sends, added_is, offer_done)
