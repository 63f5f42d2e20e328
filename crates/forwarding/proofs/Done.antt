-- What a call that is done tells of its arguments, and the state after a call that is done or refused.
use Prim.Native.Nat.{ℕ, ◌+◌, ◌≤◌}
use mathlib.Core.Path.{◌≡◌}
use mathlib.Core.List.{List}
use native.Mathlib.Omega.{arith}
use lib.ListN.{length}
use Rattle.answers.specs.Limits.{max_flows, max_waiting, Within}
use Rattle.answers.specs.Numbers.{DONE}
use Rattle.answers.specs.declared.Answer.{Answer}
use Rattle.answers.proofs.Lowest.{somewhere_false}
use Rattle.forwarding.specs.declared.Running.{Running}
use Rattle.forwarding.specs.Forwarding.{offer_answer, slot_answer, waiting_of, above_counts}
use Rattle.forwarding.specs.Histories.{State, Call, answer_of, carried_out, step}
use Rattle.forwarding.specs.AboveCounts.{SlotAsked, AllCounted}

pub record OfferDone (W : List ℕ) (k n : ℕ) : Type 0 where
  pub few : length W ≤ max_flows
  pub known : Within 1 (length W) k
  pub room : waiting_of W k + n ≤ max_waiting

pub offer_done : (W : List ℕ) (k n : ℕ) → (offer_answer W k n).number ≡ DONE → OfferDone W k n
unfolding offer_answer
offer_done W k n e = grind arith

pub record SlotDone (r : Running) (T W : List ℕ) (sentLength : ℕ) : Type 0 where
  pub asked : SlotAsked r T W sentLength
  pub counted : AllCounted r T W

pub slot_done : (r : Running) (T W : List ℕ) (sentLength : ℕ) → (slot_answer r T W sentLength).number ≡ DONE → SlotDone r T W sentLength
unfolding slot_answer
slot_done r T W sentLength e =
    record { asked = grind arith; counted = λ j l. grind (arith, somewhere_false 0 r.ports (above_counts r T (length W))) }

abbrev pub Done : State → Call → Type 0
Done st c = (answer_of st c).number ≡ DONE

abbrev pub Refused : State → Call → Type 0
Refused st c = (answer_of st c).number ≡ DONE → ⊥

pub step_done : (st : State) (c : Call) → Done st c → step st c ≡ carried_out st c
unfolding step
step_done st c e = grind arith

-- a is what the call answered
pub step_refused : (st : State) (c : Call) {a : Answer} → a ≡ answer_of st c → (a.number ≡ DONE → ⊥) → step st c ≡ st
unfolding step
step_refused st c e d = grind (arith, e, d)
