-- The switch, of the functions: the proofs of what `specs/SwitchCalls.antt` states.
use Prim.Native.Nat.{ℕ}
use mathlib.Core.Path.{◌≡◌, ap}
use mathlib.Core.List.{List}
use Rattle.forwarding.specs.Outcome.{Outcome}
use Rattle.forwarding.specs.Histories.{State, Call, state_of, step, outcome_of}
use Rattle.forwarding.proofs.WaitingLimit as WaitingLimit
use Rattle.demands.specs.SwitchCalls.{NeverPastLimit, Steps, FreshStartSteps, OfferSteps, SlotSteps, FreshStartInSteps, SlotInSteps}

pub never_past_limit : NeverPastLimit
never_past_limit = WaitingLimit.never_past_limit

-- an outcome that is the history's, with the counts that are, is a step
steps : (st : State) (c : Call) (o : Outcome) (W : List ℕ) → o ≡ outcome_of st c → W ≡ (step st c).waiting → Steps st c o.answer (state_of o.running W)
unfolding outcome_of
steps st c o W e w = record { answered = ap (λ (x : Outcome). x.answer) e; left = λ i. state_of (e i).running (w i) }

pub fresh_start_steps : FreshStartSteps
fresh_start_steps κ x a l c = steps _ _ _ _ c.handed_back c.counts

pub offer_steps : OfferSteps
offer_steps κ x a l c r = record { answered = c.answered; left = c.counts r }

pub slot_steps : SlotSteps
slot_steps κ x a l c = (steps _ _ _ _ c.handed_back c.counts, c.sent)

pub fresh_start_in_steps : FreshStartInSteps
fresh_start_in_steps κ x a l c = steps _ _ _ _ c.handed_back c.counts

pub slot_in_steps : SlotInSteps
slot_in_steps κ x a l c = (steps _ _ _ _ c.handed_back c.counts, c.sent)
