-- The switch, of the functions: a call of one is a step of the histories that `Switch.antt` speaks of. And how far the waiting counts can go.
use Rattle.std.specs.Prelude.{◌≡◌, length}
use Rattle.answers.specs.declared.Answer.{Answer}
use Rattle.forwarding.specs.declared.Running.{Running}
use Rattle.forwarding.specs.Histories.{State, Call, state_of, a_fresh_start, an_offer, a_slot, answer_of, step, sent_after}
use Rattle.demands.specs.Calls.{EveryFreshStart, EveryOffer, EverySlot, EveryFreshStartIn, EverySlotIn}
-- cells waiting per flow are 0 to 4,000: from a fresh start no waiting count passes the limit, whatever is called
pub use Rattle.forwarding.specs.WaitingLimit.{NeverPastLimit}

-- a call that was made in state st, was answered with a and left state st' is the step of a history
pub record Steps (st : State) (c : Call) (a : Answer) (st' : State) : Type 0 where
  pub answered : a ≡ answer_of st c
  pub left : st' ≡ step st c

-- so is every call of these functions, refused ones too; what it leaves is the record and every count
abbrev pub FreshStartSteps : Type 0
FreshStartSteps = EveryFreshStart (λ r M N W o W'. Steps (state_of r W) (a_fresh_start M N) o.answer (state_of o.running W'))

-- an offer is not handed the record, and any record stays
abbrev pub OfferSteps : Type 0
OfferSteps = EveryOffer (λ W k n a W'. (r : Running) → Steps (state_of r W) (an_offer k n) a (state_of r W'))

-- and of a slot the sent buffer besides
abbrev pub SlotSteps : Type 0
SlotSteps =
    EverySlot (λ r T W S o W' S'. Steps (state_of r W) (a_slot T (length S)) o.answer (state_of o.running W') × (S' ≡ sent_after (state_of r W) T S))

-- the functions that are lent the record do the same to it
abbrev pub FreshStartInSteps : Type 0
FreshStartInSteps = EveryFreshStartIn (λ r M N W a r' W'. Steps (state_of r W) (a_fresh_start M N) a (state_of r' W'))

abbrev pub SlotInSteps : Type 0
SlotInSteps =
    EverySlotIn (λ r T W S a r' W' S'. Steps (state_of r W) (a_slot T (length S)) a (state_of r' W') × (S' ≡ sent_after (state_of r W) T S))
