-- No call has two different outcomes under its promise, of the functions that `OneOutcome.antt` does not have: the builder and the forwarding core. Whatever
-- the arguments, two results that the function's contract allows are equal, and so is every lent byte, count and record after. `Learnt` is the contract
-- itself (`Calls.antt`). The builder alone has a free choice, which accepted table it leaves; all the rest of its outcomes is one.
use Rattle.std.specs.Prelude.{◌*◌, ◌≡◌, drop}
use Rattle.answers.specs.Numbers.{DONE}
use Rattle.answers.specs.Answers.{plain_answer}
use Rattle.builder.proofs.build.Reads as build
use Rattle.forwarding.proofs.fresh_start.Reads as fresh_start
use Rattle.forwarding.proofs.offer.Reads as offer
use Rattle.forwarding.proofs.slot.Reads as slot
use Rattle.forwarding.proofs.record.fresh_start_in.Reads as fresh_start_in
use Rattle.forwarding.proofs.record.slot_in.Reads as slot_in

-- of a build, the answer, every byte on a refusal, and the bytes past N·M always
abbrev pub OneBuildOfContract : Type 0
OneBuildOfContract =
    (κ : _) (x : _) (a b : _) (l m : _)
    → build.Learnt κ x a l → build.Learnt κ x b m
    → (a ≡ b)
    × ((((plain_answer a).number ≡ DONE → ⊥) → l.1.0.now ≡ m.1.0.now)
    × (drop (x.0.now.ports * x.0.now.frame) l.1.0.now ≡ drop (x.0.now.ports * x.0.now.frame) m.1.0.now))

-- of a fresh start, the answer, the record and the counts
abbrev pub OneFreshStartOfContract : Type 0
OneFreshStartOfContract =
    (κ : _) (x : _) (a b : _) (l m : _)
    → fresh_start.Learnt κ x a l → fresh_start.Learnt κ x b m → (a ≡ b) × (l.1.1.1.0.now ≡ m.1.1.1.0.now)

abbrev pub OneFreshStartInOfContract : Type 0
OneFreshStartInOfContract =
    (κ : _) (x : _) (a b : _) (l m : _)
    → fresh_start_in.Learnt κ x a l → fresh_start_in.Learnt κ x b m
    → (a ≡ b) × ((l.0.now ≡ m.0.now) × (l.1.1.1.0.now ≡ m.1.1.1.0.now))

-- of an offer, the answer and the counts
abbrev pub OneOfferOfContract : Type 0
OneOfferOfContract = (κ : _) (x : _) (a b : _) (l m : _) → offer.Learnt κ x a l → offer.Learnt κ x b m → (a ≡ b) × (l.0.now ≡ m.0.now)

-- of a slot, the answer, the record, the counts and the sent buffer
abbrev pub OneSlotOfContract : Type 0
OneSlotOfContract =
    (κ : _) (x : _) (a b : _) (l m : _)
    → slot.Learnt κ x a l → slot.Learnt κ x b m
    → (a ≡ b) × ((l.1.1.0.now ≡ m.1.1.0.now) × (l.1.1.1.0.now ≡ m.1.1.1.0.now))

abbrev pub OneSlotInOfContract : Type 0
OneSlotInOfContract =
    (κ : _) (x : _) (a b : _) (l m : _)
    → slot_in.Learnt κ x a l → slot_in.Learnt κ x b m
    → (a ≡ b) × ((l.0.now ≡ m.0.now) × ((l.1.1.0.now ≡ m.1.1.0.now) × (l.1.1.1.0.now ≡ m.1.1.1.0.now)))
