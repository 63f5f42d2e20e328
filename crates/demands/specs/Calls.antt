-- The public functions by their contracts. `Learnt κ x a l` is a contract itself, as its source states it: with the arguments x the result may be a, and l
-- what the lent memory holds after (κ, the lifetimes, do not matter). `EveryOffer P`, say, is that P is true of every outcome that the contract of `offer`
-- allows, whatever was given and lent. So a statement made with it is about the function, and a contract that allowed more would not bear it.
-- P is handed what was given and lent, then what came back, then what the lent memory holds after. What came back is told as an answer, number and detail,
-- which tells all of it (`answers` `Outcomes`, and `Handed` here).
use Rattle.std.specs.Prelude.{ℕ, List}
use Rattle.std.specs.Borrow.{Bor}
use Rattle.answers.specs.declared.Answer.{Answer}
use Rattle.answers.specs.Answers.{plain_answer, signed_answer, counted_answer}
use Rattle.cycles.specs.Cycle.{Network}
use Rattle.cycles.specs.Lent.{of_network}
use Rattle.forwarding.specs.declared.Running.{Running}
use Rattle.forwarding.specs.Outcome.{Outcome, handed}
use Rattle.plan_text.specs.Plans.{Plan, handed as plan_handed}
use Rattle.margins.proofs.margin.Reads as margin
use Rattle.margins.proofs.room.Reads as room
use Rattle.margins.proofs.fit.Reads as fit
use Rattle.margins.proofs.cells.Reads as cells
use Rattle.cycles.proofs.cycle.Reads as cycle
use Rattle.cycles.proofs.run.Reads as run
use Rattle.cycles.proofs.least_trd.Reads as least_trd
use Rattle.tables.proofs.check.check.Reads as check
use Rattle.tables.proofs.row.row_answer.Reads as row_answer
use Rattle.tables.proofs.row.row.Reads as row
use Rattle.builder.proofs.build.Reads as build
use Rattle.forwarding.proofs.fresh_start.Reads as fresh_start
use Rattle.forwarding.proofs.offer.Reads as offer
use Rattle.forwarding.proofs.slot.Reads as slot
use Rattle.forwarding.proofs.record.fresh_start_in.Reads as fresh_start_in
use Rattle.forwarding.proofs.record.slot_in.Reads as slot_in
use Rattle.plan_text.proofs.reading.read.Reads as read
use Rattle.plan_text.proofs.writing.write.Reads as write

-- frame, delays, deadline; the answer
abbrev pub EveryMargin : (ℕ → List ℕ → ℕ → Answer → Type 0) → Type 0
EveryMargin P = (κ : _) (x : _) (a : _) (l : _) → margin.Learnt κ x a l → P x.0 x.1.0.now x.1.1.0 (signed_answer a)

-- frame, common delay, deadline; the answer
abbrev pub EveryRoom : (ℕ → ℕ → ℕ → Answer → Type 0) → Type 0
EveryRoom P = (κ : _) (x : _) (a : _) (l : _) → room.Learnt κ x a l → P x.0 x.1.0 x.1.1.0 (signed_answer a)

-- frame, period, cells; the answer
abbrev pub EveryFit : (ℕ → ℕ → ℕ → Answer → Type 0) → Type 0
EveryFit P = (κ : _) (x : _) (a : _) (l : _) → fit.Learnt κ x a l → P x.0 x.1.0 x.1.1.0 (counted_answer a)

-- bits; the answer
abbrev pub EveryCells : (ℕ → Answer → Type 0) → Type 0
EveryCells P = (κ : _) (x : _) (a : _) (l : _) → cells.Learnt κ x a l → P x.0 (counted_answer a)

-- network, ready bytes, the buffers for the messages taken and for the loads; the answer; both buffers after
abbrev pub EveryCycle : (Network → List ℕ → List ℕ → List ℕ → Answer → List ℕ → List ℕ → Type 0) → Type 0
EveryCycle P =
    (κ : _) (x : _) (a : _) (l : _) → cycle.Learnt κ x a l
    → P (of_network x.0) x.1.0.now x.1.1.0.now x.1.1.1.0.now (plain_answer a) l.1.1.0.now l.1.1.1.0.now

-- network, releases, cycles, the buffer for the responses; the answer; the buffer after
abbrev pub EveryRun : (Network → List ℕ → ℕ → List ℕ → Answer → List ℕ → Type 0) → Type 0
EveryRun P =
    (κ : _) (x : _) (a : _) (l : _) → run.Learnt κ x a l
    → P (of_network x.0) x.1.0.now x.1.1.0 x.1.1.1.0.now (plain_answer a) l.1.1.1.0.now

-- depth, nodes, SIG, TM, SLD; the answer
abbrev pub EveryTrd : (ℕ → ℕ → ℕ → ℕ → ℕ → Answer → Type 0) → Type 0
EveryTrd P =
    (κ : _) (x : _) (a : _) (l : _) → least_trd.Learnt κ x a l
    → P x.0.depth x.0.nodes x.0.sig x.0.tm x.0.sld (signed_answer a)

-- frame, ports, list, table; the answer
abbrev pub EveryCheck : (ℕ → ℕ → List ℕ → List ℕ → Answer → Type 0) → Type 0
EveryCheck P =
    (κ : _) (x : _) (a : _) (l : _) → check.Learnt κ x a l
    → P x.0.now.frame x.0.now.ports x.0.now.list.now x.1.0.now (plain_answer a)

-- frame, ports, table, output; the answer
abbrev pub EveryRowAnswer : (ℕ → ℕ → List ℕ → ℕ → Answer → Type 0) → Type 0
EveryRowAnswer P = (κ : _) (x : _) (a : _) (l : _) → row_answer.Learnt κ x a l → P x.0 x.1.0 x.1.1.0.now x.1.1.1.0 (plain_answer a)

-- frame, ports, table, output; the part: table and part by their bytes and by where they lie
abbrev pub EveryRow : (ℕ → ℕ → Bor (List ℕ) → ℕ → Bor (List ℕ) → Type 0) → Type 0
EveryRow P = (κ : _) (x : _) (a : _) (l : _) → row.Learnt κ x a l → P x.0 x.1.0 x.1.1.0 x.1.1.1.0 a

-- frame, ports, list, table; the answer; the table after
abbrev pub EveryBuild : (ℕ → ℕ → List ℕ → List ℕ → Answer → List ℕ → Type 0) → Type 0
EveryBuild P =
    (κ : _) (x : _) (a : _) (l : _) → build.Learnt κ x a l
    → P x.0.now.frame x.0.now.ports x.0.now.list.now x.1.0.now (plain_answer a) l.1.0.now

-- record, frame, ports, counts; the outcome; the counts after
abbrev pub EveryFreshStart : (Running → ℕ → ℕ → List ℕ → Outcome → List ℕ → Type 0) → Type 0
EveryFreshStart P =
    (κ : _) (x : _) (a : _) (l : _) → fresh_start.Learnt κ x a l
    → P x.0 x.1.0 x.1.1.0 x.1.1.1.0.now (handed x.0 a) l.1.1.1.0.now

-- counts, flow, cells; the answer; the counts after
abbrev pub EveryOffer : (List ℕ → ℕ → ℕ → Answer → List ℕ → Type 0) → Type 0
EveryOffer P = (κ : _) (x : _) (a : _) (l : _) → offer.Learnt κ x a l → P x.0.now x.1.0 x.1.1.0 (plain_answer a) l.0.now

-- record, table, counts, sent buffer; the outcome; counts and sent buffer after
abbrev pub EverySlot : (Running → List ℕ → List ℕ → List ℕ → Outcome → List ℕ → List ℕ → Type 0) → Type 0
EverySlot P =
    (κ : _) (x : _) (a : _) (l : _) → slot.Learnt κ x a l
    → P x.0 x.1.0.now x.1.1.0.now x.1.1.1.0.now (handed x.0 a) l.1.1.0.now l.1.1.1.0.now

-- the lent record, frame, ports, counts; the answer; record and counts after
abbrev pub EveryFreshStartIn : (Running → ℕ → ℕ → List ℕ → Answer → Running → List ℕ → Type 0) → Type 0
EveryFreshStartIn P =
    (κ : _) (x : _) (a : _) (l : _) → fresh_start_in.Learnt κ x a l
    → P x.0.now x.1.0 x.1.1.0 x.1.1.1.0.now (plain_answer a) l.0.now l.1.1.1.0.now

-- the lent record, table, counts, sent buffer; the answer; record, counts and sent buffer after
abbrev pub EverySlotIn : (Running → List ℕ → List ℕ → List ℕ → Answer → Running → List ℕ → List ℕ → Type 0) → Type 0
EverySlotIn P =
    (κ : _) (x : _) (a : _) (l : _) → slot_in.Learnt κ x a l
    → P x.0.now x.1.0.now x.1.1.0.now x.1.1.1.0.now (plain_answer a) l.0.now l.1.1.0.now l.1.1.1.0.now

-- text, list buffer; the plan; the buffer after
abbrev pub EveryRead : (List ℕ → List ℕ → Plan → List ℕ → Type 0) → Type 0
EveryRead P = (κ : _) (x : _) (a : _) (l : _) → read.Learnt κ x a l → P x.0.now x.1.0.now (plan_handed a) l.1.0.now

-- frame, ports, list, text buffer; the answer; the buffer after
abbrev pub EveryWrite : (ℕ → ℕ → List ℕ → List ℕ → Answer → List ℕ → Type 0) → Type 0
EveryWrite P =
    (κ : _) (x : _) (a : _) (l : _) → write.Learnt κ x a l
    → P x.0.now.frame x.0.now.ports x.0.now.list.now x.1.0.now (counted_answer a) l.1.0.now
