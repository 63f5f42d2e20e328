-- No call has two different outcomes under its promise: whatever the arguments x, two results that the function's contract allows are equal.
-- `Learnt κ x a l` is the contract itself, as its source states it: with the arguments x the result may be a, and l what the lent memory holds after (κ, the lifetimes, do not matter).
-- The builder's one free choice is in `Builder.antt`, and the forwarding functions, by value and lent, are in `Switch.antt`.
use Rattle.std.specs.Prelude.{◌≡◌}
use Rattle.margins.proofs.margin.Reads as margin
use Rattle.margins.proofs.room.Reads as room
use Rattle.margins.proofs.fit.Reads as fit
use Rattle.margins.proofs.cells.Reads as cells
use Rattle.cycles.proofs.cycle.Reads as cycle
use Rattle.cycles.proofs.run.Reads as run
use Rattle.cycles.proofs.least_trd.Reads as least-trd
use Rattle.plan_text.proofs.reading.read.Reads as read
use Rattle.plan_text.proofs.writing.write.Reads as write
use Rattle.tables.proofs.check.check.Reads as check
use Rattle.tables.proofs.row.row_answer.Reads as row-answer
use Rattle.tables.proofs.row.row.Reads as row

abbrev pub OneMargin : Type 0
OneMargin = (κ : _) (x : _) (a b : _) (l m : _) → margin.Learnt κ x a l → margin.Learnt κ x b m → a ≡ b

abbrev pub OneRoom : Type 0
OneRoom = (κ : _) (x : _) (a b : _) (l m : _) → room.Learnt κ x a l → room.Learnt κ x b m → a ≡ b

abbrev pub OneFit : Type 0
OneFit = (κ : _) (x : _) (a b : _) (l m : _) → fit.Learnt κ x a l → fit.Learnt κ x b m → a ≡ b

abbrev pub OneCells : Type 0
OneCells = (κ : _) (x : _) (a b : _) (l m : _) → cells.Learnt κ x a l → cells.Learnt κ x b m → a ≡ b

-- of a cycle, the answer, the bytes of the messages taken and the loads
abbrev pub OneCycle : Type 0
OneCycle =
    (κ : _) (x : _) (a b : _) (l m : _)
    → cycle.Learnt κ x a l → cycle.Learnt κ x b m
    → (a ≡ b) × ((l.1.1.0.now ≡ m.1.1.0.now) × (l.1.1.1.0.now ≡ m.1.1.1.0.now))

-- of a run, the answer and the responses
abbrev pub OneRun : Type 0
OneRun = (κ : _) (x : _) (a b : _) (l m : _) → run.Learnt κ x a l → run.Learnt κ x b m → (a ≡ b) × (l.1.1.1.0.now ≡ m.1.1.1.0.now)

abbrev pub OneTrd : Type 0
OneTrd = (κ : _) (x : _) (a b : _) (l m : _) → least-trd.Learnt κ x a l → least-trd.Learnt κ x b m → a ≡ b

abbrev pub OneCheck : Type 0
OneCheck = (κ : _) (x : _) (a b : _) (l m : _) → check.Learnt κ x a l → check.Learnt κ x b m → a ≡ b

abbrev pub OneRowAnswer : Type 0
OneRowAnswer = (κ : _) (x : _) (a b : _) (l m : _) → row-answer.Learnt κ x a l → row-answer.Learnt κ x b m → a ≡ b

-- of a row, the bytes and where they lie
abbrev pub OneRow : Type 0
OneRow =
    (κ : _) (x : _) (a b : _) (l m : _)
    → row.Learnt κ x a l → row.Learnt κ x b m → (a.now ≡ b.now) × ((a.ref_ptr.0 ≡ b.ref_ptr.0) × (a.ref_ptr.1 ≡ b.ref_ptr.1))

-- of reading, the plan handed back and the lent list
abbrev pub OneRead : Type 0
OneRead = (κ : _) (x : _) (a b : _) (l m : _) → read.Learnt κ x a l → read.Learnt κ x b m → (a ≡ b) × (l.1.0.now ≡ m.1.0.now)

-- of writing, the answer and the lent text
abbrev pub OneWrite : Type 0
OneWrite = (κ : _) (x : _) (a b : _) (l m : _) → write.Learnt κ x a l → write.Learnt κ x b m → (a ≡ b) × (l.1.0.now ≡ m.1.0.now)
