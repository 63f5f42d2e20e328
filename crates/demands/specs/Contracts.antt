-- What each contract says, in the words of its crate. Statements on the other pages that speak of `marginAnswer`, `Cycled` and their like are about the
-- functions by these; what is said of the check, the builder and the plan text is stated of the contracts outright, and the switch is tied to its
-- histories by its steps.
use Rattle.std.specs.Prelude.{◌≡◌, ◌+◌, length}
use Rattle.margins.specs.Margins.{margin_answer, room_answer, fit_answer, cells_answer}
use Rattle.cycles.specs.Trd.{trd_answer}
use Rattle.cycles.specs.Promises.{Cycled, RunOver}
use Rattle.tables.specs.Check.{check_answer}
use Rattle.tables.specs.Row.{row_answer, row_start, row_part}
use Rattle.builder.specs.Build.{Built}
use Rattle.plan_text.specs.Plans.{read_plan, read_into, write_answer, written_into}
use Rattle.demands.specs.Calls.{EveryMargin, EveryRoom, EveryFit, EveryCells, EveryCycle, EveryRun, EveryTrd, EveryCheck, EveryRowAnswer}
use Rattle.demands.specs.Calls.{EveryRow, EveryBuild, EveryRead, EveryWrite}

abbrev pub MarginAnswers : Type 0
MarginAnswers = EveryMargin (λ M D H a. a ≡ margin_answer M D H)

abbrev pub RoomAnswers : Type 0
RoomAnswers = EveryRoom (λ M d H a. a ≡ room_answer M d H)

abbrev pub FitAnswers : Type 0
FitAnswers = EveryFit (λ M P C a. a ≡ fit_answer M P C)

abbrev pub CellsAnswers : Type 0
CellsAnswers = EveryCells (λ bits a. a ≡ cells_answer bits)

abbrev pub CycleGoes : Type 0
CycleGoes = EveryCycle (λ w ready B X a B' X'. Cycled w ready B X a B' X')

abbrev pub RunGoes : Type 0
RunGoes = EveryRun (λ w R cycles X a X'. RunOver w R cycles X a X')

abbrev pub TrdAnswers : Type 0
TrdAnswers = EveryTrd (λ depth nodes sig tm sld a. a ≡ trd_answer depth nodes sig tm sld)

abbrev pub CheckAnswers : Type 0
CheckAnswers = EveryCheck (λ M N L T a. a ≡ check_answer M N L T)

abbrev pub RowAnswers : Type 0
RowAnswers = EveryRowAnswer (λ M N T j a. a ≡ row_answer M N (length T) j)

-- the row's bytes, and where they lie: in the lent table's own memory, so far from its first byte
abbrev pub RowIsPart : Type 0
RowIsPart =
    EveryRow
    (λ M N T j part. (part.now ≡ row_part M N T.now j) × ((part.ref_ptr.0 ≡ T.ref_ptr.0) × (part.ref_ptr.1 ≡ T.ref_ptr.1 + row_start M N (length T.now) j)))

abbrev pub BuildBuilds : Type 0
BuildBuilds = EveryBuild (λ M N L T a T'. Built M N L T T' a)

abbrev pub ReadReads : Type 0
ReadReads = EveryRead (λ text B p B'. (p ≡ read_plan text (length B)) × (B' ≡ read_into text B))

abbrev pub WriteWrites : Type 0
WriteWrites = EveryWrite (λ M N L X a X'. (a ≡ write_answer M N L (length X)) × (X' ≡ written_into M N L X))
