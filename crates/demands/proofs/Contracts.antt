-- Each contract says just what `specs/Contracts.antt` says that it does.
use Rattle.demands.specs.Contracts.{MarginAnswers, RoomAnswers, FitAnswers, CellsAnswers, CycleGoes, RunGoes, TrdAnswers, CheckAnswers}
use Rattle.demands.specs.Contracts.{RowAnswers, RowIsPart, BuildBuilds, ReadReads, WriteWrites}

pub margin_answers : MarginAnswers
margin_answers κ x a l c = c

pub room_answers : RoomAnswers
room_answers κ x a l c = c

pub fit_answers : FitAnswers
fit_answers κ x a l c = c

pub cells_answers : CellsAnswers
cells_answers κ x a l c = c

pub cycle_goes : CycleGoes
cycle_goes κ x a l c = c

pub run_goes : RunGoes
run_goes κ x a l c = c

pub trd_answers : TrdAnswers
trd_answers κ x a l c = c

pub check_answers : CheckAnswers
check_answers κ x a l c = c

pub row_answers : RowAnswers
row_answers κ x a l c = c

pub row_is_part : RowIsPart
row_is_part κ x a l c = c

pub build_builds : BuildBuilds
build_builds κ x a l c = c

pub read_reads : ReadReads
read_reads κ x a l c = c

pub write_writes : WriteWrites
write_writes κ x a l c = c
