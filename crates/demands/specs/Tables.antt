-- Tables: any table is judged by the one definition of accepted.
use Rattle.std.specs.Prelude.{ℕ, ◌*◌, ◌≤◌, ◌<◌, ◌≡◌, ◌↔◌, List, [], length, pos}
use Rattle.answers.specs.Numbers.{DONE, ENTRY_NOT_OF_ROW, INPUT_TWICE_IN_SLOT, COUNT_WRONG}
use Rattle.answers.specs.Lowest.{IsLowest}
use Rattle.answers.specs.Answers.{answer, done_with}
use Rattle.flows.specs.Flows.{flow_count, InRange, Fitting}
use Rattle.tables.specs.Accepted.{Accepted, NotOfRow, InputTwice, CountWrong}
use Rattle.tables.specs.Check.{check_answer}
use Rattle.tables.specs.Row.{row_answer, row_part}

-- frame, ports and list are in range, and the table has its N·M bytes: what the check asks before it looks at an entry
pub record Judged (M N : ℕ) (L T : List ℕ) : Type 0 where
  pub in_range : InRange M N L
  pub long_enough : N * M ≤ length T

-- the check answers done exactly if ranges, list and length are right and the table is accepted
abbrev pub DoneIffAccepted : Type 0
DoneIffAccepted = (M N : ℕ) (L T : List ℕ) → (check_answer M N L T ≡ done_with (pos 0)) ↔ (Judged M N L T × Accepted M N L T)

-- refusal 8 names place p exactly if that is the lowest whose entry is neither 0 nor a flow of that row
abbrev pub NamesPlace : Type 0
NamesPlace =
    (M N : ℕ) (L T : List ℕ) (p : ℕ)
    → (check_answer M N L T ≡ answer ENTRY_NOT_OF_ROW (pos p)) ↔ (Judged M N L T × IsLowest 0 (N * M) (NotOfRow M L T) p)

-- refusal 9 names slot s exactly if 8 is not due and s is the lowest in which an input stands twice
abbrev pub NamesSlot : Type 0
NamesSlot =
    (M N : ℕ) (L T : List ℕ) (s : ℕ)
    → (check_answer M N L T ≡ answer INPUT_TWICE_IN_SLOT (pos s))
    ↔ (Judged M N L T × ((p : ℕ) → p < N * M → NotOfRow M L T p → ⊥) × IsLowest 0 M (InputTwice M N L T) s)

-- refusal 10 names flow k exactly if neither 8 nor 9 is due and k is the lowest whose count in the table is wrong
abbrev pub NamesFlow : Type 0
NamesFlow =
    (M N : ℕ) (L T : List ℕ) (k : ℕ)
    → (check_answer M N L T ≡ answer COUNT_WRONG (pos k))
    ↔ (Judged M N L T
    × ((p : ℕ) → p < N * M → NotOfRow M L T p → ⊥)
    × ((s : ℕ) → s < M → InputTwice M N L T s → ⊥)
    × IsLowest 1 (flow_count L) (CountWrong M N L T) k)

-- a table is accepted only if no input and no output is asked for more than M, whatever M and N are
abbrev pub AcceptedFits : Type 0
AcceptedFits = (M N : ℕ) (L T : List ℕ) → Accepted M N L T → Fitting M N L

-- "A second call with the same arguments gives the number, 0 exactly where the part is not empty."
abbrev pub RowThereIffDone : Type 0
RowThereIffDone = (M N : ℕ) (T : List ℕ) (j : ℕ) → ((row_answer M N (length T) j).number ≡ DONE) ↔ (row_part M N T j ≡ [] → ⊥)
