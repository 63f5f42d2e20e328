-- Tables, of the functions: what `Tables.antt` says of the answers, here of every outcome that the contracts allow.
use Rattle.std.specs.Prelude.{ℕ, ◌*◌, ◌≤◌, ◌<◌, ◌≡◌, ◌↔◌, [], length, take, pos}
use Rattle.answers.specs.Numbers.{DONE, ENTRY_NOT_OF_ROW, INPUT_TWICE_IN_SLOT, COUNT_WRONG}
use Rattle.answers.specs.Lowest.{IsLowest}
use Rattle.answers.specs.Answers.{answer, done_with}
use Rattle.flows.specs.Flows.{flow_count}
use Rattle.tables.specs.Accepted.{Accepted, NotOfRow, InputTwice, CountWrong}
use Rattle.demands.specs.Tables.{Judged}
use Rattle.demands.specs.Calls.{EveryCheck, EveryRowAnswer, EveryRow}

-- the check answers done exactly if ranges, list and length are right and the table is accepted
abbrev pub DoneIffAcceptedOfContract : Type 0
DoneIffAcceptedOfContract = EveryCheck (λ M N L T a. (a ≡ done_with (pos 0)) ↔ (Judged M N L T × Accepted M N L T))

-- refusal 8 names place p exactly if that is the lowest whose entry is neither 0 nor a flow of that row
abbrev pub NamesPlaceOfContract : Type 0
NamesPlaceOfContract = EveryCheck (λ M N L T a. (p : ℕ) → (a ≡ answer ENTRY_NOT_OF_ROW (pos p)) ↔ (Judged M N L T × IsLowest 0 (N * M) (NotOfRow M L T) p))

-- refusal 9 names slot s exactly if 8 is not due and s is the lowest in which an input stands twice
abbrev pub NamesSlotOfContract : Type 0
NamesSlotOfContract =
    EveryCheck
    (λ M N L T a. (s : ℕ)
    → (a ≡ answer INPUT_TWICE_IN_SLOT (pos s))
    ↔ (Judged M N L T × ((p : ℕ) → p < N * M → NotOfRow M L T p → ⊥) × IsLowest 0 M (InputTwice M N L T) s))

-- refusal 10 names flow k exactly if neither 8 nor 9 is due and k is the lowest whose count in the table is wrong
abbrev pub NamesFlowOfContract : Type 0
NamesFlowOfContract =
    EveryCheck
    (λ M N L T a. (k : ℕ)
    → (a ≡ answer COUNT_WRONG (pos k))
    ↔ (Judged M N L T
    × ((p : ℕ) → p < N * M → NotOfRow M L T p → ⊥)
    × ((s : ℕ) → s < M → InputTwice M N L T s → ⊥)
    × IsLowest 1 (flow_count L) (CountWrong M N L T) k))

-- "Build and the check ignore table bytes past N·M": tables that are long enough and the same up to there are answered alike
abbrev pub BytesPastIgnored : Type 0
BytesPastIgnored =
    EveryCheck
    (λ M N L T a. EveryCheck
    (λ M' N' L' U b. M ≡ M' → N ≡ N' → L ≡ L' → N * M ≤ length T → N * M ≤ length U → take (N * M) T ≡ take (N * M) U → a ≡ b))

-- "A second call with the same arguments gives the number, 0 exactly where the part is not empty."
abbrev pub RowThereIffDoneOfContract : Type 0
RowThereIffDoneOfContract =
    EveryRow
    (λ M N T j part. EveryRowAnswer
    (λ M' N' U k a. M ≡ M' → N ≡ N' → T.now ≡ U → j ≡ k → (a.number ≡ DONE) ↔ (part.now ≡ [] → ⊥)))
