-- Delays, of the functions: what `Delays.antt` says of the answers, here of every outcome that the contracts allow.
use Rattle.std.specs.Prelude.{ℕ, ◌+◌, ◌/◌, ◌≡◌, ◌↔◌, length, replicate, ℤ, pos, ◌-ℤ◌, ◌≤ℤ◌}
use Rattle.answers.specs.Numbers.{DELAY_OUT_OF_RANGE}
use Rattle.answers.specs.Lowest.{IsLowest}
use Rattle.answers.specs.Answers.{answer, done_with}
use Rattle.margins.specs.Margins.{carried_bits}
use Rattle.demands.specs.Delays.{RoundedDown, lowest_margin, highest_margin, Asked, NotOfALink, LeastTimes}
use Rattle.demands.specs.Calls.{EveryMargin, EveryRoom, EveryFit, EveryCells}

-- "Margin is at least 0 exactly if h is at most the room", for h links of one common delay, where both are answered
abbrev pub InTimeIffRoomOfContract : Type 0
InTimeIffRoomOfContract =
    EveryMargin
    (λ M D H a. EveryRoom
    (λ M' d H' b. M ≡ M' → H ≡ H' → D ≡ replicate (length D) d
    → (m q : ℤ) → a ≡ done_with m → b ≡ done_with q → (pos 0 ≤ℤ m) ↔ (pos (length D) ≤ℤ q)))

-- "(H-M)/(M+d) rounded down", where a room is answered
abbrev pub RoomRoundsDownOfContract : Type 0
RoomRoundsDownOfContract = EveryRoom (λ M d H a. (q : ℤ) → a ≡ done_with q → RoundedDown (pos H -ℤ pos M) (M + d) q)

-- every margin answered lies in the range
abbrev pub MarginInRangeOfContract : Type 0
MarginInRangeOfContract = EveryMargin (λ M D H a. (m : ℤ) → a ≡ done_with m → (lowest_margin ≤ℤ m) × (m ≤ℤ highest_margin))

-- refusal 25 names place k exactly if 1, 15 and 16 are not due and k is the lowest whose entry is outside 1 to 40
abbrev pub NamesLinkOfContract : Type 0
NamesLinkOfContract = EveryMargin (λ M D H a. (k : ℕ) → (a ≡ answer DELAY_OUT_OF_RANGE (pos k)) ↔ (Asked M D H × IsLowest 0 (length D) (NotOfALink D) k))

-- "the least c with c·(P/M rounded down) at least C"
abbrev pub FitIsLeastOfContract : Type 0
FitIsLeastOfContract = EveryFit (λ M P C a. (c : ℕ) → a ≡ done_with (pos c) → LeastTimes (P / M) C c)

-- "Cells of a message are bits/480 rounded up"
abbrev pub CellsAreLeastOfContract : Type 0
CellsAreLeastOfContract = EveryCells (λ bits a. (c : ℕ) → a ≡ done_with (pos c) → LeastTimes carried_bits bits c)
