-- Delays: a margin is an exact signed number, and none is lost, stored as nought or rounded the wrong way.
use Rattle.std.specs.Prelude.{ℕ, ◌+◌, ◌*◌, ◌/◌, ◌≤◌, ◌<◌, ◌≡◌, ◌↔◌, List, [], length, replicate, ℤ, pos, negsuc, ◌-ℤ◌, ◌*ℤ◌, ◌≤ℤ◌, ◌<ℤ◌}
use Rattle.std.proofs.Math.IntN.{suc_ℤ}
use Rattle.answers.specs.Numbers.{DELAY_OUT_OF_RANGE}
use Rattle.answers.specs.Limits.{max_frame, max_links, max_delay, max_deadline, Within}
use Rattle.answers.specs.Lowest.{IsLowest}
use Rattle.answers.specs.Answers.{answer, done_with}
use Rattle.margins.specs.Margins.{delay_of, bound, margin_of, room_of, carried_bits, margin_answer, fit_answer, cells_answer}

-- "With every delay 1 the old cases stand": the bound over h links of one slot each is document 01's
abbrev pub BoundOfOnes : Type 0
BoundOfOnes = (M h : ℕ) → bound M (replicate h 1) ≡ (M + 1) * h + M

-- "Margin is at least 0 exactly if h is at most the room", for h links of one common delay
abbrev pub InTimeIffRoom : Type 0
InTimeIffRoom = (M h d H : ℕ) → 1 ≤ d → (pos 0 ≤ℤ margin_of M (replicate h d) H) ↔ (pos h ≤ℤ room_of M d H)

-- "(H-M)/(M+d) rounded down": the room times M + d is at most H - M, and one more would be above it
pub record RoundedDown (z : ℤ) (d : ℕ) (q : ℤ) : Type 0 where
  pub not_above : (q *ℤ pos d) ≤ℤ z
  pub nearest : z <ℤ (suc_ℤ q *ℤ pos d)

abbrev pub RoomRoundsDown : Type 0
RoomRoundsDown = (M d H : ℕ) → 1 ≤ d → RoundedDown (pos H -ℤ pos M) (M + d) (room_of M d H)

-- The range, -534,488 to 999,999: the ends are the documents' own numbers, and MarginEndsReached holds them to the limits.
abbrev pub lowest_margin : ℤ
lowest_margin = negsuc 534487

abbrev pub highest_margin : ℤ
highest_margin = pos 999999

-- every margin answered lies in the range
abbrev pub MarginInRange : Type 0
MarginInRange = (M : ℕ) (D : List ℕ) (H : ℕ) (m : ℤ) → margin_answer M D H ≡ done_with m → (lowest_margin ≤ℤ m) × (m ≤ℤ highest_margin)

-- both ends are reached: the longest frame over the most links of the longest delay for a deadline of 0, and the shortest over none for the latest
abbrev pub MarginEndsReached : Type 0
MarginEndsReached =
    (margin_answer max_frame (replicate max_links max_delay) 0 ≡ done_with lowest_margin) × (margin_answer 1 [] max_deadline ≡ done_with highest_margin)

-- frame, number of links and deadline are in range: what margin asks before it looks at a delay
pub record Asked (M : ℕ) (D : List ℕ) (H : ℕ) : Type 0 where
  pub frame_in_range : Within 1 max_frame M
  pub links_in_range : Within 0 max_links (length D)
  pub deadline_in_range : Within 0 max_deadline H

-- a link's delay is "outside 1 to 40"
abbrev pub NotOfALink : List ℕ → ℕ → Type 0
NotOfALink D link = Within 1 max_delay (delay_of D link) → ⊥

-- refusal 25 names place k exactly if 1, 15 and 16 are not due and k is the lowest whose entry is outside 1 to 40
abbrev pub NamesLink : Type 0
NamesLink =
    (M : ℕ) (D : List ℕ) (H k : ℕ)
    → (margin_answer M D H ≡ answer DELAY_OUT_OF_RANGE (pos k)) ↔ (Asked M D H × IsLowest 0 (length D) (NotOfALink D) k)

-- "the least c with c·(P/M rounded down) at least C"
pub record LeastTimes (d n c : ℕ) : Type 0 where
  pub enough : n ≤ c * d
  pub no_less : (b : ℕ) → b < c → b * d < n

abbrev pub FitIsLeast : Type 0
FitIsLeast = (M P C c : ℕ) → fit_answer M P C ≡ done_with (pos c) → LeastTimes (P / M) C c

-- "Cells of a message are bits/480 rounded up"
abbrev pub CellsAreLeast : Type 0
CellsAreLeast = (bits c : ℕ) → cells_answer bits ≡ done_with (pos c) → LeastTimes carried_bits bits c
