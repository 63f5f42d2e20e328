-- Delay bound and margin, link room, period fit, and the cells of a message.
use Rattle.std.specs.Prelude.{ℕ, ◌+◌, ◌-◌, ◌*◌, ◌/◌, Bool, ◌||◌, List, [], ◌∷◌, ℤ, pos, negsuc, ◌-ℤ◌, length, get_or, eqb, leb, ltb}
use Rattle.answers.specs.declared.Answer.{Answer}
use Rattle.answers.specs.Numbers.{FRAME_OUT_OF_RANGE, LINKS_OUT_OF_RANGE, DEADLINE_OUT_OF_RANGE, PERIOD_OUT_OF_RANGE, PERIOD_DOES_NOT_FIT, BITS_OUT_OF_RANGE, DELAY_OUT_OF_RANGE}
use Rattle.answers.specs.Limits.{max_frame, max_links, max_delay, max_deadline, max_period, max_bits, outside}
use Rattle.answers.specs.Lowest.{lowest}
use Rattle.answers.specs.Sums.{sum}
use Rattle.answers.specs.Answers.{Rule, refusal, done_with, ◌when◌, naming_lowest, first}

-- the delay of a link, in slots, by its place in the list of delays, from 0
abbrev pub delay_of : List ℕ → ℕ → ℕ
delay_of D link = get_or D link 0

-- the delays of all links of a list together
abbrev pub delay_sum : List ℕ → ℕ
delay_sum D = sum (length D) (delay_of D)

-- the delay bound over the links of a list, h of them: a frame for each of h + 1 switches, and the links' delays
abbrev pub bound : ℕ → List ℕ → ℕ
bound M D = (length D + 1) * M + delay_sum D

-- the margin: the deadline less the bound, below zero where the bound is past the deadline
abbrev pub margin_of : ℕ → List ℕ → ℕ → ℤ
margin_of M D H = pos H -ℤ pos (bound M D)

-- z divided by d, rounded down, below zero too: -(a + 1) rounds down to -(a/d + 1)
abbrev pub floor_div : ℤ → ℕ → ℤ
floor_div (pos a) d = pos (a / d)
floor_div (negsuc a) d = negsuc (a / d)

-- the link room for links of one common delay d: (H - M)/(M + d) rounded down, the minus kept
abbrev pub room_of : ℕ → ℕ → ℕ → ℤ
room_of M d H = floor_div (pos H -ℤ pos M) (M + d)

-- the least c with c times d at least n: n/d rounded up
unfoldable pub least_times : ℕ → ℕ → ℕ
least_times d n = lowest 0 n (λ c. leb n (c * d))

-- the cells per frame that C cells every P slots need: the least c with c times (P/M rounded down) at least C
abbrev pub fit_of : ℕ → ℕ → ℕ → ℕ
fit_of M P C = least_times (P / M) C

-- the bits of a cell
abbrev pub cell_bits : ℕ
cell_bits = 500

-- the bits of a cell that its flow label takes
abbrev pub label_bits : ℕ
label_bits = 20

-- the bits of a message that a cell carries: what the label leaves
abbrev pub carried_bits : ℕ
carried_bits = cell_bits - label_bits

-- the cells of a message: its bits by those that a cell carries, rounded up
abbrev pub cells_for : ℕ → ℕ
cells_for bits = least_times carried_bits bits

-- refusal 25: a delay is not one that a link can have
abbrev pub delay_out_of_range : ℕ → Bool
delay_out_of_range d = outside 1 max_delay d

-- the same of the link at a place
abbrev pub link_out_of_range : List ℕ → ℕ → Bool
link_out_of_range D link = delay_out_of_range (delay_of D link)

-- margin: order 1, 15, 16, 25
abbrev pub margin_rules : ℕ → List ℕ → ℕ → List Rule
margin_rules M D H =
    (refusal FRAME_OUT_OF_RANGE when outside 1 max_frame M)
    ∷ (refusal LINKS_OUT_OF_RANGE when outside 0 max_links (length D))
    ∷ (refusal DEADLINE_OUT_OF_RANGE when outside 0 max_deadline H)
    ∷ naming_lowest DELAY_OUT_OF_RANGE 0 (length D) (link_out_of_range D)
    ∷ []

unfoldable pub margin_answer : ℕ → List ℕ → ℕ → Answer
margin_answer M D H = first (margin_rules M D H) (done_with (margin_of M D H))

-- room: order 1, 16, 25
abbrev pub room_rules : ℕ → ℕ → ℕ → List Rule
room_rules M d H =
    (refusal FRAME_OUT_OF_RANGE when outside 1 max_frame M)
    ∷ (refusal DEADLINE_OUT_OF_RANGE when outside 0 max_deadline H)
    ∷ (refusal DELAY_OUT_OF_RANGE when delay_out_of_range d)
    ∷ []

unfoldable pub room_answer : ℕ → ℕ → ℕ → Answer
room_answer M d H = first (room_rules M d H) (done_with (room_of M d H))

-- fit: order 1, 17, 18
abbrev pub fit_rules : ℕ → ℕ → ℕ → List Rule
fit_rules M P C =
    (refusal FRAME_OUT_OF_RANGE when outside 1 max_frame M)
    ∷ (refusal PERIOD_OUT_OF_RANGE when outside M max_period P)
    ∷ (refusal PERIOD_DOES_NOT_FIT when (eqb C 0 || ltb M (fit_of M P C)))
    ∷ []

unfoldable pub fit_answer : ℕ → ℕ → ℕ → Answer
fit_answer M P C = first (fit_rules M P C) (done_with (pos (fit_of M P C)))

-- cells: order 23
abbrev pub cells_rules : ℕ → List Rule
cells_rules bits = (refusal BITS_OUT_OF_RANGE when outside 1 max_bits bits) ∷ []

unfoldable pub cells_answer : ℕ → Answer
cells_answer bits = first (cells_rules bits) (done_with (pos (cells_for bits)))
