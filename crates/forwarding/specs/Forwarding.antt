-- What one call answers, and how a slot serves its outputs. W is the waiting counts, flow 1's first.
use Rattle.std.specs.Prelude.{ℕ, zero, suc, ◌+◌, ◌-◌, ◌*◌, Bool, not, cond, ◌&&◌, ◌||◌, List, [], ◌∷◌, ◌++◌, length, get_or, set, pos, eqb, ltb}
use Rattle.answers.specs.declared.Answer.{Answer}
use Rattle.answers.specs.Numbers.{FRAME_OUT_OF_RANGE, PORTS_OUT_OF_RANGE, TABLE_TOO_SHORT, POSITION_PAST_FRAME, COUNTS_OR_SENT_MISSIZED, FLOW_UNKNOWN, WAITING_FULL, ENTRY_ABOVE_COUNTS}
use Rattle.answers.specs.Limits.{max_frame, max_ports, max_flows, max_waiting, outside}
use Rattle.answers.specs.Answers.{Rule, refusal, done_with, ◌when◌, telling_of_lowest, first}
use Rattle.tables.specs.Accepted.{entry}
use Rattle.forwarding.specs.declared.Running.{Running}

-- flow k's cells waiting; flows count from 1
abbrev pub waiting_of : List ℕ → ℕ → ℕ
waiting_of W k = get_or W (k - 1) 0

-- k is 0 or above the number of waiting counts
abbrev pub unknown : List ℕ → ℕ → Bool
unknown W k = outside 1 (length W) k

-- the refusals of a fresh start, in their order: 1, 2, 12
abbrev pub fresh_start_rules : ℕ → ℕ → List ℕ → List Rule
fresh_start_rules M N W =
    (refusal FRAME_OUT_OF_RANGE when outside 1 max_frame M)
    ∷ (refusal PORTS_OUT_OF_RANGE when outside 1 max_ports N)
    ∷ (refusal COUNTS_OR_SENT_MISSIZED when ltb max_flows (length W))
    ∷ []

-- what a fresh start at frame M and ports N answers
unfoldable pub fresh_start_answer : ℕ → ℕ → List ℕ → Answer
fresh_start_answer M N W = first (fresh_start_rules M N W) (done_with (pos 0))

-- the refusals of an offer, in their order: 12, 13, 14
abbrev pub offer_rules : List ℕ → ℕ → ℕ → List Rule
offer_rules W k n =
    (refusal COUNTS_OR_SENT_MISSIZED when ltb max_flows (length W))
    ∷ (refusal FLOW_UNKNOWN when unknown W k)
    ∷ (refusal WAITING_FULL when ltb max_waiting (waiting_of W k + n))
    ∷ []

-- what an offer of n cells to flow k answers
unfoldable pub offer_answer : List ℕ → ℕ → ℕ → Answer
offer_answer W k n = first (offer_rules W k n) (done_with (pos 0))

-- the entries at the record's position, output 1's first
abbrev pub entries_now : Running → List ℕ → ℕ → ℕ
entries_now r T j = entry r.frame T j r.position

-- where they stand in the table
abbrev pub place_now : Running → ℕ → ℕ
place_now r j = j * r.frame + r.position

-- refusal 28 of output j + 1: its entry at the record's position is above the number of waiting counts
abbrev pub above_counts : Running → List ℕ → ℕ → ℕ → Bool
above_counts r T counts j = ltb counts (entries_now r T j)

-- the refusals of a slot before it looks at an entry, in their order: 1, 2, 7, 12, 11; a table, counts and a sent buffer are judged by their lengths
abbrev pub slot_size_rules : Running → List ℕ → List ℕ → ℕ → List Rule
slot_size_rules r T W sentLength =
    (refusal FRAME_OUT_OF_RANGE when outside 1 max_frame r.frame)
    ∷ (refusal PORTS_OUT_OF_RANGE when outside 1 max_ports r.ports)
    ∷ (refusal TABLE_TOO_SHORT when ltb (length T) (r.ports * r.frame))
    ∷ (refusal COUNTS_OR_SENT_MISSIZED when (ltb max_flows (length W) || ltb sentLength r.ports))
    ∷ (refusal POSITION_PAST_FRAME when not (ltb r.position r.frame))
    ∷ []

-- the first of them, or done
unfoldable pub slot_size_answer : Running → List ℕ → List ℕ → ℕ → Answer
slot_size_answer r T W sentLength = first (slot_size_rules r T W sentLength) (done_with (pos 0))

-- then 28 with the place in the table, looking only at the record's position, lowest output first
abbrev pub slot_entry_rules : Running → List ℕ → List ℕ → List Rule
slot_entry_rules r T W = telling_of_lowest ENTRY_ABOVE_COUNTS (place_now r) 0 r.ports (above_counts r T (length W)) ∷ []

-- the refusals of a slot, in their order: 1, 2, 7, 12, 11, 28
abbrev pub slot_rules : Running → List ℕ → List ℕ → ℕ → List Rule
slot_rules r T W sentLength = slot_size_rules r T W sentLength ++ slot_entry_rules r T W

-- what a slot answers, lent the table T and a sent buffer of that length
unfoldable pub slot_answer : Running → List ℕ → List ℕ → ℕ → Answer
slot_answer r T W sentLength = first (slot_rules r T W sentLength) (done_with (pos 0))

-- the counts with n cells more of flow k
abbrev pub added : List ℕ → ℕ → ℕ → List ℕ
added W k n = set W (k - 1) (waiting_of W k + n)

-- entry e sends: it is a flow number from 1 to the number of waiting counts, and that flow has a cell waiting
abbrev pub sends : List ℕ → ℕ → Bool
sends W e = not (unknown W e) && ltb 0 (waiting_of W e)

-- the output's byte: the flow number where the entry sends, otherwise 0
abbrev pub sent_byte : List ℕ → ℕ → ℕ
sent_byte W e = cond (sends W e) e 0

-- the counts then: one cell is taken where the entry sends
abbrev pub taken : List ℕ → ℕ → List ℕ
taken W e = cond (sends W e) (set W (e - 1) (waiting_of W e - 1)) W

-- the counts once the first outputs were served, in order; f 0, f 1, .. are the entries of outputs 1, 2, ..
unfoldable pub served : ℕ → (ℕ → ℕ) → List ℕ → List ℕ
served zero f W = W
served (suc r) f W = taken (served r f W) (f r)

-- the byte of output r + 1: what its entry sends of the cells that the outputs before it left
abbrev pub output_byte : (ℕ → ℕ) → List ℕ → ℕ → ℕ
output_byte f W r = sent_byte (served r f W) (f r)

-- the position goes up by one, from M - 1 to 0
abbrev pub next_position : ℕ → ℕ → ℕ
next_position M p = cond (eqb (p + 1) M) 0 (p + 1)
