-- A row as a part of the table, and what is answered for it: document 01's order 1, 2, 7, 22.
use Rattle.std.specs.Prelude.{ℕ, ◌-◌, ◌*◌, List, [], ◌∷◌, Bool, cond, length, take, drop, pos, ltb}
use Rattle.answers.specs.declared.Answer.{Answer}
use Rattle.answers.specs.Numbers.{FRAME_OUT_OF_RANGE, PORTS_OUT_OF_RANGE, TABLE_TOO_SHORT, OUTPUT_OUT_OF_RANGE}
use Rattle.answers.specs.Limits.{max_frame, max_ports, outside}
use Rattle.answers.specs.Answers.{Rule, refusal, done_with, is_done, ◌when◌, first}

-- the refusals of a row, in their order
abbrev pub row_rules : ℕ → ℕ → ℕ → ℕ → List Rule
row_rules M N size j =
    (refusal FRAME_OUT_OF_RANGE when outside 1 max_frame M)
    ∷ (refusal PORTS_OUT_OF_RANGE when outside 1 max_ports N)
    ∷ (refusal TABLE_TOO_SHORT when ltb size (N * M))
    ∷ (refusal OUTPUT_OUT_OF_RANGE when outside 1 N j)
    ∷ []

-- what is answered for output j of a table of that length
unfoldable pub row_answer : ℕ → ℕ → ℕ → ℕ → Answer
row_answer M N size j = first (row_rules M N size j) (done_with (pos 0))

-- output j's row is there: no refusal is due
abbrev pub row_there : ℕ → ℕ → ℕ → ℕ → Bool
row_there M N size j = is_done (row_answer M N size j)

-- where the part begins, from the table's first byte: (j - 1)·M, and 0 on a refusal
abbrev pub row_start : ℕ → ℕ → ℕ → ℕ → ℕ
row_start M N size j = cond (row_there M N size j) ((j - 1) * M) 0

-- the part: the bytes from (j - 1)·M up to j·M, and none on a refusal
abbrev pub row_part : ℕ → ℕ → List ℕ → ℕ → List ℕ
row_part M N T j = cond (row_there M N (length T) j) (take M (drop ((j - 1) * M) T)) []
