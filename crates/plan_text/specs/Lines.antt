-- The lines that the planner prints: an answer, and an output's row.
use Rattle.std.specs.Prelude.{ℕ, suc, List, [], ◌∷◌, ◌++◌, ℤ, pos, negsuc}
use Rattle.plan_text.specs.Digits.{digits}
use Rattle.plan_text.specs.Form.{comma, line_feed}

-- the keys: answer= and out=
abbrev pub answer_key : List ℕ
answer_key = 97 ∷ 110 ∷ 115 ∷ 119 ∷ 101 ∷ 114 ∷ 61 ∷ []

abbrev pub out_key : List ℕ
out_key = 111 ∷ 117 ∷ 116 ∷ 61 ∷ []

abbrev pub minus : ℕ
minus = 45

-- a signed number: its digits, after a minus sign where it is below zero
abbrev pub signed : ℤ → List ℕ
signed (pos n) = digits n
signed (negsuc n) = minus ∷ digits (suc n)

-- the line of an answer: number, comma, detail
abbrev pub answer_line : ℕ → ℤ → List ℕ
answer_line number detail = answer_key ++ (digits number ++ comma ∷ (signed detail ++ line_feed ∷ []))

-- entries, each after a comma
unfoldable pub joined_tail : List ℕ → List ℕ
joined_tail [] = []
joined_tail (e ∷ row) = comma ∷ (digits e ++ joined_tail row)

-- entries between commas
abbrev pub joined : List ℕ → List ℕ
joined [] = []
joined (e ∷ row) = digits e ++ joined_tail row

-- the line of an output's row: its entries between commas
abbrev pub out_line : List ℕ → List ℕ
out_line row = out_key ++ (joined row ++ line_feed ∷ [])
