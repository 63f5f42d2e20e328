-- What the check answers: document 01's order 1, 2, 3, 4, 7, 8, 9, 10.
use Rattle.std.specs.Prelude.{ℕ, suc, ◌*◌, ◌/◌, ◌≤◌, ◌<◌, ◌≡◌, Bool, not, ◌&&◌, ◌||◌, List, [], ◌∷◌, ◌++◌, length, get_or, pos, eqb, ltb}
use Rattle.answers.specs.declared.Answer.{Answer}
use Rattle.answers.specs.Numbers.{TABLE_TOO_SHORT, ENTRY_NOT_OF_ROW, INPUT_TWICE_IN_SLOT, COUNT_WRONG}
use Rattle.answers.specs.Limits.{max_frame, max_ports, outside, Within}
use Rattle.answers.specs.Lowest.{holds_somewhere}
use Rattle.answers.specs.Answers.{Rule, refusal, done_with, ◌when◌, naming_lowest, first}
use Rattle.answers.specs.Sums.{sum, one}
use Rattle.flows.specs.Flows.{flow_count, input_of, cells_of, goes_to, list_rules}
use Rattle.tables.specs.Accepted.{entry, times}

-- e is not the number of a flow whose output is j
abbrev pub no_flow_of : List ℕ → ℕ → ℕ → Bool
no_flow_of L j e = outside 1 (flow_count L) e || not (goes_to L e j)

-- refusal 8 at place p: the entry is not 0 and no flow of that row
abbrev pub not_of_row : ℕ → List ℕ → List ℕ → ℕ → Bool
not_of_row M L T p = not (eqb (get_or T p 0) 0) && no_flow_of L (suc (p / M)) (get_or T p 0)

-- two rows hold flows of one input at slot s
abbrev pub share_input : ℕ → List ℕ → List ℕ → ℕ → ℕ → ℕ → Bool
share_input M L T s a b =
    not (eqb (entry M T a s) 0) && (not (eqb (entry M T b s) 0) && eqb (input_of L (entry M T a s)) (input_of L (entry M T b s)))

-- refusal 9 at slot s: some row holds a flow of an input that an earlier row holds too
abbrev pub input_twice : ℕ → ℕ → List ℕ → List ℕ → ℕ → Bool
input_twice M N L T s = holds_somewhere 0 N (λ b. holds_somewhere 0 b (λ a. share_input M L T s a b))

-- refusal 10 of flow k: it does not stand in the table as many times as its cells
abbrev pub count_wrong : ℕ → ℕ → List ℕ → List ℕ → ℕ → Bool
count_wrong M N L T k = not (eqb (times M N T k) (cells_of L k))

-- the refusals of the entries of a table that is long enough, in their order
abbrev pub entry_rules : ℕ → ℕ → List ℕ → List ℕ → List Rule
entry_rules M N L T =
    naming_lowest ENTRY_NOT_OF_ROW 0 (N * M) (not_of_row M L T)
    ∷ naming_lowest INPUT_TWICE_IN_SLOT 0 M (input_twice M N L T)
    ∷ naming_lowest COUNT_WRONG 1 (flow_count L) (count_wrong M N L T)
    ∷ []

-- the first of them, or done
unfoldable pub entries_answer : ℕ → ℕ → List ℕ → List ℕ → Answer
entries_answer M N L T = first (entry_rules M N L T) (done_with (pos 0))

-- the refusals of a table: its length, then its entries
abbrev pub table_rules : ℕ → ℕ → List ℕ → List ℕ → List Rule
table_rules M N L T = (refusal TABLE_TOO_SHORT when ltb (length T) (N * M)) ∷ entry_rules M N L T

-- the refusals of the check, in its order: first those that every call with a list gives
abbrev pub check_rules : ℕ → ℕ → List ℕ → List ℕ → List Rule
check_rules M N L T = list_rules M N L ++ table_rules M N L T

unfoldable pub check_answer : ℕ → ℕ → List ℕ → List ℕ → Answer
check_answer M N L T = first (check_rules M N L T) (done_with (pos 0))

-- frame and ports are in range, and the table has a row for each port
pub record Holds (M N : ℕ) (T : List ℕ) : Type 0 where
  pub frame_in_range : Within 1 max_frame M
  pub ports_in_range : Within 1 max_ports N
  pub long_enough : N * M ≤ length T

-- how many of the first places of a table hold number k
unfoldable pub count_in : List ℕ → ℕ → ℕ → ℕ
count_in T end k = sum end (λ p. one (eqb (get_or T p 0) k))

-- the counts of all numbers that a byte can hold
abbrev pub Counted : List ℕ → ℕ → List ℕ → Type 0
Counted T end counts = (k : ℕ) → k < 256 → get_or counts k 0 ≡ count_in T end k
