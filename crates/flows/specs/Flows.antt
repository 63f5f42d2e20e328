-- The flow list: three numbers a flow, read through the accessors below and in no other way. Flows count from 1, in list order.
use Rattle.std.specs.Prelude.{ℕ, suc, ◌+◌, ◌-◌, ◌*◌, ◌/◌, ◌%◌, ◌≤◌, ◌≡◌, Bool, not, cond, ◌||◌, List, [], ◌∷◌, pos, length, get_or, eqb, ltb}
use Rattle.answers.specs.declared.Answer.{Answer}
use Rattle.answers.specs.Numbers.{FRAME_OUT_OF_RANGE, PORTS_OUT_OF_RANGE, LIST_MISSHAPEN, FLOW_OUT_OF_RANGE}
use Rattle.answers.specs.Limits.{max_frame, max_ports, max_flows, outside, Within}
use Rattle.answers.specs.Answers.{Rule, refusal, done_with, ◌when◌, naming_lowest, first}
use Rattle.answers.specs.Sums.{sum}

-- how many numbers a flow takes in the list
abbrev pub per_flow : ℕ
per_flow = 3

-- the flows K of a list
abbrev pub flow_count : List ℕ → ℕ
flow_count L = length L / per_flow

-- k is the number of a flow of the list
abbrev pub IsFlow : List ℕ → ℕ → Type 0
IsFlow L k = Within 1 (flow_count L) k

-- flow k's input
abbrev pub input_of : List ℕ → ℕ → ℕ
input_of L k = get_or L (per_flow * (k - 1)) 0

-- flow k's output
abbrev pub output_of : List ℕ → ℕ → ℕ
output_of L k = get_or L (per_flow * (k - 1) + 1) 0

-- flow k's cells per frame: its reservation
abbrev pub cells_of : List ℕ → ℕ → ℕ
cells_of L k = get_or L (per_flow * (k - 1) + 2) 0

-- flow k's cells come from input i
abbrev pub comes_from : List ℕ → ℕ → ℕ → Bool
comes_from L k i = eqb (input_of L k) i

-- flow k's cells are for output j
abbrev pub goes_to : List ℕ → ℕ → ℕ → Bool
goes_to L k j = eqb (output_of L k) j

-- flow k's cells are for no output, or for one that is not there
abbrev pub outputs_out_of_range : ℕ → List ℕ → ℕ → Bool
outputs_out_of_range N L k = outside 1 N (output_of L k)

-- refusal 3: the list is not of threes, or over 255 flows
abbrev pub misshapen : List ℕ → Bool
misshapen L = not (eqb (length L % per_flow) 0) || ltb (per_flow * max_flows) (length L)

-- refusal 4: one of flow k's numbers is out of range
abbrev pub flow_out_of_range : ℕ → ℕ → List ℕ → ℕ → Bool
flow_out_of_range M N L k = outside 1 N (input_of L k) || (outputs_out_of_range N L k || outside 1 M (cells_of L k))

-- flow k's cells as they count at a port, taken as an input or as an output: all of them where they come from it or go to it, else none
abbrev pub cells_at : Bool → List ℕ → ℕ → ℕ → ℕ
cells_at asInput L port k = cond (cond asInput (comes_from L k port) (goes_to L k port)) (cells_of L k) 0

-- the cells that an input is asked for: those of its flows, each flow counted by itself
unfoldable pub input_load : List ℕ → ℕ → ℕ
input_load L i = sum (flow_count L) (λ k. cond (comes_from L (suc k) i) (cells_of L (suc k)) 0)

-- the cells that an output is asked for
unfoldable pub output_load : List ℕ → ℕ → ℕ
output_load L j = sum (flow_count L) (λ k. cond (goes_to L (suc k) j) (cells_of L (suc k)) 0)

-- refusals 5 and 6: a port is asked for more than M cells
abbrev pub input_overloaded : ℕ → List ℕ → ℕ → Bool
input_overloaded M L i = ltb M (input_load L i)

abbrev pub output_overloaded : ℕ → List ℕ → ℕ → Bool
output_overloaded M L j = ltb M (output_load L j)

-- the port, taken as an input or as an output, is asked for more than M cells
abbrev pub overloaded : Bool → ℕ → List ℕ → ℕ → Bool
overloaded asInput M L port = cond asInput (input_overloaded M L port) (output_overloaded M L port)

-- the list is of threes, not too many, and each flow's numbers are in range
pub record GoodList (M N : ℕ) (L : List ℕ) : Type 0 where
  pub of_threes : length L ≡ per_flow * flow_count L
  pub not_too_many : flow_count L ≤ max_flows
  pub inputs : (k : ℕ) → IsFlow L k → Within 1 N (input_of L k)
  pub outputs : (k : ℕ) → IsFlow L k → Within 1 N (output_of L k)
  pub cells : (k : ℕ) → IsFlow L k → Within 1 M (cells_of L k)

-- frame, ports and list are in range: none of refusals 1, 2, 3 and 4 is due
pub record InRange (M N : ℕ) (L : List ℕ) : Type 0 where
  pub frame_in_range : Within 1 max_frame M
  pub ports_in_range : Within 1 max_ports N
  pub good_list : GoodList M N L

-- no input and no output is asked for more than M
pub record Fitting (M N : ℕ) (L : List ℕ) : Type 0 where
  pub inputs_fit : (i : ℕ) → Within 1 N i → input_load L i ≤ M
  pub outputs_fit : (j : ℕ) → Within 1 N j → output_load L j ≤ M

-- the refusals of frame, ports and list, which every call that takes a list gives first, in this order
abbrev pub list_rules : ℕ → ℕ → List ℕ → List Rule
list_rules M N L =
    (refusal FRAME_OUT_OF_RANGE when outside 1 max_frame M)
    ∷ (refusal PORTS_OUT_OF_RANGE when outside 1 max_ports N)
    ∷ (refusal LIST_MISSHAPEN when misshapen L)
    ∷ naming_lowest FLOW_OUT_OF_RANGE 1 (flow_count L) (flow_out_of_range M N L)
    ∷ []

-- the first of them, or done
unfoldable pub list_answer : ℕ → ℕ → List ℕ → Answer
list_answer M N L = first (list_rules M N L) (done_with (pos 0))
