-- The form of a plan text: frame, ports, then none or more flows, a line each, in this order and nothing else.
use Rattle.std.specs.Prelude.{ℕ, ◌*◌, ◌≤◌, ◌≡◌, List, [], ◌∷◌, ◌++◌, length, take}
use Rattle.flows.specs.Flows.{per_flow, flow_count, input_of, output_of, cells_of}
use Rattle.plan_text.specs.Digits.{digits}

abbrev pub line_feed : ℕ
line_feed = 10

abbrev pub comma : ℕ
comma = 44

-- the keys: frame=, ports= and flow=
abbrev pub frame_key : List ℕ
frame_key = 102 ∷ 114 ∷ 97 ∷ 109 ∷ 101 ∷ 61 ∷ []

abbrev pub ports_key : List ℕ
ports_key = 112 ∷ 111 ∷ 114 ∷ 116 ∷ 115 ∷ 61 ∷ []

abbrev pub flow_key : List ℕ
flow_key = 102 ∷ 108 ∷ 111 ∷ 119 ∷ 61 ∷ []

-- a number is 0, or 1 to 5 digits without a leading 0: the digits of a number up to this
abbrev pub max_number : ℕ
max_number = 99999

-- a line of a key and one number
abbrev pub line : List ℕ → ℕ → List ℕ
line key n = key ++ digits n ++ line_feed ∷ []

-- a flow's line: input, output and cells between commas
abbrev pub flow_line : ℕ → ℕ → ℕ → List ℕ
flow_line i j c = flow_key ++ digits i ++ comma ∷ digits j ++ comma ∷ digits c ++ line_feed ∷ []

-- flow k's line
abbrev pub line_of : List ℕ → ℕ → List ℕ
line_of L k = flow_line (input_of L k) (output_of L k) (cells_of L k)

-- the flows' lines, three numbers a flow
unfoldable pub flow_lines : List ℕ → List ℕ
flow_lines [] = []
flow_lines (i ∷ []) = []
flow_lines (i ∷ j ∷ []) = []
flow_lines (i ∷ j ∷ c ∷ L) = flow_line i j c ++ flow_lines L

-- the text of a plan
unfoldable pub text_of_plan : ℕ → ℕ → List ℕ → List ℕ
text_of_plan M N L = line frame_key M ++ line ports_key N ++ flow_lines L

-- every number of the list can be written in a plan text
abbrev pub AllShort : List ℕ → Type 0
AllShort [] = Unit {0}
AllShort (n ∷ L) = (n ≤ max_number) × AllShort L

-- a text of the form, of any length: the text of some frame, some ports and some flows
pub record OfForm (text : List ℕ) : Type 0 where
  pub frame : ℕ
  pub ports : ℕ
  pub list : List ℕ
  pub frame_short : frame ≤ max_number
  pub ports_short : ports ≤ max_number
  pub list_short : AllShort list
  pub of_threes : length list ≡ per_flow * flow_count list
  pub written : text ≡ text_of_plan frame ports list

-- the first p bytes of the text begin some text of the form
pub record Begins (text : List ℕ) (p : ℕ) : Type 0 where
  pub whole : List ℕ
  pub of_form : OfForm whole
  pub within : p ≤ length text
  pub same : take p text ≡ take p whole
  pub there : p ≤ length whole

-- p is the length of the text's longest prefix that begins some text of the form
pub record LongestBeginning (text : List ℕ) (p : ℕ) : Type 0 where
  pub begins : Begins text p
  pub longest : (q : ℕ) → Begins text q → q ≤ p
