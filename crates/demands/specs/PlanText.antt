-- The plan text: one form, which is what the reader accepts and the writer writes, and nothing else.
use Rattle.std.specs.Prelude.{ℕ, ◌+◌, ◌*◌, ◌≤◌, ◌<◌, ◌≡◌, ◌↔◌, true, List, [], ◌∷◌, length, get_or, take, pos}
use Rattle.std.specs.Int.Signed.{mag}
use Rattle.answers.specs.Numbers.{DONE, TEXT_NOT_OF_FORM}
use Rattle.answers.specs.Limits.{max_text, Within}
use Rattle.answers.specs.Answers.{answer, done_with}
use Rattle.flows.specs.Flows.{per_flow, flow_count}
use Rattle.plan_text.specs.Digits.{zero_byte, digits}
use Rattle.plan_text.specs.Form.{max_number, text_of_plan, OfForm, LongestBeginning}
use Rattle.plan_text.specs.Reading.{is_of_form, frame_in, ports_in, list_in}
use Rattle.plan_text.specs.Plans.{over, read_answer, read_plan, read_into, write_answer, written_into}

-- "A number is 0, or 1 to 5 digits without a leading 0."
pub record IsNumber (bytes : List ℕ) : Type 0 where
  pub all_digits : (p : ℕ) → p < length bytes → Within zero_byte (zero_byte + 9) (get_or bytes p 0)
  pub some : 1 ≤ length bytes
  pub at_most_five : length bytes ≤ 5
  pub no_leading_zero : get_or bytes 0 0 ≡ zero_byte → length bytes ≡ 1

-- such bytes are exactly the digits of a number up to the largest, and each number has one way to be written
abbrev pub NumbersWritten : Type 0
NumbersWritten = (bytes : List ℕ) → IsNumber bytes ↔ ((n : ℕ) × (n ≤ max_number) × (bytes ≡ digits n))

abbrev pub WrittenOneWay : Type 0
WrittenOneWay = (m n : ℕ) → m ≤ max_number → n ≤ max_number → digits m ≡ digits n → m ≡ n

-- "A whole text (49 bytes)": plan A
abbrev pub PlanA : Type 0
PlanA =
    text_of_plan 5 4 (1 ∷ 1 ∷ 3 ∷ 1 ∷ 2 ∷ 2 ∷ 2 ∷ 1 ∷ 2 ∷ [])
    ≡ (102 ∷ 114 ∷ 97 ∷ 109 ∷ 101 ∷ 61 ∷ 53 ∷ 10 ∷ 112 ∷ 111 ∷ 114 ∷ 116 ∷ 115 ∷ 61 ∷ 52 ∷ 10
    ∷ 102 ∷ 108 ∷ 111 ∷ 119 ∷ 61 ∷ 49 ∷ 44 ∷ 49 ∷ 44 ∷ 51 ∷ 10
    ∷ 102 ∷ 108 ∷ 111 ∷ 119 ∷ 61 ∷ 49 ∷ 44 ∷ 50 ∷ 44 ∷ 50 ∷ 10
    ∷ 102 ∷ 108 ∷ 111 ∷ 119 ∷ 61 ∷ 50 ∷ 44 ∷ 49 ∷ 44 ∷ 50 ∷ 10 ∷ [])

-- "Nothing else is allowed.": the reader takes a text to be of the form exactly if it is
abbrev pub AcceptsTheForm : Type 0
AcceptsTheForm = (text : List ℕ) → (is_of_form text ≡ true) ↔ OfForm text

-- it finds the plan that the text was written from, whose text is the text again, so that a text has one plan
abbrev pub FindsThePlan : Type 0
FindsThePlan = (text : List ℕ) (o : OfForm text) → (frame_in text ≡ o.frame) × (ports_in text ≡ o.ports) × (list_in text ≡ o.list)

abbrev pub TextOfThePlan : Type 0
TextOfThePlan = (text : List ℕ) → OfForm text → text_of_plan (frame_in text) (ports_in text) (list_in text) ≡ text

abbrev pub OnePlan : Type 0
OnePlan = (text : List ℕ) (a b : OfForm text) → (a.frame ≡ b.frame) × (a.ports ≡ b.ports) × (a.list ≡ b.list)

-- refusal 20 names p exactly if the text is within its limit and not of the form, and p is the "length of its longest prefix that begins some text of the form, of any length"
abbrev pub NamesLongest : Type 0
NamesLongest =
    (text : List ℕ) (room p : ℕ)
    → (read_answer text room ≡ answer TEXT_NOT_OF_FORM (pos p)) ↔ ((length text ≤ max_text) × (OfForm text → ⊥) × LongestBeginning text p)

-- the list that reading leaves in the lent buffer: three numbers for each flow that the detail counts
abbrev pub list_read : List ℕ → List ℕ → List ℕ
list_read text buffer = take (per_flow * mag (read_plan text (length buffer)).answer.detail) (read_into text buffer)

-- the frame and the ports that it hands back
abbrev pub frame_read : List ℕ → List ℕ → ℕ
frame_read text buffer = (read_plan text (length buffer)).frame

abbrev pub ports_read : List ℕ → List ℕ → ℕ
ports_read text buffer = (read_plan text (length buffer)).ports

-- the text that writing leaves in the lent buffer: as many bytes as the detail says
abbrev pub text_written : ℕ → ℕ → List ℕ → List ℕ → List ℕ
text_written M N L space = take (mag (write_answer M N L (length space)).detail) (written_into M N L space)

-- "Reading then writing gives the same bytes for each text read with 0", where they have room
abbrev pub ReadThenWrite : Type 0
ReadThenWrite =
    (text buffer space : List ℕ) → (read_plan text (length buffer)).answer.number ≡ DONE → length text ≤ length space
    → (write_answer (frame_read text buffer) (ports_read text buffer) (list_read text buffer) (length space) ≡ done_with (pos (length text)))
    × (written_into (frame_read text buffer) (ports_read text buffer) (list_read text buffer) space ≡ over text space)

-- "writing then reading gives the same plan for each plan written with 0", where its list has room
abbrev pub WriteThenRead : Type 0
WriteThenRead =
    (M N : ℕ) (L space buffer : List ℕ) → (write_answer M N L (length space)).number ≡ DONE → length L ≤ length buffer
    → (read_plan (text_written M N L space) (length buffer) ≡ record { answer = done_with (pos (flow_count L)); frame = M; ports = N })
    × (read_into (text_written M N L space) buffer ≡ over L buffer)
