-- What the reader and the writer answer and leave, refusals included.
use Rattle.std.specs.Prelude.{ℕ, min, ◌+◌, ◌≤◌, ◌≡◌, not, cond, List, [], ◌∷◌, ◌++◌, map, length, get_or, take, drop, pos, ltb, Result, Ok, Err}
use Rattle.answers.specs.declared.Answer.{Answer}
use Rattle.answers.specs.declared.Refusal.{Refusal}
use Rattle.answers.specs.declared.Refusal.TheVariants.{TextNotOfForm}
use Rattle.answers.specs.Numbers.{TEXT_TOO_LONG, TEXT_NOT_OF_FORM, BUFFER_TOO_SMALL}
use Rattle.answers.specs.Limits.{max_text}
use Rattle.answers.specs.Answers.{Rule, answer, refusal, refused, done_with, is_done, ◌when◌, first}
use Rattle.flows.specs.Flows.{flow_count, list_rules}
use Rattle.plan_text.specs.declared.reading.Heading.{Heading}
use Rattle.plan_text.specs.declared.writer.Writer.{Writer}
use Rattle.plan_text.specs.Form.{text_of_plan}
use Rattle.plan_text.specs.Reading.{start, lived, numbers_in, is_of_form, frame_in, ports_in, list_in}

-- the buffer with the list at its front; what lies past it stays
abbrev pub over : List ℕ → List ℕ → List ℕ
over front buffer = front ++ drop (length front) buffer

-- the largest number of 16 bits
abbrev pub max_word : ℕ
max_word = 65535

-- the numbers as 16 bits keep them
abbrev pub in_words : List ℕ → List ℕ
in_words ns = map (λ n. min n max_word) ns

-- what a scan of a text finds: its numbers as 16 bits keep them, or how far its bytes are those of the form
abbrev pub scanned : List ℕ → Result (List ℕ) Refusal
scanned text = cond (is_of_form text) (Ok (in_words (numbers_in start text))) (Err (TextNotOfForm (lived start text)))

-- the same of a scan that leaves the numbers in a lent list
abbrev pub with_numbers : List ℕ → Result (Unit {0}) Refusal → Result (List ℕ) Refusal
with_numbers ns (Ok u) = Ok ns
with_numbers ns (Err r) = Err r

-- what reading hands back: its answer, beside frame and ports
pub record Plan : Type 0 where
  pub answer : Answer
  pub frame : ℕ
  pub ports : ℕ

abbrev pub plan_of : Answer → ℕ → ℕ → Plan
plan_of a M N = record { answer = a; frame = M; ports = N }

-- as a call hands it back: done with the flow count, frame and ports; or why it refuses, and both are 0
abbrev pub handed : Result Heading Refusal → Plan
handed (Ok h) = plan_of (done_with (pos h.flows)) h.frame h.ports
handed (Err r) = plan_of (refused r) 0 0

-- an answer with frame and ports beside it, both 0 on a refusal
abbrev pub plan_if_done : Answer → ℕ → ℕ → Plan
plan_if_done a M N = plan_of a (cond (is_done a) M 0) (cond (is_done a) N 0)

-- the buffer with the list at its front, unchanged on a refusal
abbrev pub over_if_done : Answer → List ℕ → List ℕ → List ℕ
over_if_done a front buffer = cond (is_done a) (over front buffer) buffer

-- the refusals of a plan, and then 21, where the answer needs more than the buffer has room for
abbrev pub room_rules : ℕ → ℕ → List ℕ → ℕ → ℕ → List Rule
room_rules M N L room needed = list_rules M N L ++ (refusal BUFFER_TOO_SMALL when ltb room needed) ∷ []

-- the refusals of a plan that is to be taken over into a buffer with room for so many numbers
abbrev pub take_rules : ℕ → ℕ → List ℕ → ℕ → List Rule
take_rules M N L room = room_rules M N L room (length L)

unfoldable pub take_answer : ℕ → ℕ → List ℕ → ℕ → Answer
take_answer M N L room = first (take_rules M N L room) (done_with (pos (flow_count L)))

-- a plan taken over from its numbers, frame and ports first
unfoldable pub taken_plan : List ℕ → ℕ → Plan
taken_plan ns room = plan_if_done (take_answer (get_or ns 0 0) (get_or ns 1 0) (drop 2 ns) room) (get_or ns 0 0) (get_or ns 1 0)

unfoldable pub taken_into : List ℕ → List ℕ → List ℕ
taken_into ns buffer = over_if_done (take_answer (get_or ns 0 0) (get_or ns 1 0) (drop 2 ns) (length buffer)) (drop 2 ns) buffer

-- read: order 19, 20, 1, 2, 3, 4, 21; 3 judges the text's flows, not the lent buffer
abbrev pub read_rules : List ℕ → ℕ → List Rule
read_rules text room =
    (refusal TEXT_TOO_LONG when ltb max_text (length text))
    ∷ (answer TEXT_NOT_OF_FORM (pos (lived start text)) when not (is_of_form text))
    ∷ take_rules (frame_in text) (ports_in text) (list_in text) room

-- done, the detail is the flow count
unfoldable pub read_answer : List ℕ → ℕ → Answer
read_answer text room = first (read_rules text room) (done_with (pos (flow_count (list_in text))))

-- what reading hands back
unfoldable pub read_plan : List ℕ → ℕ → Plan
read_plan text room = plan_if_done (read_answer text room) (frame_in text) (ports_in text)

-- the lent buffer after reading
unfoldable pub read_into : List ℕ → List ℕ → List ℕ
read_into text buffer = over_if_done (read_answer text (length buffer)) (list_in text) buffer

-- write: order 1, 2, 3, 4, 21; done, the detail is the bytes written
abbrev pub write_rules : ℕ → ℕ → List ℕ → ℕ → List Rule
write_rules M N L room = room_rules M N L room (length (text_of_plan M N L))

unfoldable pub write_answer : ℕ → ℕ → List ℕ → ℕ → Answer
write_answer M N L room = first (write_rules M N L room) (done_with (pos (length (text_of_plan M N L))))

-- the lent buffer after writing
unfoldable pub written_into : ℕ → ℕ → List ℕ → List ℕ → List ℕ
written_into M N L buffer = over_if_done (write_answer M N L (length buffer)) (text_of_plan M N L) buffer

-- bytes were put into a buffer from a place on: what stood before it stays, they follow, next is the place after them, and what stood from there on stays
pub record Put (before : List ℕ) (at : ℕ) (bytes after : List ℕ) (next : ℕ) : Type 0 where
  pub next_is : next ≡ at + length bytes
  pub front : take next after ≡ take at before ++ bytes
  pub beyond : drop next after ≡ drop next before

-- the same of a writer: it still writes into the buffer that it was lent
pub record Puts (before : Writer) (bytes : List ℕ) (after : Writer) : Type 0 where
  pub same_buffer : after.out.ghost_name ≡ before.out.ghost_name
  pub as_long : length after.out.now ≡ length before.out.now
  pub put : Put before.out.now before.at bytes after.out.now after.at

-- its buffer has room for so many bytes more
abbrev pub HasRoom : Writer → List ℕ → Type 0
HasRoom w bytes = w.at + length bytes ≤ length w.out.now
