-- The list, in every call that takes one: which flow refusal 4 names, and when.
use Rattle.std.specs.Prelude.{ℕ, ◌*◌, ◌≤◌, ◌≡◌, ◌↔◌, List, length, pos}
use Rattle.answers.specs.declared.Answer.{Answer}
use Rattle.answers.specs.Numbers.{FLOW_OUT_OF_RANGE}
use Rattle.answers.specs.Limits.{max_frame, max_ports, max_flows, max_text, Within}
use Rattle.answers.specs.Lowest.{IsLowest}
use Rattle.answers.specs.Answers.{answer}
use Rattle.flows.specs.Flows.{per_flow, flow_count, input_of, output_of, cells_of}
use Rattle.plan_text.specs.Form.{OfForm}
use Rattle.plan_text.specs.Reading.{frame_in, ports_in, list_in}
use Rattle.demands.specs.Calls.{EveryCheck, EveryBuild, EveryRead, EveryWrite}

-- frame, ports and the shape of the list are right: 1, 2 and 3 are not due
pub record Shaped (M N : ℕ) (L : List ℕ) : Type 0 where
  pub frame_in_range : Within 1 max_frame M
  pub ports_in_range : Within 1 max_ports N
  pub of_threes : length L ≡ per_flow * flow_count L
  pub not_too_many : flow_count L ≤ max_flows

-- "a flow's number out of range"
abbrev pub OutOfRange : ℕ → ℕ → List ℕ → ℕ → Type 0
OutOfRange M N L k = Within 1 N (input_of L k) × Within 1 N (output_of L k) × Within 1 M (cells_of L k) → ⊥

-- 4 names flow k exactly if ranges and shape are right and k is the lowest that is out of range
abbrev pub NamesOutOfRange : ℕ → ℕ → List ℕ → Answer → Type 0
NamesOutOfRange M N L a = (k : ℕ) → (a ≡ answer FLOW_OUT_OF_RANGE (pos k)) ↔ (Shaped M N L × IsLowest 1 (flow_count L) (OutOfRange M N L) k)

abbrev pub CheckNamesOutOfRange : Type 0
CheckNamesOutOfRange = EveryCheck (λ M N L T a. NamesOutOfRange M N L a)

abbrev pub BuildNamesOutOfRange : Type 0
BuildNamesOutOfRange = EveryBuild (λ M N L T a T'. NamesOutOfRange M N L a)

abbrev pub WriteNamesOutOfRange : Type 0
WriteNamesOutOfRange = EveryWrite (λ M N L X a X'. NamesOutOfRange M N L a)

-- in reading, of the text's own flows, and only where the text is of the form and within its limit
abbrev pub ReadNamesOutOfRange : Type 0
ReadNamesOutOfRange =
    EveryRead
    (λ text B p B'. (k : ℕ)
    → (p.answer ≡ answer FLOW_OUT_OF_RANGE (pos k))
    ↔ ((length text ≤ max_text) × OfForm text × Shaped (frame_in text) (ports_in text) (list_in text)
    × IsLowest 1 (flow_count (list_in text)) (OutOfRange (frame_in text) (ports_in text) (list_in text)) k))
