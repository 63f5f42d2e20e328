-- The plan text, of the functions: what `PlanText.antt` says of the answers, here of every outcome that the contracts allow, and when each is done.
use Rattle.std.specs.Prelude.{ℕ, ◌*◌, ◌≤◌, ◌≡◌, ◌↔◌, List, length, take, pos}
use Rattle.std.specs.Int.Signed.{mag}
use Rattle.answers.specs.declared.Answer.{Answer}
use Rattle.answers.specs.Numbers.{DONE, TEXT_NOT_OF_FORM}
use Rattle.answers.specs.Limits.{max_text}
use Rattle.answers.specs.Answers.{answer, done_with}
use Rattle.flows.specs.Flows.{per_flow, flow_count, InRange}
use Rattle.plan_text.specs.Plans.{Plan}
use Rattle.plan_text.specs.Form.{text_of_plan, OfForm, LongestBeginning}
use Rattle.plan_text.specs.Reading.{frame_in, ports_in, list_in}
use Rattle.plan_text.specs.Plans.{over}
use Rattle.demands.specs.Calls.{EveryRead, EveryWrite}

-- refusal 20 names n exactly if the text is within its limit and not of the form, and n is the "length of its longest prefix that begins some text of
-- the form, of any length"
abbrev pub NamesLongestOfContract : Type 0
NamesLongestOfContract =
    EveryRead
    (λ text B p B'. (n : ℕ)
    → (p.answer ≡ answer TEXT_NOT_OF_FORM (pos n)) ↔ ((length text ≤ max_text) × (OfForm text → ⊥) × LongestBeginning text n))

-- a text is read with 0 exactly if it is within its limit and of the form, its plan is in range, and its list has room
abbrev pub ReadGiven : Type 0
ReadGiven =
    EveryRead
    (λ text B p B'. (p.answer.number ≡ DONE)
    ↔ ((length text ≤ max_text) × OfForm text × InRange (frame_in text) (ports_in text) (list_in text) × (length (list_in text) ≤ length B)))

-- and a plan is written with 0 exactly if it is in range and its text has room
abbrev pub WriteGiven : Type 0
WriteGiven = EveryWrite (λ M N L X a X'. (a.number ≡ DONE) ↔ (InRange M N L × (length (text_of_plan M N L) ≤ length X)))

-- the list that reading leaves in the lent buffer: three numbers for each flow that the detail counts
abbrev pub list_left : Plan → List ℕ → List ℕ
list_left p B = take (per_flow * mag p.answer.detail) B

-- "Reading then writing gives the same bytes for each text read with 0", where they have room
abbrev pub ReadThenWriteOfContract : Type 0
ReadThenWriteOfContract =
    EveryRead
    (λ text B p B'. p.answer.number ≡ DONE
    → EveryWrite
    (λ M N L X a X'. M ≡ p.frame → N ≡ p.ports → L ≡ list_left p B' → length text ≤ length X
    → (a ≡ done_with (pos (length text))) × (X' ≡ over text X)))

-- the text that writing leaves in the lent buffer: as many bytes as the detail says
abbrev pub text_left : Answer → List ℕ → List ℕ
text_left a X = take (mag a.detail) X

-- "writing then reading gives the same plan for each plan written with 0", where its list has room
abbrev pub WriteThenReadOfContract : Type 0
WriteThenReadOfContract =
    EveryWrite
    (λ M N L X a X'. a.number ≡ DONE
    → EveryRead
    (λ text B p B'. text ≡ text_left a X' → length L ≤ length B
    → (p ≡ record { answer = done_with (pos (flow_count L)); frame = M; ports = N }) × (B' ≡ over L B)))
