-- What the program answers to a text: the reader's answer if it refuses, and otherwise the builder's.
use Rattle.std.specs.Prelude.{ℕ, ◌*◌, ◌≡◌, cond, List, length, drop, pos, Result, Ok, Err}
use Rattle.answers.specs.declared.Answer.{Answer}
use Rattle.answers.specs.Numbers.{DONE}
use Rattle.answers.specs.declared.Refusal.{Refusal}
use Rattle.answers.specs.Answers.{is_done, done_with, refused}
use Rattle.answers.specs.Limits.{max_flows}
use Rattle.flows.specs.Flows.{per_flow, InRange}
use Rattle.tables.specs.Accepted.{Accepted}
use Rattle.builder.specs.Build.{build_answer}
use Rattle.plan_text.specs.Reading.{frame_in, ports_in, list_in}
use Rattle.plan_text.specs.declared.reading.Heading.{Heading}
use Rattle.plan_text.specs.Plans.{read_answer}

-- the numbers that a list of the most flows has: what is lent to the reader
abbrev pub list_room : ℕ
list_room = per_flow * max_flows

-- the reader's answer if it refuses, and otherwise the builder's
unfoldable pub respond_answer : List ℕ → ℕ → Answer
respond_answer text tableLength =
    cond (is_done (read_answer text list_room)) (build_answer (frame_in text) (ports_in text) (list_in text) tableLength) (read_answer text list_room)

-- an answer, with the frame and the ports of the table
pub record Reply : Type 0 where
  pub answer : Answer
  pub frame : ℕ
  pub ports : ℕ

-- as it is handed back: done, with the text's heading; or why it is refused, and then frame and ports are 0
abbrev pub told : Result Heading Refusal → Reply
told (Ok h) = record { answer = done_with (pos 0); frame = h.frame; ports = h.ports }
told (Err e) = record { answer = refused e; frame = 0; ports = 0 }

-- what is handed back beside the table: done, the frame and the ports are the text's, and the table is accepted for its list;
-- refused, the table is as it was, and so are its bytes past N·M always
pub record Responded (text before after : List ℕ) (r : Reply) : Type 0 where
  pub answered : r.answer ≡ respond_answer text (length before)
  pub in_range : r.answer.number ≡ DONE → InRange r.frame r.ports (list_in text)
  pub accepted : r.answer.number ≡ DONE → Accepted (frame_in text) (ports_in text) (list_in text) after
  pub frame_is : r.answer.number ≡ DONE → r.frame ≡ frame_in text
  pub ports_is : r.answer.number ≡ DONE → r.ports ≡ ports_in text
  pub refused_leaves : (r.answer.number ≡ DONE → ⊥) → after ≡ before
  pub beyond : drop (ports_in text * frame_in text) after ≡ drop (ports_in text * frame_in text) before
