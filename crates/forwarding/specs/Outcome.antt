-- What a fresh start or a slot comes to.
use Rattle.std.specs.Prelude.{Result, Ok, Err, pos}
use Rattle.answers.specs.declared.Answer.{Answer}
use Rattle.answers.specs.declared.Refusal.{Refusal}
use Rattle.answers.specs.Answers.{done_with, refused}
use Rattle.forwarding.specs.declared.Running.{Running}

-- its answer, and the record after it
pub record Outcome : Type 0 where
  pub answer : Answer
  pub running : Running

abbrev pub outcome : Answer → Running → Outcome
outcome a r = record { answer = a; running = r }

-- of a call that was given record r: done with the record that it hands back, or refused, and then r still stands
abbrev pub handed : Running → Result Running Refusal → Outcome
handed r (Ok r') = outcome (done_with (pos 0)) r'
handed r (Err e) = outcome (refused e) r
