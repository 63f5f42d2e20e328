-- What each call promises: its answer, and every lent number after it. A refusal leaves them as they were.
use Rattle.std.specs.Prelude.{ℕ, ◌≡◌, cond, List, length}
use Rattle.answers.specs.declared.Answer.{Answer}
use Rattle.answers.specs.Answers.{is_done}
use Rattle.answers.specs.Sums.{one}
use Rattle.answers.specs.Buffers.{written}
use Rattle.cycles.specs.Cycle.{Network, links, messages, taken, load_of, marked}
use Rattle.cycles.specs.Judging.{cycle_answer, run_answer}
use Rattle.cycles.specs.Run.{response_of}

-- a buffer after a call that was answered so: done, its first n numbers are f 0, f 1, ..; refused, it is as it was
abbrev pub after_call : Answer → ℕ → (ℕ → ℕ) → List ℕ → List ℕ
after_call a n f B = cond (is_done a) (written n f B) B

-- one cycle in which the messages are ready that the list says; a byte for each message, 1 if it was taken and else 0, and each link's load
pub record Cycled (w : Network) (ready B X : List ℕ) (a : Answer) (B' X' : List ℕ) : Type 0 where
  pub answered : a ≡ cycle_answer w ready (length B) (length X)
  pub messages_taken : B' ≡ after_call a (messages w) (λ i. one (taken w (marked ready) i)) B
  pub loads : X' ≡ after_call a (links w) (load_of w (marked ready)) X

-- a run of cycles from cycle 0 on; each message's response, or its mark
pub record RunOver (w : Network) (releases : List ℕ) (cycles : ℕ) (X : List ℕ) (a : Answer) (X' : List ℕ) : Type 0 where
  pub answered : a ≡ run_answer w releases cycles (length X)
  pub responses : X' ≡ after_call a (messages w) (response_of w releases cycles) X
