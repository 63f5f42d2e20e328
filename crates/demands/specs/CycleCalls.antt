-- The shore network, of the functions: when 34 is not due for a call, when 30 and 31 are given and which message each names, what a done call tells, and
-- how large a response may be that a run leaves.
use Rattle.std.specs.Prelude.{ℕ, ◌+◌, ◌≤◌, ◌<◌, ◌≡◌, ◌↔◌, List, length, get_or, pos}
use Rattle.answers.specs.declared.Answer.{Answer}
use Rattle.answers.specs.Numbers.{DONE, MESSAGE_MISSHAPEN, MESSAGE_ABOVE_WINDOW}
use Rattle.answers.specs.Limits.{max_cycle_links, max_messages, max_cycles, Within}
use Rattle.answers.specs.Lowest.{IsLowest}
use Rattle.answers.specs.Answers.{answer}
use Rattle.cycles.specs.Cycle.{Network, links, messages}
use Rattle.cycles.specs.Run.{release_of}
use Rattle.cycles.specs.Judging.{cycle_answer, run_answer}
use Rattle.cycles.specs.Refusals.{Misshapen, AboveWindow}
use Rattle.demands.specs.Calls.{EveryCycle, EveryRun}

-- 34 is not due for a network: not more links or messages than there may be, and a set for each message
pub record NetworkAsked (w : Network) : Type 0 where
  pub few_links : links w ≤ max_cycle_links
  pub few_messages : messages w ≤ max_messages
  pub as_many_sets : length w.paths ≡ messages w

-- nor for a cycle: a ready byte for each message
pub record CycleAsked (w : Network) (ready : List ℕ) : Type 0 where
  pub network_asked : NetworkAsked w
  pub as_many_ready : length ready ≡ messages w

-- nor for a run: "1 to 1,024 cycles", and a release for each message
pub record RunAsked (w : Network) (releases : List ℕ) (cycles : ℕ) : Type 0 where
  pub network_asked : NetworkAsked w
  pub cycles_in_range : Within 1 max_cycles cycles
  pub as_many_releases : length releases ≡ messages w

-- a call that answers a refuses with 30, naming message k, exactly if 34 is not due and k is the lowest such message
abbrev pub CallNamesMisshapen : Type 0 → Network → Answer → Type 0
CallNamesMisshapen NotDue w a = (k : ℕ) → (a ≡ answer MESSAGE_MISSHAPEN (pos k)) ↔ (NotDue × IsLowest 0 (messages w) (Misshapen w) k)

-- and with 31, naming message k, exactly if 34 is not due, no message is refused with 30, and k is the lowest with a size above a window on its path
abbrev pub CallNamesAboveWindow : Type 0 → Network → Answer → Type 0
CallNamesAboveWindow NotDue w a =
    (k : ℕ)
    → (a ≡ answer MESSAGE_ABOVE_WINDOW (pos k))
    ↔ ((NotDue × ((i : ℕ) → i < messages w → Misshapen w i → ⊥)) × IsLowest 0 (messages w) (AboveWindow w) k)

-- where it is done, no message has a size above a window on its path
abbrev pub DoneWithinWindows : Network → Answer → Type 0
DoneWithinWindows w a = a.number ≡ DONE → (i : ℕ) → i < messages w → AboveWindow w i → ⊥

-- all three of a cycle and of a run
pub record Refuses (NotDue : Type 0) (w : Network) (a : Answer) : Type 0 where
  pub names_misshapen : CallNamesMisshapen NotDue w a
  pub names_above_window : CallNamesAboveWindow NotDue w a
  pub done_within_windows : DoneWithinWindows w a

-- whatever room the lent buffers have
abbrev pub CycleRefuses : Type 0
CycleRefuses =
    (w : Network) (ready : List ℕ) (takenRoom loadRoom : ℕ) → Refuses (CycleAsked w ready) w (cycle_answer w ready takenRoom loadRoom)

abbrev pub RunRefuses : Type 0
RunRefuses =
    (w : Network) (releases : List ℕ) (cycles responseRoom : ℕ)
    → Refuses (RunAsked w releases cycles) w (run_answer w releases cycles responseRoom)

-- so does every call
abbrev pub CycleRefusesOfContract : Type 0
CycleRefusesOfContract = EveryCycle (λ w ready B X a B' X'. Refuses (CycleAsked w ready) w a)

abbrev pub RunRefusesOfContract : Type 0
RunRefusesOfContract = EveryRun (λ w R cycles X a X'. Refuses (RunAsked w R cycles) w a)

-- and the responses that a run leaves in the lent buffer are bounded: at most one more than the number of messages of higher priority, if the run goes on that long
abbrev pub ResponsesLeftBounded : Type 0
ResponsesLeftBounded =
    EveryRun
    (λ w R cycles X a X'. a.number ≡ DONE → (i : ℕ) → i < messages w → release_of R i + i + 1 ≤ cycles → get_or X' i 0 ≤ i + 1)
