-- What a run of cycles is held to.
use Rattle.std.specs.Prelude.{ℕ, ◌+◌, ◌≤◌, ◌<◌, ◌≡◌, ◌↔◌, true, false, List}
use Rattle.answers.specs.Numbers.{DONE}
use Rattle.answers.specs.Limits.{max_cycles}
use Rattle.cycles.specs.Cycle.{Network, messages}
use Rattle.cycles.specs.Judging.{run_answer}
use Rattle.cycles.specs.HouseRule.{SameDownTo}
use Rattle.cycles.specs.Run.{STILL_WAITING, RELEASED_PAST_RUN, release_of, taken_in, response_of}

-- no cycle takes a message before its release, and no two cycles take it
abbrev pub TakenFromRelease : Type 0
TakenFromRelease = (w : Network) (R : List ℕ) (t i : ℕ) → taken_in w R t i ≡ true → release_of R i ≤ t

abbrev pub TakenOnce : Type 0
TakenOnce = (w : Network) (R : List ℕ) (t u i : ℕ) → taken_in w R t i ≡ true → taken_in w R u i ≡ true → t ≡ u

-- "its response counts the cycles from release through the one that takes it": as many as from the release's cycle to that one, both counted
abbrev pub ResponseCounts : Type 0
ResponseCounts =
    (w : Network) (R : List ℕ) (cycles t i : ℕ) → t < cycles → taken_in w R t i ≡ true → release_of R i + response_of w R cycles i ≡ t + 1

-- "or is a mark that it still waits": exactly if it is released in the run and no cycle of the run takes it; a response never is that mark
abbrev pub MarkedWaiting : Type 0
MarkedWaiting =
    (w : Network) (R : List ℕ) (cycles i : ℕ) → cycles ≤ max_cycles
    → (response_of w R cycles i ≡ STILL_WAITING) ↔ ((release_of R i < cycles) × ((t : ℕ) → t < cycles → taken_in w R t i ≡ false))

-- "or that its release lies past the run": exactly if it does; a response never is that mark either
abbrev pub MarkedPast : Type 0
MarkedPast =
    (w : Network) (R : List ℕ) (cycles i : ℕ) → cycles ≤ max_cycles
    → (response_of w R cycles i ≡ RELEASED_PAST_RUN) ↔ (cycles ≤ release_of R i)

-- a message's response does not depend on messages of lower priority: they may be others, be more or fewer, and be released when they like
abbrev pub LowerDoNotDelay : Type 0
LowerDoNotDelay =
    (i : ℕ) (w w' : Network) (R R' : List ℕ) (cycles : ℕ)
    → SameDownTo i w w' → ((j : ℕ) → j ≤ i → release_of R j ≡ release_of R' j) → response_of w R cycles i ≡ response_of w' R' cycles i

-- a message's response is at most one more than the number of messages of higher priority, of which message i has i, if the run goes on that long;
-- so it is a response and no mark
abbrev pub ResponseBounded : Type 0
ResponseBounded =
    (w : Network) (R : List ℕ) (cycles room i : ℕ)
    → (run_answer w R cycles room).number ≡ DONE → i < messages w → release_of R i + i + 1 ≤ cycles → response_of w R cycles i ≤ i + 1
