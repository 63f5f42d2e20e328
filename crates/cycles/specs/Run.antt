-- A run of cycles: each message is released once, and is ready from then on until a cycle takes it. R is the cycles of their releases.
use Rattle.std.specs.Prelude.{ℕ, zero, suc, ◌+◌, ◌-◌, Bool, false, not, cond, ◌&&◌, ◌||◌, List, get_or, leb, ltb}
use Rattle.answers.specs.Lowest.{lowest}
use Rattle.cycles.specs.Cycle.{Network, taken}

-- the mark that a message still waits when the run ends, and the mark that its release lies past the run
abbrev pub STILL_WAITING : ℕ
STILL_WAITING = 65535

abbrev pub RELEASED_PAST_RUN : ℕ
RELEASED_PAST_RUN = 65534

abbrev pub release_of : List ℕ → ℕ → ℕ
release_of R i = get_or R i 0

-- message i is ready in cycle t: it is released by then, and no earlier cycle took it
abbrev pub waits : List ℕ → ℕ → (ℕ → Bool) → ℕ → Bool
waits R t takenEarlier i = leb (release_of R i) t && not (takenEarlier i)

-- one of the cycles before t took message i
unfoldable pub taken_before : Network → List ℕ → ℕ → ℕ → Bool
taken_before w R zero i = false
taken_before w R (suc t) i = taken_before w R t i || taken w (waits R t (taken_before w R t)) i

abbrev pub ready_in : Network → List ℕ → ℕ → ℕ → Bool
ready_in w R t i = waits R t (taken_before w R t) i

-- cycle t takes message i
abbrev pub taken_in : Network → List ℕ → ℕ → ℕ → Bool
taken_in w R t i = taken w (ready_in w R t) i

-- the mark of a message that no cycle took
abbrev pub mark_for : ℕ → ℕ → ℕ
mark_for release cycles = cond (ltb release cycles) STILL_WAITING RELEASED_PAST_RUN

-- the cycles from release through cycle t, both counted
abbrev pub cycles_through : ℕ → ℕ → ℕ
cycles_through release t = t - release + 1

-- what is known of message i's response once the first t cycles of a run are over: it counts the cycles from its release through the one that took it, or is a mark
abbrev pub response_by : Network → List ℕ → ℕ → ℕ → ℕ → ℕ
response_by w R cycles t i =
    cond (taken_before w R t i) (cycles_through (release_of R i) (lowest 0 t (λ u. taken_in w R u i))) (mark_for (release_of R i) cycles)

-- its response, or its mark, in a run of that many cycles
abbrev pub response_of : Network → List ℕ → ℕ → ℕ → ℕ
response_of w R cycles i = response_by w R cycles cycles i
