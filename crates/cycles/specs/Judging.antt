-- What a call about cycles refuses, and in which order.
use Rattle.std.specs.Prelude.{ℕ, ◌-◌, Bool, not, ◌||◌, List, [], ◌∷◌, length, pos, eqb, ltb}
use Rattle.answers.specs.declared.Answer.{Answer}
use Rattle.answers.specs.Numbers.{BUFFER_TOO_SMALL, MESSAGE_MISSHAPEN, MESSAGE_ABOVE_WINDOW, CYCLES_MISSIZED}
use Rattle.answers.specs.Limits.{max_cycle_links, max_messages, max_cycles, outside}
use Rattle.answers.specs.Lowest.{holds_somewhere}
use Rattle.answers.specs.Answers.{Rule, refusal, done_with, ◌when◌, naming_lowest, first}
use Rattle.cycles.specs.Cycle.{Network, links, messages, size_of, path_of, in_set, no_room}

-- refusal 34 of a network: too many links, too many messages, or not as many sets as sizes
abbrev pub missized : ℕ → ℕ → ℕ → Bool
missized linkCount messageCount setCount = ltb max_cycle_links linkCount || (ltb max_messages messageCount || not (eqb setCount messageCount))

abbrev pub network_missized : Network → Bool
network_missized w = missized (links w) (messages w) (length w.paths)

-- a set has a link that is not there
abbrev pub link_missing : ℕ → ℕ → Bool
link_missing linkCount set = holds_somewhere linkCount (max_cycle_links - linkCount) (in_set set)

-- refusal 30 of a message: "an empty set, a link that isn't there or size 0"
abbrev pub misshapen : ℕ → ℕ → ℕ → Bool
misshapen linkCount size set = eqb set 0 || (link_missing linkCount set || eqb size 0)

-- refusal 31 of a message: "a size above a window on its path", which is no room for it though nothing was taken
abbrev pub above_window : List ℕ → ℕ → ℕ → Bool
above_window W size set = no_room W (λ l. 0) size set

-- the same of message i
abbrev pub message_misshapen : Network → ℕ → Bool
message_misshapen w i = misshapen (links w) (size_of w i) (path_of w i)

abbrev pub message_above_window : Network → ℕ → Bool
message_above_window w i = above_window w.windows (size_of w i) (path_of w i)

-- the refusals of a call about a network, in their order: 34, 30, 31, 21. Which other lists and numbers 34 judges, and which lent buffers 21, the call says.
abbrev pub network_rules : Network → Bool → Bool → List Rule
network_rules w otherMissized tooShort =
    (refusal CYCLES_MISSIZED when (network_missized w || otherMissized))
    ∷ naming_lowest MESSAGE_MISSHAPEN 0 (messages w) (message_misshapen w)
    ∷ naming_lowest MESSAGE_ABOVE_WINDOW 0 (messages w) (message_above_window w)
    ∷ (refusal BUFFER_TOO_SMALL when tooShort)
    ∷ []

unfoldable pub network_answer : Network → Bool → Bool → Answer
network_answer w otherMissized tooShort = first (network_rules w otherMissized tooShort) (done_with (pos 0))

-- of a cycle, 34 judges the list that says which messages are ready, and 21 the buffers for the messages taken and for the loads
abbrev pub cycle_answer : Network → List ℕ → ℕ → ℕ → Answer
cycle_answer w ready takenRoom loadRoom =
    network_answer w (not (eqb (length ready) (messages w))) (ltb takenRoom (messages w) || ltb loadRoom (links w))

-- of a run, 34 judges the number of cycles and the list of releases, and 21 the buffer for the responses
abbrev pub run_answer : Network → List ℕ → ℕ → ℕ → Answer
run_answer w releases cycles responseRoom =
    network_answer w (outside 1 max_cycles cycles || not (eqb (length releases) (messages w))) (ltb responseRoom (messages w))
