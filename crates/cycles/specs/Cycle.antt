-- Links and messages of a network, and what one cycle takes. Links, messages and cycles count from 0.
use Rattle.std.specs.Prelude.{ℕ, zero, suc, ◌+◌, ◌/◌, ◌%◌, ◌^◌, Bool, not, cond, ◌&&◌, List, length, get_or, eqb, ltb}
use Rattle.answers.specs.Lowest.{holds_somewhere}

-- the links' windows, in slots; and the messages in priority order, the highest first: their sizes, in slots, and their sets of links
pub record Network : Type 0 where
  pub windows : List ℕ
  pub sizes : List ℕ
  pub paths : List ℕ

abbrev pub network : List ℕ → List ℕ → List ℕ → Network
network W S P = record { windows = W; sizes = S; paths = P }

abbrev pub links : Network → ℕ
links w = length w.windows

abbrev pub messages : Network → ℕ
messages w = length w.sizes

abbrev pub window_of : Network → ℕ → ℕ
window_of w l = get_or w.windows l 0

abbrev pub size_of : Network → ℕ → ℕ
size_of w i = get_or w.sizes i 0

abbrev pub path_of : Network → ℕ → ℕ
path_of w i = get_or w.paths i 0

-- link l is in a set of links: bit l of the number is 1
abbrev pub in_set : ℕ → ℕ → Bool
in_set set l = eqb (set / 2 ^ l % 2) 1

-- link l is one of message i's links
abbrev pub on_path : Network → ℕ → ℕ → Bool
on_path w i l = in_set (path_of w i) l

-- a message of that size and set is too much for link l, on which so much was taken before: the link is in its set, and both together are above the window
abbrev pub too_much : List ℕ → (ℕ → ℕ) → ℕ → ℕ → ℕ → Bool
too_much W load size set l = in_set set l && ltb (get_or W l 0) (load l + size)

-- it is too much for one of the links
abbrev pub no_room : List ℕ → (ℕ → ℕ) → ℕ → ℕ → Bool
no_room W load size set = holds_somewhere 0 (length W) (too_much W load size set)

-- "one is taken exactly if on each of its links the sizes taken so far plus its own are at most that link's window"
abbrev pub takes : Network → (ℕ → Bool) → (ℕ → ℕ) → ℕ → Bool
takes w ready load i = ready i && not (no_room w.windows load (size_of w i) (path_of w i))

-- what a message of that size and set puts on link l once it is taken
abbrev pub share : ℕ → ℕ → ℕ → ℕ
share size set l = cond (in_set set l) size 0

-- the slots taken on link l once the first messages were looked at, in order; a message that is held adds none
unfoldable pub load_after : Network → (ℕ → Bool) → ℕ → ℕ → ℕ
load_after w ready zero l = 0
load_after w ready (suc i) l =
    load_after w ready i l + cond (takes w ready (load_after w ready i) i) (share (size_of w i) (path_of w i) l) 0

-- a cycle in which these messages are ready takes message i
abbrev pub taken : Network → (ℕ → Bool) → ℕ → Bool
taken w ready i = takes w ready (load_after w ready i) i

-- the load of link l in that cycle
abbrev pub load_of : Network → (ℕ → Bool) → ℕ → ℕ
load_of w ready l = load_after w ready (messages w) l

-- byte i of a list is not 0: so a list of bytes says which messages are ready, and which were taken
abbrev pub marked : List ℕ → ℕ → Bool
marked B i = not (eqb (get_or B i 0) 0)
