-- What the functions inside the crate promise each other: loads, what a cycle took, and what a run knows between its cycles. X is the loads so far.
use Rattle.std.specs.Prelude.{ℕ, ◌+◌, ◌≤◌, ◌<◌, ◌≡◌, Bool, false, List, Option, None, length, get_or}
use Rattle.answers.specs.Limits.{max_cycle_links, max_messages}
use Rattle.answers.specs.Lowest.{found}
use Rattle.cycles.specs.declared.taking.Taken.{Taken}
use Rattle.cycles.specs.Cycle.{Network, links, messages, share, taken, load_of}
use Rattle.cycles.specs.Run.{taken_in}

abbrev pub load_in : List ℕ → ℕ → ℕ
load_in X l = get_or X l 0

-- with the message's share each of the links' loads is still a number of 16 bits
abbrev pub AllFit : ℕ → ℕ → ℕ → List ℕ → Type 0
AllFit size set links X = (l : ℕ) → l < links → load_in X l + share size set l < 65536

-- a cycle in which these messages are ready takes just the messages told, and leaves the loads told
pub record Took (w : Network) (ready : ℕ → Bool) (t : Taken) : Type 0 where
  pub messages_taken : (i : ℕ) → i < messages w → get_or t.messages i false ≡ taken w ready i
  pub loads : (l : ℕ) → l < links w → load_in t.loads l ≡ load_of w ready l

-- of each message it is told which of the cycles before t of a run took it, if one did
abbrev pub TookBefore : Network → List ℕ → ℕ → List (Option ℕ) → Type 0
TookBefore w R t T = (i : ℕ) → i < messages w → get_or T i None ≡ found 0 t (λ u. taken_in w R u i)

-- what a run asks of its lists' lengths
pub record RunSized (W S P R X : List ℕ) : Type 0 where
  pub few_links : length W ≤ max_cycle_links
  pub few_messages : length S ≤ max_messages
  pub as_many_sets : length P ≡ length S
  pub as_many_releases : length R ≡ length S
  pub room : length S ≤ length X
