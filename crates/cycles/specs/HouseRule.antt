-- What one cycle is held to, whichever messages are ready in it: that of a call, and each cycle of a run.
use Rattle.std.specs.Prelude.{ℕ, ◌+◌, ◌≤◌, ◌<◌, ◌≡◌, ◌↔◌, Bool, true, false, cond, ◌&&◌}
use Rattle.answers.specs.Sums.{sum}
use Rattle.cycles.specs.Cycle.{Network, links, messages, window_of, size_of, path_of, on_path, taken, load_of}
use Rattle.cycles.specs.Judging.{message_above_window}

-- "the sizes taken so far" on link l, before message i
abbrev pub taken_so_far : Network → (ℕ → Bool) → ℕ → ℕ → ℕ
taken_so_far w ready i l = sum i (λ j. cond (taken w ready j && on_path w j l) (size_of w j) 0)

-- the load that a call tells of a link is the sum of the sizes of the messages taken on it
abbrev pub LoadIsSum : Type 0
LoadIsSum = (w : Network) (ready : ℕ → Bool) (l : ℕ) → load_of w ready l ≡ taken_so_far w ready (messages w) l

-- no link's load is above its window
abbrev pub LoadWithinWindow : Type 0
LoadWithinWindow = (w : Network) (ready : ℕ → Bool) (l : ℕ) → l < links w → load_of w ready l ≤ window_of w l

-- "Ready messages are taken in order; one is taken exactly if on each of its links the sizes taken so far plus its own are at most that link's window"
abbrev pub TakenExactly : Type 0
TakenExactly =
    (w : Network) (ready : ℕ → Bool) (i : ℕ)
    → (taken w ready i ≡ true)
    ↔ ((ready i ≡ true) × ((l : ℕ) → l < links w → on_path w i l ≡ true → taken_so_far w ready i l + size_of w i ≤ window_of w l))

-- two networks that have the same windows, and the same messages down to i
pub record SameDownTo (i : ℕ) (w w' : Network) : Type 0 where
  pub same_windows : w.windows ≡ w'.windows
  pub same_sizes : (j : ℕ) → j ≤ i → size_of w j ≡ size_of w' j
  pub same_paths : (j : ℕ) → j ≤ i → path_of w j ≡ path_of w' j

-- a message's being taken does not depend on messages of lower priority: they may be others, be more or fewer, and be ready or not
abbrev pub LowerDoNotCount : Type 0
LowerDoNotCount =
    (i : ℕ) (w w' : Network) (ready ready' : ℕ → Bool)
    → SameDownTo i w w' → ((j : ℕ) → j ≤ i → ready j ≡ ready' j) → taken w ready i ≡ taken w' ready' i

-- message j has a higher priority than i, is taken, and has a link in common with i
pub record TakenAhead (w : Network) (ready : ℕ → Bool) (i j l : ℕ) : Type 0 where
  pub higher : j < i
  pub there : l < links w
  pub on_its_path : on_path w j l ≡ true
  pub on_the_path : on_path w i l ≡ true
  pub was_taken : taken w ready j ≡ true

-- a ready message that is held has a taken message of higher priority on one of its links; its own size is not above a window on its path, or refusal 31 was due
abbrev pub HeldByHigher : Type 0
HeldByHigher =
    (w : Network) (ready : ℕ → Bool) (i : ℕ)
    → message_above_window w i ≡ false → ready i ≡ true → taken w ready i ≡ false
    → (j : ℕ) × ((l : ℕ) × TakenAhead w ready i j l)
