-- Refusals 30 and 31 in the request's words: when each is given, and which message it names.
use Rattle.std.specs.Prelude.{ℕ, ◌≤◌, ◌<◌, ◌≡◌, ◌↔◌, Bool, true, false, pos, length}
use Rattle.answers.specs.Numbers.{MESSAGE_MISSHAPEN, MESSAGE_ABOVE_WINDOW}
use Rattle.answers.specs.Limits.{max_cycle_links, max_messages}
use Rattle.answers.specs.Lowest.{IsLowest}
use Rattle.answers.specs.Answers.{answer}
use Rattle.cycles.specs.Cycle.{Network, links, messages, window_of, size_of, path_of, on_path}
use Rattle.cycles.specs.Judging.{network_answer}

-- 34 is not due: not more links or messages than there may be, and lists and numbers that belong together
pub record Sized (w : Network) (otherMissized : Bool) : Type 0 where
  pub few_links : links w ≤ max_cycle_links
  pub few_messages : messages w ≤ max_messages
  pub as_many_sets : length w.paths ≡ messages w
  pub others_sized : otherMissized ≡ false

-- "an empty set, a link that isn't there or size 0"
pub data Misshapen (w : Network) (i : ℕ) : Type 0 where
  empty_set : path_of w i ≡ 0 → Misshapen w i
  no_such_link : (l : ℕ) → links w ≤ l → l < max_cycle_links → on_path w i l ≡ true → Misshapen w i
  no_size : size_of w i ≡ 0 → Misshapen w i

-- "a size above a window on its path"
pub record AboveWindow (w : Network) (i : ℕ) : Type 0 where
  pub link : ℕ
  pub there : link < links w
  pub on_that_path : on_path w i link ≡ true
  pub above : window_of w link < size_of w i

-- 30 is given, naming message k, exactly if 34 is not due and k is the lowest such message
abbrev pub NamesMisshapen : Type 0
NamesMisshapen =
    (w : Network) (other short : Bool) (k : ℕ)
    → (network_answer w other short ≡ answer MESSAGE_MISSHAPEN (pos k)) ↔ (Sized w other × IsLowest 0 (messages w) (Misshapen w) k)

-- 31 is given, naming message k, exactly if 34 is not due, no message is refused with 30, and k is the lowest such message
abbrev pub NamesAboveWindow : Type 0
NamesAboveWindow =
    (w : Network) (other short : Bool) (k : ℕ)
    → (network_answer w other short ≡ answer MESSAGE_ABOVE_WINDOW (pos k))
    ↔ ((Sized w other × ((i : ℕ) → i < messages w → Misshapen w i → ⊥)) × IsLowest 0 (messages w) (AboveWindow w) k)
