-- Refusal 28: which entry it tells of, and that a table which is accepted, with K waiting counts, never meets it.
use Rattle.std.specs.Prelude.{ℕ, ◌≤◌, ◌<◌, ◌≡◌, ◌↔◌, List, length, pos, eqb}
use Rattle.answers.specs.Numbers.{ENTRY_ABOVE_COUNTS}
use Rattle.answers.specs.Limits.{max_flows}
use Rattle.answers.specs.Lowest.{IsLowest}
use Rattle.answers.specs.Sums.{one}
use Rattle.answers.specs.Answers.{answer}
use Rattle.flows.specs.Flows.{flow_count}
use Rattle.tables.specs.Accepted.{Accepted}
use Rattle.tables.specs.Check.{Holds}
use Rattle.forwarding.specs.declared.Running.{Running}
use Rattle.forwarding.specs.Forwarding.{entries_now, place_now, slot_size_answer, slot_answer}
use Rattle.forwarding.specs.Histories.{State, Call, answer_of, total}
use Rattle.forwarding.specs.Shares.{Window}

-- what a slot asks before it looks at an entry: 1, 2, 7, 12 and 11 are not due
pub record SlotAsked (r : Running) (T W : List ℕ) (sentLength : ℕ) : Type 0 where
  pub whole : Holds r.frame r.ports T
  pub few : length W ≤ max_flows
  pub sent_room : r.ports ≤ sentLength
  pub placed : r.position < r.frame

-- every entry at the record's position is 0 or has a waiting count
abbrev pub AllCounted : Running → List ℕ → List ℕ → Type 0
AllCounted r T W = (j : ℕ) → j < r.ports → entries_now r T j ≤ length W

-- the entry of output j + 1 at the record's position is above the number of waiting counts
abbrev pub WithoutCount : Running → List ℕ → List ℕ → ℕ → Type 0
WithoutCount r T W j = length W < entries_now r T j

-- refusal 28 tells of place p exactly if 1, 2, 7, 12 and 11 are not due and p is where the lowest output with such an entry has it
abbrev pub NamesEntry : Type 0
NamesEntry =
    (r : Running) (T W : List ℕ) (sentLength p : ℕ)
    → (slot_answer r T W sentLength ≡ answer ENTRY_ABOVE_COUNTS (pos p))
    ↔ (SlotAsked r T W sentLength × ((j : ℕ) × IsLowest 0 r.ports (WithoutCount r T W) j × (place_now r j ≡ p)))

-- lent a table that is accepted for the list at the record's frame and ports, with K waiting counts, a slot answers as if there were no 28:
-- the record and the sizes of what it is lent decide
abbrev pub SizesDecide : Type 0
SizesDecide =
    (L T W : List ℕ) (r : Running) (sentLength : ℕ)
    → Accepted r.frame r.ports L T → length W ≡ flow_count L
    → slot_answer r T W sentLength ≡ slot_size_answer r T W sentLength

-- a call that answers with that number
abbrev pub answered_with : ℕ → State → Call → ℕ
answered_with n st c = one (eqb (answer_of st c).number n)

-- no call of a window is refused with 28, however many slots it has and whatever stands among them
abbrev pub NeverInWindow : Type 0
NeverInWindow =
    (L T : List ℕ) (st : State) (calls : List Call) (slots : ℕ)
    → Window L T st calls slots → total (answered_with ENTRY_ABOVE_COUNTS) st calls ≡ 0
