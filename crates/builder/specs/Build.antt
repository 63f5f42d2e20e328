-- What the build answers and what it leaves: document 01's order 1 to 7, and a table that is accepted.
use Rattle.std.specs.Prelude.{ℕ, ◌*◌, ◌≡◌, List, [], ◌∷◌, ◌++◌, length, drop, pos, ltb}
use Rattle.answers.specs.declared.Answer.{Answer}
use Rattle.answers.specs.Numbers.{DONE, INPUT_OVERLOADED, OUTPUT_OVERLOADED, TABLE_TOO_SHORT}
use Rattle.answers.specs.Answers.{Rule, refusal, done_with, ◌when◌, naming_lowest, first}
use Rattle.flows.specs.Flows.{list_rules, input_overloaded, output_overloaded}
use Rattle.tables.specs.Accepted.{Accepted}

-- the refusals of the loads and of the table's length, in their order
abbrev pub load_rules : ℕ → ℕ → List ℕ → ℕ → List Rule
load_rules M N L tableLength =
    naming_lowest INPUT_OVERLOADED 1 N (input_overloaded M L)
    ∷ naming_lowest OUTPUT_OVERLOADED 1 N (output_overloaded M L)
    ∷ (refusal TABLE_TOO_SHORT when ltb tableLength (N * M))
    ∷ []

-- the first of them, or done
unfoldable pub load_answer : ℕ → ℕ → List ℕ → ℕ → Answer
load_answer M N L tableLength = first (load_rules M N L tableLength) (done_with (pos 0))

-- the refusals of the build, in its order: first those that every call with a list gives
abbrev pub build_rules : ℕ → ℕ → List ℕ → ℕ → List Rule
build_rules M N L tableLength = list_rules M N L ++ load_rules M N L tableLength

unfoldable pub build_answer : ℕ → ℕ → List ℕ → ℕ → Answer
build_answer M N L tableLength = first (build_rules M N L tableLength) (done_with (pos 0))

-- what a call of the build answers and leaves; which accepted table it leaves is its one free choice
pub record Built (M N : ℕ) (L before after : List ℕ) (r : Answer) : Type 0 where
  pub answered : r ≡ build_answer M N L (length before)
  pub refused_leaves : (r.number ≡ DONE → ⊥) → after ≡ before
  pub accepted : r.number ≡ DONE → Accepted M N L after
  pub beyond : drop (N * M) after ≡ drop (N * M) before
