-- The builder, of the function: what `Builder.antt` says of the answers, here of every outcome that the contract allows.
use Rattle.std.specs.Prelude.{ℕ, ◌*◌, ◌≤◌, ◌≡◌, ◌↔◌, ◌⊎◌, length, pos}
use Rattle.answers.specs.Numbers.{INPUT_OVERLOADED, OUTPUT_OVERLOADED}
use Rattle.answers.specs.Limits.{Within}
use Rattle.answers.specs.Lowest.{IsLowest}
use Rattle.answers.specs.Answers.{answer, done_with}
use Rattle.flows.specs.Flows.{InRange}
use Rattle.tables.specs.Accepted.{Accepted}
use Rattle.demands.specs.Builder.{Exists, InputOver, OutputOver}
use Rattle.demands.specs.Calls.{EveryBuild}

-- "Build one whenever one exists": the builder answers done exactly if ranges, list and length are right and a table exists, and then leaves one
abbrev pub BuildsIfOneExistsOfContract : Type 0
BuildsIfOneExistsOfContract = EveryBuild (λ M N L T a T'. (a ≡ done_with (pos 0)) ↔ (InRange M N L × Exists M N L × (N * M ≤ length T)))

abbrev pub DoneLeavesAccepted : Type 0
DoneLeavesAccepted = EveryBuild (λ M N L T a T'. a ≡ done_with (pos 0) → Accepted M N L T')

-- "refuse for load only when none does"
abbrev pub RefusesLoadIfNoneExistsOfContract : Type 0
RefusesLoadIfNoneExistsOfContract = EveryBuild (λ M N L T a T'. (a.number ≡ INPUT_OVERLOADED) ⊎ (a.number ≡ OUTPUT_OVERLOADED) → Exists M N L → ⊥)

-- refusal 5 names input i exactly if it is the lowest over M
abbrev pub NamesInputOfContract : Type 0
NamesInputOfContract = EveryBuild (λ M N L T a T'. (i : ℕ) → (a ≡ answer INPUT_OVERLOADED (pos i)) ↔ (InRange M N L × IsLowest 1 N (InputOver M L) i))

-- refusal 6 names output j exactly if no input is over M and it is the lowest output that is
abbrev pub NamesOutputOfContract : Type 0
NamesOutputOfContract =
    EveryBuild
    (λ M N L T a T'. (j : ℕ)
    → (a ≡ answer OUTPUT_OVERLOADED (pos j))
    ↔ (InRange M N L × ((i : ℕ) → Within 1 N i → InputOver M L i → ⊥) × IsLowest 1 N (OutputOver M L) j))
