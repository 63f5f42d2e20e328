-- The builder: a table whenever one exists, and a refusal for load only when none does.
use Rattle.std.specs.Prelude.{ℕ, ◌*◌, ◌≤◌, ◌<◌, ◌≡◌, ◌↔◌, ◌⊎◌, List, length, drop, pos}
use Rattle.answers.specs.declared.Answer.{Answer}
use Rattle.answers.specs.Numbers.{DONE, INPUT_OVERLOADED, OUTPUT_OVERLOADED}
use Rattle.answers.specs.Limits.{Within}
use Rattle.answers.specs.Lowest.{IsLowest}
use Rattle.answers.specs.Answers.{answer, done_with}
use Rattle.flows.specs.Flows.{input_load, output_load, InRange}
use Rattle.tables.specs.Accepted.{Accepted}
use Rattle.builder.specs.Build.{build_answer, Built}
-- "an accepted table exists exactly if the cells of each input and of each output sum to at most M": of the definition alone, whatever M and N are
pub use Rattle.builder.specs.Existence.{TableExistsExactlyIfFitting}

-- an accepted table exists
abbrev pub Exists : ℕ → ℕ → List ℕ → Type 0
Exists M N L = (T : List ℕ) × (length T ≡ N * M) × Accepted M N L T

-- "Build one whenever one exists": the builder answers done exactly if ranges, list and length are right and a table exists
abbrev pub BuildsIfOneExists : Type 0
BuildsIfOneExists =
    (M N : ℕ) (L : List ℕ) (tableLength : ℕ)
    → (build_answer M N L tableLength ≡ done_with (pos 0)) ↔ (InRange M N L × Exists M N L × (N * M ≤ tableLength))

-- "refuse for load only when none does"
abbrev pub RefusesLoadIfNoneExists : Type 0
RefusesLoadIfNoneExists =
    (M N : ℕ) (L : List ℕ) (tableLength : ℕ)
    → ((build_answer M N L tableLength).number ≡ INPUT_OVERLOADED) ⊎ ((build_answer M N L tableLength).number ≡ OUTPUT_OVERLOADED)
    → Exists M N L → ⊥

-- a port is asked for more than M
abbrev pub InputOver : ℕ → List ℕ → ℕ → Type 0
InputOver M L i = M < input_load L i

abbrev pub OutputOver : ℕ → List ℕ → ℕ → Type 0
OutputOver M L j = M < output_load L j

-- refusal 5 names input i exactly if it is the lowest over M
abbrev pub NamesInput : Type 0
NamesInput =
    (M N : ℕ) (L : List ℕ) (tableLength i : ℕ)
    → (build_answer M N L tableLength ≡ answer INPUT_OVERLOADED (pos i)) ↔ (InRange M N L × IsLowest 1 N (InputOver M L) i)

-- refusal 6 names output j exactly if no input is over M and it is the lowest output that is
abbrev pub NamesOutput : Type 0
NamesOutput =
    (M N : ℕ) (L : List ℕ) (tableLength j : ℕ)
    → (build_answer M N L tableLength ≡ answer OUTPUT_OVERLOADED (pos j))
    ↔ (InRange M N L × ((i : ℕ) → Within 1 N i → InputOver M L i → ⊥) × IsLowest 1 N (OutputOver M L) j)

-- no call has two outcomes but for which accepted table is picked: the answers are the same, so is every byte on a refusal, and the bytes past N·M always
abbrev pub OneBuild : Type 0
OneBuild =
    (M N : ℕ) (L before : List ℕ) (a b : Answer) (T U : List ℕ) → Built M N L before T a → Built M N L before U b
    → (a ≡ b) × (((a.number ≡ DONE → ⊥) → T ≡ U) × (drop (N * M) T ≡ drop (N * M) U))
