-- The slots that a new cell starts from: the first that its output has free, and the first that its input has free.
use Rattle.std.specs.Prelude.{ℕ, Bool, not, List, eqb}
use Rattle.answers.specs.Lowest.{lowest, holds_somewhere}
use Rattle.tables.specs.Accepted.{entry}
use Rattle.builder.specs.Exchange.{input_at}

-- row r is empty at slot s
abbrev pub empty_at : ℕ → List ℕ → ℕ → ℕ → Bool
empty_at M T r s = eqb (entry M T r s) 0

-- some row holds a flow of input i at slot s
abbrev pub input_used : ℕ → ℕ → List ℕ → List ℕ → ℕ → ℕ → Bool
input_used M N L T i s = holds_somewhere 0 N (λ r. eqb (input_at L (entry M T r s)) i)

-- the first slot at which row r is empty, and M where there is none
unfoldable pub free_of_row : ℕ → List ℕ → ℕ → ℕ
free_of_row M T r = lowest 0 M (empty_at M T r)

-- the first slot at which no row holds a flow of input i, and M where there is none
unfoldable pub free_of_input : ℕ → ℕ → List ℕ → List ℕ → ℕ → ℕ
free_of_input M N L T i = lowest 0 M (λ s. not (input_used M N L T i s))
