-- What a table is, and when it is accepted for a list. Every table, built or brought in, is judged by this one definition.
use Rattle.std.specs.Prelude.{ℕ, suc, ◌+◌, ◌*◌, ◌/◌, ◌<◌, ◌≡◌, ◌⊎◌, true, List, get_or, eqb}
use Rattle.answers.specs.Sums.{sum, one}
use Rattle.flows.specs.Flows.{IsFlow, input_of, cells_of, goes_to}

-- what stands in row r at slot s: rows and slots count from 0, M bytes a row, and row r is output r + 1's
abbrev pub entry : ℕ → List ℕ → ℕ → ℕ → ℕ
entry M T r s = get_or T (r * M + s) 0

-- how many times flow k stands in the table
unfoldable pub times : ℕ → ℕ → List ℕ → ℕ → ℕ
times M N T k = sum N (λ r. sum M (λ s. one (eqb (entry M T r s) k)))

-- e is the number of a flow whose output is j
pub record FlowOf (L : List ℕ) (j e : ℕ) : Type 0 where
  pub is_flow : IsFlow L e
  pub its_output : goes_to L e j ≡ true

pub record Accepted (M N : ℕ) (L T : List ℕ) : Type 0 where
  -- each entry is 0 or the number of a flow whose output is that row's
  pub of_its_row : (r s : ℕ) → r < N → s < M → (entry M T r s ≡ 0) ⊎ FlowOf L (suc r) (entry M T r s)
  -- in no slot do two rows hold flows of one input
  pub input_once : (s a b : ℕ) → s < M → a < N → b < N → (a ≡ b → ⊥) → (entry M T a s ≡ 0 → ⊥) → (entry M T b s ≡ 0 → ⊥) → input_of L (entry M T a s) ≡ input_of L (entry M T b s) → ⊥
  -- each flow stands in the table exactly as many times as its cells
  pub exact_counts : (k : ℕ) → IsFlow L k → times M N T k ≡ cells_of L k

-- what can be wrong with a table, in the words of the three facts: the entry at place p is neither 0 nor a flow of that row
abbrev pub NotOfRow : ℕ → List ℕ → List ℕ → ℕ → Type 0
NotOfRow M L T p = (get_or T p 0 ≡ 0) ⊎ FlowOf L (suc (p / M)) (get_or T p 0) → ⊥

-- two rows hold flows of one input at slot s
pub record InputTwice (M N : ℕ) (L T : List ℕ) (s : ℕ) : Type 0 where
  pub one_row : ℕ
  pub other_row : ℕ
  pub one_there : one_row < N
  pub other_there : other_row < N
  pub apart : one_row ≡ other_row → ⊥
  pub one_filled : entry M T one_row s ≡ 0 → ⊥
  pub other_filled : entry M T other_row s ≡ 0 → ⊥
  pub one_input : input_of L (entry M T one_row s) ≡ input_of L (entry M T other_row s)

-- flow k does not stand in the table as many times as its cells
abbrev pub CountWrong : ℕ → ℕ → List ℕ → List ℕ → ℕ → Type 0
CountWrong M N L T k = times M N T k ≡ cells_of L k → ⊥
