-- The exchange, as tables: the run goes from an output's row to an input, and from that input to the next row that holds it.
use Rattle.std.specs.Prelude.{ℕ, zero, suc, ◌+◌, ◌*◌, ◌<◌, ◌≡◌, Bool, true, false, not, cond, ◌&&◌, List, get_or, set, replicate, eqb, ltb}
use Rattle.answers.specs.Lowest.{lowest}
use Rattle.answers.specs.Sums.{sum, one}
use Rattle.flows.specs.Flows.{input_of}
use Rattle.tables.specs.Accepted.{entry}
use Rattle.tables.specs.Check.{Holds}

-- the input whose flow an entry names; an empty entry has 0, which is no input's number
abbrev pub input_at : List ℕ → ℕ → ℕ
input_at L e = cond (eqb e 0) 0 (input_of L e)

-- the table with what stands at two places exchanged
abbrev pub swapped : List ℕ → ℕ → ℕ → List ℕ
swapped T a b = set (set T a (get_or T b 0)) b (get_or T a 0)

-- room for the marks of w rows, and none of them seen
abbrev pub none_seen : ℕ → List Bool
none_seen w = replicate {A = Bool} w false

-- the rows that the run has not come to: those that are not marked
unfoldable pub unseen : ℕ → List Bool → ℕ
unseen N marks = sum N (λ r. one (not (get_or marks r false)))

-- row r is not yet seen and holds input y at slot s
abbrev pub holds_next : ℕ → List ℕ → List Bool → ℕ → ℕ → List ℕ → ℕ → Bool
holds_next M L marks s y T r = not (get_or marks r false) && eqb (input_at L (entry M T r s)) y

-- the row to which input y leads from slot s, and N where it leads to none
unfoldable pub next_row : ℕ → ℕ → List ℕ → List Bool → ℕ → ℕ → List ℕ → ℕ
next_row M N L marks s y T = lowest 0 N (holds_next M L marks s y T)

-- from an input: where it leads to a row, the run goes on there
abbrev pub from_input : (ℕ → List ℕ) → ℕ → ℕ → List ℕ → List ℕ
from_input onward N row T = cond (ltb row N) (onward row) T

-- from row r: it exchanges its entries at slots p and q; the input that came to p is followed, if there is one (n rows are unseen)
unfoldable pub run : ℕ → ℕ → ℕ → List ℕ → ℕ → ℕ → ℕ → List Bool → List ℕ → List ℕ
run zero M N L p q r marks T = T
run (suc n) M N L p q r marks T =
    let T' : List ℕ = swapped T (r * M + p) (r * M + q) in
    let y : ℕ = input_at L (entry M T' r p) in
    cond (eqb y 0) T'
    (from_input (λ row. run n M N L p q row (set marks r true) T') N (next_row M N L (set marks r true) p y T') T')

-- the output side of the run: it goes on from row r
abbrev pub output_side : ℕ → ℕ → List ℕ → ℕ → ℕ → ℕ → List Bool → List ℕ → List ℕ
output_side M N L p q r marks T = run (unseen N marks) M N L p q r marks T

-- the input side: it goes on from input y, which came to slot p
abbrev pub input_side : ℕ → ℕ → List ℕ → ℕ → ℕ → ℕ → List Bool → List ℕ → List ℕ
input_side M N L p q y marks T = from_input (λ r. output_side M N L p q r marks T) N (next_row M N L marks p y T) T

-- the table has its rows, and both slots lie in the frame
pub record SlotsIn (M N p q : ℕ) (T : List ℕ) : Type 0 where
  pub table : Holds M N T
  pub first_in : p < M
  pub second_in : q < M

-- row r is one of the table's, and not yet seen
pub record RowNext (N r : ℕ) (marks : List Bool) : Type 0 where
  pub row_in : r < N
  pub not_seen : get_or marks r false ≡ false
