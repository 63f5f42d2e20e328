-- The counts of all numbers among the first places of a table, kept in one pass, and what they are over the rows.
use Prim.Native.Nat.{ℕ, ◌+◌, ◌*◌, ◌≤◌}
use mathlib.Core.Path.{◌≡◌, sym, ◌∙◌}
use mathlib.Core.List.{List}
use lib.Dec.{eqb}
use lib.ListN.{get_or, replicate, get_or-replicate}
use Rattle.answers.specs.Sums.{one}
use Rattle.answers.proofs.Sums.{sum_none, sum_more, sum_rows, count_at_most}
use Rattle.tables.specs.Accepted.{times}
use Rattle.tables.specs.Check.{count_in, Counted}

pub count_in_none : (T : List ℕ) (k : ℕ) → count_in T 0 k ≡ 0
unfolding count_in
count_in_none T k = sum_none (λ p. one (eqb (get_or T p 0) k))

-- the counts that the pass begins with
pub count_none : (T : List ℕ) → Counted T 0 (replicate 256 0)
count_none T k u = get_or-replicate 256 k 0 0 u ∙ sym (count_in_none T k)

pub count_one_more : (T : List ℕ) (end k : ℕ) → count_in T (end + 1) k ≡ count_in T end k + one (eqb (get_or T end 0) k)
unfolding count_in
count_one_more T end k = sum_more end (λ p. one (eqb (get_or T p 0) k))

pub count_bound : (T : List ℕ) (end k : ℕ) → count_in T end k ≤ end
unfolding count_in
count_bound T end k = count_at_most end (λ p. eqb (get_or T p 0) k)

-- over all places, the count is how many times the number stands in the table
pub count_is_times : (M N : ℕ) (T : List ℕ) (k : ℕ) → count_in T (N * M) k ≡ times M N T k
unfolding count_in times
count_is_times M N T k = sum_rows N M (λ p. one (eqb (get_or T p 0) k))
