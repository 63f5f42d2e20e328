-- A row as a part of the table: where no refusal is due it lies within the table, and the part is cut there.
use Prim.Native.Nat.{ℕ, suc, ◌+◌, ◌-◌, ◌*◌, ◌≤◌, ◌<◌}
use mathlib.Core.Path.{◌≡◌, refl, sym, ◌∙◌, ap}
use mathlib.Core.Bool.{Bool, cond, true, false}
use mathlib.Core.List.{List, []}
use native.Mathlib.Omega.{arith}
use native.Mathlib.Nat.{mul-le-mul_right, suc-mul}
use borrow.Author.Tests.{eq-eqb, eqb-true, ltb-false}
use lib.ListN.{length, get_or, take, drop, length-take, length-drop, get_or-eq_default}
use lib.Seq.{get_or-take, get_or-drop}
use native.Mathlib.Decide.{dec_lt}
use lib.IntN.{pos}
use Rattle.answers.specs.declared.Answer.{Answer}
use Rattle.answers.specs.Numbers.{DONE}
use Rattle.answers.specs.Limits.{max_frame, Within}
use Rattle.answers.specs.Answers.{done_with}
use Rattle.answers.proofs.Ranges.{inside}
use Rattle.answers.proofs.First.{none_of_them}
use Rattle.tables.specs.Row.{row_rules, row_answer, row_there, row_part}

-- where no refusal is due, a row is not empty and ends within the table. The equation says nothing: it shows `grind` the call to match
pub row_within : (M N size j : ℕ) → row_there M N size j ≡ true → (row_answer M N size j ≡ row_answer M N size j) × (1 ≤ M) × (1 ≤ j) × ((j - 1) * M + M ≤ size)
unfolding row_answer
row_within M N size j e =
    let none = none_of_them (row_rules M N size j) [] (done_with (pos 0)) _ refl tt (eqb-true _ _ e) in
    let slots : Within 1 max_frame M = inside none.0 in
    let output : Within 1 N j = inside none.1.1.1.0 in (
      refl,
      slots.at_least,
      output.at_least,
      omega (arith, suc-mul (j - 1) M, mul-le-mul_right {m = suc (j - 1)} {n = N} M (omega arith), ltb-false size (N * M) none.1.1.0),
    )

-- no row is empty
pub some_bytes : (M N : ℕ) (T : List ℕ) (j : ℕ) (a : Answer) → a ≡ row_answer M N (length T) j → a.number ≡ DONE → row_part M N T j ≡ [] → ⊥
some_bytes M N T j a e d x =
    let there : row_there M N (length T) j ≡ true = eq-eqb _ _ (sym (ap (λ (y : Answer). y.number) e) ∙ d) in
    let cut = ap (λ (b : Bool). cond b (take M (drop ((j - 1) * M) T)) []) there in
    omega (
      arith,
      ap length (sym cut ∙ x),
      length-take M (drop ((j - 1) * M) T),
      length-drop ((j - 1) * M) T,
      row_within M N (length T) j there,
    )

-- a row's part is no longer than the frame, and its entries are entries of the table
pub part_short : (M N : ℕ) (T : List ℕ) (j : ℕ) → length (row_part M N T j) ≤ M
part_short M N T j = go (row_there M N (length T) j)
  where
    go : (b : Bool) → length (cond b (take M (drop ((j - 1) * M) T)) []) ≤ M
    go true = omega (arith, length-take M (drop ((j - 1) * M) T))
    go false = omega arith

pub part_below : (M N : ℕ) (T : List ℕ) (j most : ℕ) → 0 < most → ((i : ℕ) → get_or T i 0 < most) → (i : ℕ) → get_or (row_part M N T j) i 0 < most
part_below M N T j most some h i = go (row_there M N (length T) j) (dec_lt i M)
  where
    go : (b : Bool) → Dec (i < M) → get_or (cond b (take M (drop ((j - 1) * M) T)) []) i 0 < most
    go false d = some
    go true (yes u) = omega (arith, get_or-take M (drop ((j - 1) * M) T) i 0 u, get_or-drop ((j - 1) * M) T i 0, h ((j - 1) * M + i))
    go true (no d) =
        omega (arith, get_or-eq_default (take M (drop ((j - 1) * M) T)) 0 {n = i} (omega (arith, length-take M (drop ((j - 1) * M) T))))
