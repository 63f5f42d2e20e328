-- The run, told step by step as its two sides go: from an input to a row or to none, and from a row to an input or to the end.
use Prim.Native.Nat.{ℕ, ◌+◌, ◌*◌, ◌<◌}
use mathlib.Core.Path.{◌≡◌, sym, ◌∙◌, ap}
use mathlib.Core.Bool.{Bool, true, false, cond}
use mathlib.Core.List.{List}
use native.Mathlib.Omega.{arith}
use borrow.Author.Tests.{eq-eqb, ne_eqb, lt-ltb, le-ltb, ltb-false, not-true}
use lib.Dec.{eqb}
use lib.ListN.{length, get_or, set}
use Rattle.std.specs.List.{swap}
use Rattle.std.proofs.lemmas.List.Edits.{swap_is}
use Rattle.std.proofs.Common.{Some, None}
use Rattle.answers.specs.Lowest.{found}
use Rattle.answers.proofs.Lowest.{found_some, found_none}
use Rattle.answers.proofs.Ranges.{both_true}
use Rattle.tables.specs.Accepted.{entry}
use Rattle.builder.specs.Exchange.{input_at, swapped, holds_next, next_row, run, output_side, input_side, RowNext}
use Rattle.builder.proofs.Alternation.{unseen_mark}

module _ (M N : ℕ) (L : List ℕ) (p q : ℕ) (marks : List Bool) (T : List ℕ) (y : ℕ) where
  pub row_next : (row : ℕ) → Some row ≡ found 0 N (holds_next M L marks p y T) → RowNext N row marks
  row_next row e =
      let f = found_some 0 N (holds_next M L marks p y T) row e in
      record { row_in = omega (arith, f.high); not_seen = not-true _ (both_true _ _ f.there).0 }

  pub led_on : (row : ℕ) (T' : List ℕ) → Some row ≡ found 0 N (holds_next M L marks p y T) → T' ≡ output_side M N L p q row marks T → T' ≡ input_side M N L p q y marks T
  unfolding next_row
  led_on row T' found_row e =
      let f = found_some 0 N (holds_next M L marks p y T) row found_row in
      e
      ∙ ap (λ (r : ℕ). output_side M N L p q r marks T) f.is
      ∙ sym (ap (λ (b : Bool). cond b (output_side M N L p q (next_row M N L marks p y T) marks T) T) (lt-ltb (next_row M N L marks p y T) N (omega (arith, f.is, f.high))))

  pub led_nowhere : None ≡ found 0 N (holds_next M L marks p y T) → T ≡ input_side M N L p q y marks T
  unfolding next_row
  led_nowhere e =
      sym (ap (λ (b : Bool). cond b (output_side M N L p q (next_row M N L marks p y T) marks T) T)
      (le-ltb (next_row M N L marks p y T) N (omega (arith, ltb-false _ _ (found_none 0 N (holds_next M L marks p y T) e)))))

module _ (M N : ℕ) (L : List ℕ) (p q r : ℕ) (marks : List Bool) (T T' : List ℕ) (y : ℕ) (lr : r < N) (lm : r < length marks) (fresh : get_or marks r false ≡ false)
    (first_in : r * M + p < length T) (second_in : r * M + q < length T)
    (exchanged : T' ≡ swap T (r * M + p) (r * M + q)) (came : y ≡ input_at L (entry M T' r p)) where
  swapped_row : T' ≡ swapped T (r * M + p) (r * M + q)
  swapped_row = exchanged ∙ sym (swap_is T (r * M + p) (r * M + q) 0 first_in second_in)

  run_step : output_side M N L p q r marks T ≡ cond (eqb y 0) T' (input_side M N L p q y (set marks r true) T')
  unfolding run
  run_step =
      ap (λ (n : ℕ). run n M N L p q r marks T) (sym (unseen_mark N marks r lr lm fresh))
      ∙ ap (λ (S : List ℕ). cond (eqb (input_at L (entry M S r p)) 0) S (input_side M N L p q (input_at L (entry M S r p)) (set marks r true) S)) (sym swapped_row)
      ∙ ap (λ (x : ℕ). cond (eqb x 0) T' (input_side M N L p q x (set marks r true) T')) (sym came)

  pub run_followed : (T'' : List ℕ) → (y ≡ 0 → ⊥) → T'' ≡ input_side M N L p q y (set marks r true) T' → T'' ≡ output_side M N L p q r marks T
  run_followed T'' d e =
      e ∙ sym (ap (λ (b : Bool). cond b T' (input_side M N L p q y (set marks r true) T')) (ne_eqb y 0 d)) ∙ sym run_step

  pub run_ended : y ≡ 0 → T' ≡ output_side M N L p q r marks T
  run_ended e = sym (ap (λ (b : Bool). cond b T' (input_side M N L p q y (set marks r true) T')) (eq-eqb y 0 e)) ∙ sym run_step
