-- Signed numbers, answers and rows, as their parts are put.
use Prim.Native.Nat.{ℕ, suc, ◌+◌, ◌*◌, ◌^◌, ◌≤◌, ◌<◌}
use mathlib.Core.Path.{◌≡◌, refl, sym, ◌∙◌, ap}
use mathlib.Core.Bool.{true, false, true≢false}
use mathlib.Core.List.{List, [], ◌∷◌, ◌++◌}
use native.Mathlib.Omega.{arith}
use borrow.Author.Tests.{ltb-true}
use lib.IntN.{ℤ, pos, negsuc, nat_abs}
use lib.Signed.{lt_z}
use lib.ListN.{length, get_or, drop, length-append, drop_of_length-le}
use Rattle.std.proofs.lemmas.List.{drop_more}
use mir.Syntax.{w32}
use mir.Val.{SFits, to_z, of_z}
use mir.ValLaws.{to_z-of_z}
use Rattle.plan_text.specs.Digits.{digits}
use Rattle.plan_text.specs.Form.{comma, line_feed}
use Rattle.plan_text.specs.Lines.{minus, signed, joined, joined_tail, answer_line, out_line}
use Rattle.plan_text.proofs.Digits.{digits-length}
use Rattle.plan_text.proofs.Putting.{Pieces}

signed_below : (z : ℤ) → lt_z z (pos 0) ≡ true → minus ∷ digits (nat_abs z) ≡ signed z
signed_below (pos n) e = absurd (omega (arith, ltb-true n 0 e))
signed_below (negsuc n) e = refl

signed_else : (z : ℤ) → lt_z z (pos 0) ≡ false → digits (nat_abs z) ≡ signed z
signed_else (pos n) e = refl
signed_else (negsuc n) e = absurd (true≢false e)

-- the same, by the test as the machine makes it
pub below_zero : (z : ℤ) → SFits w32 z → lt_z (to_z w32 (of_z w32 z)) (pos 0) ≡ true → minus ∷ digits (nat_abs z) ≡ signed z
below_zero z f e = signed_below z (ap (λ (x : ℤ). lt_z x (pos 0)) (sym (to_z-of_z w32 z f)) ∙ e)

pub not_below : (z : ℤ) → SFits w32 z → lt_z (to_z w32 (of_z w32 z)) (pos 0) ≡ false → digits (nat_abs z) ≡ signed z
not_below z f e = signed_else z (ap (λ (x : ℤ). lt_z x (pos 0)) (sym (to_z-of_z w32 z f)) ∙ e)

-- the entries from one on: that entry after a comma, and those after it
pub entries_from : (row : List ℕ) (i : ℕ) → i < length row → Pieces (joined_tail (drop i row)) (comma ∷ digits (get_or row i 0)) (joined_tail (drop (i + 1) row))
unfolding joined_tail
entries_from row i u = record { are = ap joined_tail (drop_more row i 0 u) }

-- behind the last entry there is none
pub none_behind : (row : List ℕ) (i : ℕ) → length row ≤ i → joined_tail (drop i row) ≡ []
unfolding joined_tail
none_behind row i u = ap joined_tail (drop_of_length-le row {i = i} u)

-- of a row without entries nothing is put
pub no_entries : (row : List ℕ) → length row ≡ 0 → [] ≡ joined row
no_entries [] e = refl
no_entries (x ∷ row) e = absurd (omega arith)

-- how long an answer's line is, and a row's
pub answer-length : (number : ℕ) (detail : ℤ) → length (answer_line number detail) ≡ 7 + length (digits number) + 1 + length (signed detail) + 1
answer-length number detail =
    omega (arith, length-append (digits number) (comma ∷ (signed detail ++ line_feed ∷ [])), length-append (signed detail) (line_feed ∷ []))

pub row_length : (row : List ℕ) → length (out_line row) ≡ 4 + length (joined row) + 1
row_length row = omega (arith, length-append (joined row) (line_feed ∷ []))

-- how long the lines can be: a number of 32 bits has at most 10 digits, a byte at most 3
pub answer_short : (number : ℕ) (detail : ℤ) → number < 2 ^ 32 → SFits w32 detail → length (answer_line number detail) ≤ 32
answer_short number detail n f = omega (arith, answer-length number detail, digits-length 9 number (omega arith) (omega arith), signed_short detail f)
  where
    signed_short : (z : ℤ) → SFits w32 z → length (signed z) ≤ 11
    signed_short (pos k) g = omega (arith, digits-length 9 k (omega (arith, g.sfits)) (omega (arith, g.sfits)))
    signed_short (negsuc k) g = omega (arith, digits-length 9 (suc k) (omega (arith, g.sfits)) (omega (arith, g.sfits)))

tail_short : (row : List ℕ) → ((i : ℕ) → get_or row i 0 < 256) → length (joined_tail row) ≤ 4 * length row
unfolding joined_tail
tail_short [] h = omega arith
tail_short (e ∷ row) h =
    omega (arith, length-append (digits e) (joined_tail row), digits-length 2 e (omega (arith, h 0)) (omega (arith, h 0)), tail_short row (λ i. h (suc i)))

joined_short : (row : List ℕ) → ((i : ℕ) → get_or row i 0 < 256) → length (joined row) ≤ 4 * length row
joined_short [] h = omega arith
joined_short (e ∷ row) h =
    omega (arith, length-append (digits e) (joined_tail row), digits-length 2 e (omega (arith, h 0)) (omega (arith, h 0)), tail_short row (λ i. h (suc i)))

pub row_short : (row : List ℕ) → ((i : ℕ) → get_or row i 0 < 256) → length (out_line row) ≤ 4 * length row + 5
row_short row h = omega (arith, row_length row, joined_short row h)
