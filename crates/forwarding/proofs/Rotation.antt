-- A frame's worth of slots in a row, from any position, meets each position once.
use Prim.Native.Nat.{ℕ, zero, suc, ◌+◌, ◌-◌, ◌≤◌, ◌<◌}
use mathlib.Core.Path.{◌≡◌, sym, ◌∙◌, ap}
use native.Mathlib.Omega.{arith}
use native.Mathlib.Numerals.{one-add}
use native.Mathlib.Nat.{add-zero, suc-add}
use borrow.Author.Tests.{eq-eqb, ne_eqb}
use Rattle.answers.specs.Sums.{sum}
use Rattle.answers.proofs.Sums.{sum_none, sum_more}
use Rattle.forwarding.specs.Forwarding.{next_position}

-- f summed over the positions of n slots in a row, the first at p
unfoldable pub met : (ℕ → ℕ) → ℕ → ℕ → ℕ → ℕ
met f M p zero = 0
met f M p (suc n) = f p + met f M (next_position M p) n

module _ (f : ℕ → ℕ) (M : ℕ) where
  next_last : (p : ℕ) → p + 1 ≡ M → next_position M p ≡ 0
  next_last p e = rw (eq-eqb (p + 1) M e)

  next_inner : (p : ℕ) → (p + 1 ≡ M → ⊥) → next_position M p ≡ p + 1
  next_inner p d = rw (ne_eqb (p + 1) M d)

  -- up to the end of the frame, and then n slots more from its start
  to_end : (m p n : ℕ) → p + suc m ≡ M → met f M p (suc m + n) + sum p f ≡ sum M f + met f M 0 n
  unfolding met
  to_end zero p n e =
      omega (
        arith,
        ap (λ (k : ℕ). met f M p k) (one-add n) ∙ ap (λ (q : ℕ). f p + met f M q n) (next_last p e),
        ap (λ (k : ℕ). sum k f) (sym e) ∙ sum_more p f,
      )
  to_end (suc m) p n e =
      omega (
        arith,
        ap (λ (k : ℕ). met f M p k) (suc-add (suc m) n) ∙ ap (λ (q : ℕ). f p + met f M q (suc m + n)) (next_inner p (λ x. omega arith)),
        to_end m (p + 1) n (omega arith),
        sum_more p f,
      )

  -- within the frame
  run_on : (n p : ℕ) → p + n ≤ M → met f M p n + sum p f ≡ sum (p + n) f
  unfolding met
  run_on zero p l = omega (arith, ap (λ (k : ℕ). sum k f) (add-zero p))
  run_on (suc zero) p l = omega (arith, sum_more p f)
  run_on (suc (suc n)) p l =
      let same : p + suc (suc n) ≡ p + 1 + suc n = omega arith in
      omega (
        arith,
        ap (λ (q : ℕ). f p + met f M q (suc n)) (next_inner p (λ x. omega arith)),
        run_on (suc n) (p + 1) (omega arith),
        sum_more p f,
        ap (λ (k : ℕ). sum k f) same,
      )

  pub rotation : (p : ℕ) → p < M → met f M p M ≡ sum M f
  rotation p l =
      let m = M - suc p in
      let whole : suc m + p ≡ M = omega arith in
      let first : 0 + p ≡ p = omega arith in
      omega (
        arith,
        to_end m p p (omega arith),
        run_on p 0 (omega arith),
        ap (λ (k : ℕ). met f M p k) whole,
        ap (λ (k : ℕ). sum k f) first,
        sum_none f,
      )
