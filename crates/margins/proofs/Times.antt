-- The least number of times, reached by a division.
use Prim.Native.Nat.{ℕ, zero, suc, ◌+◌, ◌*◌, ◌/◌, ◌≤◌, ◌<◌}
use Rattle.std.proofs.Common.{◌%◌, min}
use Rattle.std.proofs.lemmas.Grind.{div_ceil_times}
use mathlib.Core.Path.{◌≡◌, refl, sym, ap}
use native.Mathlib.Omega.{arith}
use native.Mathlib.Decide.{ℕ_discrete, dec_lt}
use native.Mathlib.Nat.{div-add-mod', mod-lt, zero-mul, suc-mul, mul-le-mul_right, mul-le-mul_left, mul-one}
use borrow.Author.Tests.{le-leb, lt-leb}
use lib.Dec.{leb}
use Rattle.answers.specs.Lowest.{lowest}
use Rattle.answers.proofs.Lowest.{lowest_is, lowest_none, Nowhere}
use Rattle.margins.specs.Margins.{least_times}

module _ (d n : ℕ) (some : 0 < d) (least : ℕ) (reached : n ≤ least * d) (not_before : (c : ℕ) → c < least → c * d < n) where
  -- a number that reaches n, and no lower number does, is the least
  pub is_least : least ≡ least_times d n
  unfolding least_times
  is_least = go (dec_lt least n)
    where
      below : Nowhere 0 least (λ c. leb n (c * d))
      below c l u = lt-leb n (c * d) (not_before c u)

      go : Dec (least < n) → least ≡ lowest 0 n (λ c. leb n (c * d))
      go (yes u) = sym (lowest_is 0 n (λ c. leb n (c * d)) least (omega arith) (omega arith) (le-leb n (least * d) reached) below)
      go (no h) = omega (arith, all (ℕ_discrete least n), lowest_none 0 n (λ c. leb n (c * d)) (λ c l u. below c l (omega arith)))
        where
          all : Dec (least ≡ n) → least ≡ n
          all (yes e) = e
          all (no x) = absurd (omega (arith, not_before n (omega arith), mul-le-mul_left {m = 1} {n = d} n some, mul-one n))

-- the division rounded up, as the library states it
pub least_by_division : (d n : ℕ) → 0 < d → n / d + min 1 (n % d) ≡ least_times d n
least_by_division d n some =
    let up = div_ceil_times n d some in
    is_least d n some (n / d + min 1 (n % d)) up.0 (λ c u. omega (arith, up.1, mul-le-mul_right {m = suc c} {n = n / d + min 1 (n % d)} d (omega arith), suc-mul c d))

pub least_of_none : (d : ℕ) → 0 ≡ least_times d 0
unfolding least_times
least_of_none d = sym (lowest_none 0 0 (λ c. leb 0 (c * d)) (λ k l u. absurd (omega arith)))

-- the least number of times reaches n, and no lower number does
pub least_reaches : (d n : ℕ) → 0 < d → n ≤ least_times d n * d
least_reaches d n some = rw (← least_by_division d n some) (div_ceil_times n d some).0

pub lower_fails : (d n : ℕ) → 0 < d → (c : ℕ) → c < least_times d n → c * d < n
lower_fails d n some c u =
    let e = least_by_division d n some in
    let up = div_ceil_times n d some in
    omega (arith, up.1, mul-le-mul_right {m = suc c} {n = n / d + min 1 (n % d)} d (omega arith), suc-mul c d)

pub least_by_quotient : (d n : ℕ) → 0 < d → least_times d n ≤ n / d + 1
least_by_quotient d n some = omega (arith, least_by_division d n some)

-- n times is always enough
pub least_at_most : (d n : ℕ) → 0 < d → 0 < n → least_times d n ≤ n
least_at_most d n some more = go (dec_lt n (least_times d n))
  where
    go : Dec (n < least_times d n) → least_times d n ≤ n
    go (yes u) = absurd (omega (arith, lower_fails d n some n u, mul-le-mul_left {m = 1} {n = d} n some, mul-one n))
    go (no h) = omega arith

-- a number that is at least the divisor goes into it at least once
pub quotient_some : (n m : ℕ) → 0 < m → m ≤ n → 0 < n / m
quotient_some n m some h = go (n / m) refl
  where
    go : (q : ℕ) → n / m ≡ q → 0 < q
    go zero e = absurd (omega (arith, div-add-mod' n m, mod-lt n some, ap (λ (x : ℕ). x * m) e, zero-mul m))
    go (suc q) e = omega arith
