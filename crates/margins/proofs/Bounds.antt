-- How far the bound can go, and what it is over links of one common delay.
use Prim.Native.Nat.{ℕ, ◌+◌, ◌*◌, ◌≤◌, ◌<◌}
use mathlib.Core.Path.{◌≡◌, ◌∙◌, ap}
use mathlib.Core.Bool.{false}
use mathlib.Core.List.{List}
use native.Mathlib.Omega.{arith}
use native.Mathlib.Nat.{mul-le-mul}
use lib.ListN.{length, replicate, length-replicate, get_or-replicate}
use Rattle.std.proofs.Common.{Fits, w16}
use Rattle.std.specs.List.{sum as list_total}
use Rattle.answers.specs.Limits.{max_frame, max_links, max_delay, max_detail, Within}
use Rattle.answers.specs.Lowest.{holds_somewhere}
use Rattle.answers.specs.Sums.{sum}
use Rattle.answers.proofs.Lowest.{somewhere_false}
use Rattle.answers.proofs.Ranges.{inside}
use Rattle.answers.proofs.Sums.{list_sum, sum_agree, sum_const, sum_at_most}
use Rattle.margins.specs.Margins.{delay_of, bound, link_out_of_range}

-- where refusal 25 is not due, every delay is one that a link can have
delays_in_range : (D : List ℕ) → holds_somewhere 0 (length D) (link_out_of_range D) ≡ false → (k : ℕ) → k < length D → Within 1 max_delay (delay_of D k)
delays_in_range D e k u = inside {low = 1} {high = max_delay} {x = delay_of D k} (somewhere_false 0 (length D) (link_out_of_range D) e k (omega arith) (omega arith))

-- the longest frame over the most links, each of the longest delay, is the most that the bound can be
pub bound_at_most : (M : ℕ) (D : List ℕ) → M ≤ max_frame → length D ≤ max_links → holds_somewhere 0 (length D) (link_out_of_range D) ≡ false
    → bound M D ≤ (max_links + 1) * max_frame + max_links * max_delay
bound_at_most M D frames links e =
    omega (
      arith,
      mul-le-mul {n₁ = length D + 1} {m₁ = M} {n₂ = max_links + 1} {m₂ = max_frame} (omega arith) frames,
      sum_at_most (length D) (delay_of D) max_delay (λ k u. (delays_in_range D e k u).at_most),
    )

-- h links of one delay d
pub common_bound : (M h d : ℕ) → bound M (replicate h d) ≡ (h + 1) * M + h * d
common_bound M h d =
    ap (λ (n : ℕ). (n + 1) * M + sum n (delay_of (replicate h d))) (length-replicate h d)
    ∙ ap (λ (n : ℕ). (h + 1) * M + n) (sum_agree h (delay_of (replicate h d)) (λ k. d) (λ k u. get_or-replicate h k d 0 u) ∙ sum_const h d)

-- 16-bit numbers of so few links, over so short a frame, fit a detail, whether they are in range or not
pub bound_fits : (M : ℕ) (D : List ℕ) → M ≤ max_frame → length D ≤ max_links → ((k : ℕ) → Fits w16 (delay_of D k))
    → ((length D + 1) * M + list_total D ≡ bound M D) × (bound M D < max_detail)
bound_fits M D frames links fits =
    let e = list_sum D in (
      omega (arith, e),
      omega (
        arith,
        mul-le-mul {n₁ = length D + 1} {m₁ = M} {n₂ = max_links + 1} {m₂ = max_frame} (omega arith) frames,
        sum_at_most (length D) (delay_of D) 65535 (λ k u. omega (arith, fits k)),
      ),
    )
