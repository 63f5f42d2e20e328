-- One slot and one flow: of any column of entries the flow sends as many cells as it is named times, as far as it has cells waiting.
use Prim.Native.Nat.{ℕ, zero, suc, ◌+◌, ◌-◌, min}
use mathlib.Core.Path.{◌≡◌, refl}
use mathlib.Core.Bool.{cond}
use mathlib.Core.List.{List}
use native.Mathlib.Omega.{arith}
use lib.ListN.{length, length-set}
use lib.Seq.{get_or-set_same, get_or-set_other}
use lib.Dec.{eqb}
use Rattle.answers.specs.Limits.{Within}
use Rattle.answers.specs.Sums.{sum, one}
use Rattle.forwarding.specs.Forwarding.{waiting_of, sent_byte, taken, added, served, output_byte}

-- serving keeps the number of counts
pub served-length : (n : ℕ) (f : ℕ → ℕ) (W : List ℕ) → length (served n f W) ≡ length W
unfolding served
served-length zero f W = refl
served-length (suc n) f W = grind (arith, length-set, served-length n f W)

module _ (k : ℕ) where
  -- flow k's cells that an entry sends
  byte_is : (W : List ℕ) (e : ℕ) → Within 1 (length W) k → one (eqb (sent_byte W e) k) ≡ min (one (eqb e k)) (waiting_of W k)
  byte_is W e known = grind arith

  -- and what is left of them
  taken_is : (W : List ℕ) (e : ℕ) → Within 1 (length W) k → waiting_of (taken W e) k ≡ waiting_of W k - one (eqb e k)
  taken_is W e known = grind (arith, get_or-set_same, get_or-set_other)

  still_known : (n : ℕ) (f : ℕ → ℕ) (W : List ℕ) → Within 1 (length W) k → Within 1 (length (served n f W)) k
  still_known n f W known = grind (arith, served-length)

  -- a column in which the flow is named that many times leaves that many fewer waiting
  pub served_is : (n : ℕ) (f : ℕ → ℕ) (W : List ℕ) → Within 1 (length W) k
      → waiting_of (served n f W) k ≡ waiting_of W k - sum n (λ r. one (eqb (f r) k))
  unfolding served sum
  served_is zero f W known = omega arith
  served_is (suc n) f W known =
      omega (arith, served_is n f W known, taken_is (served n f W) (f n) (still_known n f W known))

  -- and sends that many, or all that wait
  pub sent_is : (n : ℕ) (f : ℕ → ℕ) (W : List ℕ) → Within 1 (length W) k
      → sum n (λ r. one (eqb (output_byte f W r) k)) ≡ min (sum n (λ r. one (eqb (f r) k))) (waiting_of W k)
  unfolding sum
  sent_is zero f W known = omega arith
  sent_is (suc n) f W known =
      omega (arith, sent_is n f W known, served_is n f W known, byte_is (served n f W) (f n) (still_known n f W known))

  -- an offer that is made to a flow with a count
  pub added_is : (W : List ℕ) (j n : ℕ) → Within 1 (length W) j → Within 1 (length W) k
      → waiting_of (added W j n) k ≡ waiting_of W k + cond (eqb j k) n 0
  added_is W j n its known = grind (arith, get_or-set_same, get_or-set_other)
