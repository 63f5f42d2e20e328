-- Signed numbers: how large a difference is, and that truncating division with one taken off for a remainder below zero rounds down.
use Prim.Native.Nat.{ℕ, zero, suc, ◌+◌, ◌-◌, ◌*◌, ◌/◌, ◌%◌, ◌≤◌, ◌<◌}
use mathlib.Core.Path.{◌≡◌, refl, sym, ◌∙◌, ap, subst}
use mathlib.Core.Bool.{Bool, true, false, true≢false}
use native.Mathlib.Omega.{arith}
use native.Mathlib.Nat.{div-add-mod', mod-lt, add-zero, div-le_self, zero-mul, suc-mul}
use borrow.Author.Tests.{ltb-true}
use lib.Arith.{digits_div}
use lib.IntN.{ℤ, pos, negsuc, neg_ℤ, sub_ℕ, ◌-ℤ◌}
use lib.Signed.{mag, lt_z, quot_z, rem_z, mag_rem}
use mir.Syntax.{w32}
use mir.Val.{SFits, to_z, of_z}
use mir.ValLaws.{sfits_le, to_z-of_z}
use Rattle.margins.specs.Margins.{floor_div}

mag_sub : (a b : ℕ) → mag (sub_ℕ a b) ≤ a + b
mag_sub a b = grind arith

-- a difference is no larger than the two numbers together
pub mag_less : (a b : ℕ) → mag (pos a -ℤ pos b) ≤ a + b
mag_less a zero = omega arith
mag_less a (suc b) = mag_sub a (suc b)

-- one less than a number that is not above zero
minus_one : (q : ℕ) → neg_ℤ (pos q) -ℤ pos 1 ≡ negsuc q
minus_one zero = refl
minus_one (suc q) = ap (λ (x : ℕ). negsuc (suc x)) (add-zero q)

-- a and its successor divide alike where the successor leaves something over, and otherwise differ by one
module _ (a d : ℕ) (some : 0 < d) where
  split : suc a / d * d + suc a % d ≡ suc a
  split = div-add-mod' (suc a) d

  pub over : (suc a % d ≡ 0 → ⊥) → suc a / d ≡ a / d
  over h =
      let e : a ≡ suc a / d * d + (suc a % d - 1) = omega (arith, split) in
      sym (ap (λ (x : ℕ). x / d) e ∙ digits_div (suc a / d) {m = d} {r = suc a % d - 1} (omega (arith, mod-lt (suc a) some)))

  pub even : suc a % d ≡ 0 → suc a / d ≡ suc (a / d)
  even h = go (suc a / d) refl
    where
      go : (q : ℕ) → suc a / d ≡ q → q ≡ suc (a / d)
      go zero e = absurd (omega (arith, split, ap (λ (x : ℕ). x * d) e, zero-mul d))
      go (suc q) e =
          let is : a ≡ q * d + (d - 1) = omega (arith, split, ap (λ (x : ℕ). x * d) e, suc-mul q d) in
          ap suc (sym (ap (λ (x : ℕ). x / d) is ∙ digits_div q {m = d} {r = d - 1} (omega arith)))

below_zero : (r : ℕ) → lt_z (neg_ℤ (pos r)) (pos 0) ≡ true → r ≡ 0 → ⊥
below_zero zero e z = true≢false (sym e)
below_zero (suc r) e z = omega arith

not_below : (r : ℕ) → lt_z (neg_ℤ (pos r)) (pos 0) ≡ false → r ≡ 0
not_below zero e = refl
not_below (suc r) e = absurd (true≢false e)

not_over : (r : ℕ) → lt_z (pos r) (pos 0) ≡ true → ⊥
not_over r e = omega (arith, ltb-true r 0 e)

pub one_off : (n : ℤ) (d : ℕ) → 0 < d → lt_z (rem_z n (pos d)) (pos 0) ≡ true → quot_z n (pos d) -ℤ pos 1 ≡ floor_div n d
one_off (pos a) d some e = absurd (not_over (a % d) e)
one_off (negsuc a) d some e = minus_one (suc a / d) ∙ ap negsuc (over a d some (below_zero (suc a % d) e))

pub none_off : (n : ℤ) (d : ℕ) → 0 < d → lt_z (rem_z n (pos d)) (pos 0) ≡ false → quot_z n (pos d) ≡ floor_div n d
none_off (pos a) d some e = refl
none_off (negsuc a) d some e = ap (λ (x : ℕ). neg_ℤ (pos x)) (even a d some (not_below (suc a % d) e))

-- neither the quotient nor the rounded one is larger than the number
pub mag_floor : (n : ℤ) (d : ℕ) → mag (floor_div n d) ≤ mag n
mag_floor (pos a) d = div-le_self a d
mag_floor (negsuc a) d = div-le_self a d

mag_neg : (q a : ℕ) → q ≤ suc a → mag (neg_ℤ (pos q)) ≤ a
mag_neg zero a h = omega arith
mag_neg (suc q) a h = omega arith

pub mag_quot : (n : ℤ) (d : ℕ) → mag (quot_z n (pos d)) ≤ mag n
mag_quot (pos a) d = div-le_self a d
mag_quot (negsuc a) d = mag_neg (suc a / d) a (div-le_self (suc a) d)

-- the same for the bits of a signed number, as the machine holds and reads them: z and w are what it reads for n and d
module _ (n : ℤ) (d : ℕ) (f : SFits w32 n) (some : 0 < d) (z : ℤ) (z-is : z ≡ n) (w : ℤ) (w-is : w ≡ pos d) where
  quot_is : quot_z z w ≡ quot_z n (pos d)
  quot_is = ap (λ (x : ℤ). quot_z x w) z-is ∙ ap (λ (x : ℤ). quot_z n x) w-is

  pub quot_fits : SFits w32 (quot_z z w)
  quot_fits = subst (λ (x : ℤ). SFits w32 x) (sym quot_is) (sfits_le {z = n} (mag_quot n d) f)

  read_quot : to_z w32 (of_z w32 (quot_z z w)) ≡ quot_z n (pos d)
  read_quot = to_z-of_z w32 (quot_z z w) quot_fits ∙ quot_is

  rem_is : rem_z z w ≡ rem_z n (pos d)
  rem_is = ap (λ (x : ℤ). rem_z x w) z-is ∙ ap (λ (x : ℤ). rem_z n x) w-is

  rem_fits : SFits w32 (rem_z z w)
  rem_fits = subst (λ (x : ℤ). SFits w32 x) (sym rem_is) (sfits_le {z = n} (mag_rem n (pos d)) f)

  test_is : (t : Bool) → lt_z (to_z w32 (of_z w32 (rem_z z w))) (pos 0) ≡ t → lt_z (rem_z n (pos d)) (pos 0) ≡ t
  test_is t e = sym (ap (λ (x : ℤ). lt_z x (pos 0)) (to_z-of_z w32 (rem_z z w) rem_fits ∙ rem_is)) ∙ e

  module _ (e : lt_z (to_z w32 (of_z w32 (rem_z z w))) (pos 0) ≡ true) where
    one_off_is : to_z w32 (of_z w32 (quot_z z w)) -ℤ pos 1 ≡ floor_div n d
    one_off_is = ap (λ (x : ℤ). x -ℤ pos 1) read_quot ∙ one_off n d some (test_is true e)

    pub one_off_fits : SFits w32 (to_z w32 (of_z w32 (quot_z z w)) -ℤ pos 1)
    one_off_fits = subst (λ (x : ℤ). SFits w32 x) (sym one_off_is) (sfits_le {z = n} (mag_floor n d) f)

    pub read_one_off : to_z w32 (of_z w32 (to_z w32 (of_z w32 (quot_z z w)) -ℤ pos 1)) ≡ floor_div n d
    read_one_off = to_z-of_z w32 (to_z w32 (of_z w32 (quot_z z w)) -ℤ pos 1) one_off_fits ∙ one_off_is

  pub read_none_off : lt_z (to_z w32 (of_z w32 (rem_z z w))) (pos 0) ≡ false → to_z w32 (of_z w32 (quot_z z w)) ≡ floor_div n d
  read_none_off e = read_quot ∙ none_off n d some (test_is false e)
