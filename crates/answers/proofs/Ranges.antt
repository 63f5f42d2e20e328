-- What joined tests say of their parts, and what the test of a range says of the number.
use Prim.Native.Nat.{ℕ}
use mathlib.Core.Path.{◌≡◌, refl, sym}
use mathlib.Core.Bool.{Bool, true, false, ◌&&◌, ◌||◌, true≢false}
use borrow.Author.Tests.{ltb-false, le-ltb}
use lib.Dec.{ltb}
use Rattle.answers.specs.Limits.{outside, Within}

pub either_false : (a b : Bool) → (a || b) ≡ false → (a ≡ false) × (b ≡ false)
either_false true b e = absurd (true≢false e)
either_false false b e = (refl, e)

pub both_true : (a b : Bool) → (a && b) ≡ true → (a ≡ true) × (b ≡ true)
both_true true b e = (refl, e)
both_true false b e = absurd (true≢false (sym e))

pub second_false : (a b : Bool) → (a && b) ≡ false → a ≡ true → b ≡ false
second_false true b e t = e
second_false false b e t = absurd (true≢false (sym t))

pub inside : {low high x : ℕ} → outside low high x ≡ false → Within low high x
inside {low} {high} {x} e =
    let both = either_false (ltb x low) (ltb high x) e in
    record { at_least = ltb-false x low both.0; at_most = ltb-false high x both.1 }

pub within_test : {low high x : ℕ} → Within low high x → outside low high x ≡ false
within_test {low} {high} {x} w = simp (le-ltb x low w.at_least, le-ltb high x w.at_most)
