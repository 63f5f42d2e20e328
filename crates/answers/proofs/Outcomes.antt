-- An answer tells which refusal it is of, and what was given: two outcomes of a call that are answered alike are one.
use mathlib.Core.Path.{◌≡◌, refl, sym, ap}
use native.Mathlib.Omega.{arith}
use lib.IntN.{ℤ, pos}
use lib.Signed.{mag}
use Rattle.std.proofs.Common.{ℕ, Result, Ok, Err}
use Rattle.answers.specs.declared.Answer.{Answer}
use Rattle.answers.specs.declared.Refusal.{Refusal}
use Rattle.answers.specs.Numbers.{DONE}
use Rattle.answers.specs.Answers.{refused, answer_of, plain_answer, signed_answer, counted_answer}

-- no refusal has the number of a call that is done
pub not_done : (r : Refusal) → (refused r).number ≡ DONE → ⊥
not_done r e = grind arith

-- no two refusals are one in the list
pub one_refusal : (r s : Refusal) → refused r ≡ refused s → r ≡ s
one_refusal r s e = grind arith

module _ {A : Type 0} (value : A → ℤ) (kept : (x y : A) → value x ≡ value y → x ≡ y) where
  pub one_outcome : (a b : Result A Refusal) → answer_of value a ≡ answer_of value b → a ≡ b
  one_outcome (Ok x) (Ok y) e = ap Ok (kept x y (ap (λ (a : Answer). a.detail) e))
  one_outcome (Ok x) (Err s) e = absurd (not_done s (ap (λ (a : Answer). a.number) (sym e)))
  one_outcome (Err r) (Ok y) e = absurd (not_done r (ap (λ (a : Answer). a.number) e))
  one_outcome (Err r) (Err s) e = ap Err (one_refusal r s e)

pub one_plain : (a b : Result (Unit {0}) Refusal) → plain_answer a ≡ plain_answer b → a ≡ b
one_plain a b e = one_outcome (λ _. pos 0) (λ x y _. refl) a b e

pub one_signed : (a b : Result ℤ Refusal) → signed_answer a ≡ signed_answer b → a ≡ b
one_signed a b e = one_outcome (λ z. z) (λ x y h. h) a b e

pub one_counted : (a b : Result ℕ Refusal) → counted_answer a ≡ counted_answer b → a ≡ b
one_counted a b e = one_outcome (λ n. pos n) (λ x y h. ap mag h) a b e
