-- The load of a port, as a loop over the flows comes to know it.
use Prim.Native.Nat.{ℕ, suc, ◌+◌, ◌-◌, ◌≤◌, ◌<◌}
use mathlib.Core.Path.{◌≡◌, refl, sym, ap, ◌∙◌}
use mathlib.Core.Bool.{Bool, true, false}
use mathlib.Core.List.{List}
use native.Mathlib.Omega.{arith}
use native.Mathlib.Numerals.{add-one}
use borrow.Author.Tests.{lt-ltb, le-ltb}
use lib.Dec.{ltb}
use Rattle.answers.specs.Sums.{sum}
use Rattle.answers.proofs.Sums.{sum_step, sum_prefix}
use Rattle.flows.specs.Flows.{flow_count, cells_at, overloaded, input_load, output_load}

-- the cells that a port, taken as an input or as an output, is asked for by the first flows
abbrev pub asked_of : Bool → List ℕ → ℕ → ℕ → ℕ
asked_of asInput L port k = sum k (λ x. cells_at asInput L port (suc x))

pub overloaded_is : (asInput : Bool) (M : ℕ) (L : List ℕ) (port : ℕ) → overloaded asInput M L port ≡ ltb M (asked_of asInput L port (flow_count L))
unfolding input_load output_load
overloaded_is true M L port = refl
overloaded_is false M L port = refl

module _ (asInput : Bool) (M : ℕ) (L : List ℕ) (port : ℕ) (free passed : ℕ) (kept : free + asked_of asInput L port passed ≡ M) where
  one_more : (asked : ℕ) → asked ≡ cells_at asInput L port (passed + 1) → asked_of asInput L port (suc passed) ≡ asked_of asInput L port passed + asked
  one_more asked e =
      omega (arith, sum_step passed (λ x. cells_at asInput L port (suc x)), e, ap (λ (k : ℕ). cells_at asInput L port k) (add-one passed))

  pub none_free : (asked : ℕ) → passed < flow_count L → asked ≡ cells_at asInput L port (passed + 1) → free < asked → true ≡ overloaded asInput M L port
  none_free asked u e l =
      sym
      (overloaded_is asInput M L port
      ∙ lt-ltb M (asked_of asInput L port (flow_count L))
      (omega (arith, one_more asked e, sum_prefix (suc passed) (flow_count L) (λ x. cells_at asInput L port (suc x)) u)))

  pub some_free : (asked : ℕ) → asked ≡ cells_at asInput L port (passed + 1) → asked ≤ free → (free - asked) + asked_of asInput L port (passed + 1) ≡ M
  some_free asked e l = omega (arith, one_more asked e, ap (λ (k : ℕ). asked_of asInput L port k) (add-one passed))

  pub all_free : flow_count L ≡ passed → false ≡ overloaded asInput M L port
  all_free e =
      sym
      (overloaded_is asInput M L port
      ∙ le-ltb M (asked_of asInput L port (flow_count L)) (omega (arith, ap (λ (k : ℕ). asked_of asInput L port k) e)))
