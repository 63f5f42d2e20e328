-- What is known of the answer that a contract gives is known of the call's answer.
use mathlib.Core.Path.{◌≡◌, sym, ◌∙◌}
use mathlib.Core.Logic.{◌↔◌}

pub exactly : {A : Type 0} {a b c : A} {P : Type 0} → a ≡ b → (b ≡ c) ↔ P → (a ≡ c) ↔ P
exactly e law = (λ x. law.0 (sym e ∙ x), λ p. e ∙ law.1 p)
