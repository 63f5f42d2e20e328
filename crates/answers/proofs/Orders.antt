-- A condition that joins two holds where the first does; r is what was found of the first, and a the condition that it stands for.
use mathlib.Core.Path.{◌≡◌, sym, ◌∙◌, ap}
use mathlib.Core.Bool.{Bool, true, ◌||◌}

pub or_true : {a r : Bool} (b : Bool) → r ≡ a → r ≡ true → (a || b) ≡ true
or_true b e t = ap (λ (x : Bool). x || b) (sym e ∙ t)
