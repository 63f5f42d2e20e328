-- What stands in a lent buffer once its first numbers were written.
use Rattle.std.specs.Prelude.{ℕ, zero, suc, List, set}

-- f 0, f 1, .. f (n - 1) in the first n places of B; the others stay
unfoldable pub written : ℕ → (ℕ → ℕ) → List ℕ → List ℕ
written zero f B = B
written (suc n) f B = set (written n f B) n (f n)
