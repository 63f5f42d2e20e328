-- Sums over the first numbers: every count, every load and the delays of all links are one of these.
use Rattle.std.specs.Prelude.{ℕ, zero, suc, ◌+◌, Bool, true, false}

-- f 0 + f 1 + .. + f (n - 1)
unfoldable pub sum : ℕ → (ℕ → ℕ) → ℕ
sum zero f = 0
sum (suc n) f = sum n f + f n

-- 1 where the test holds, else 0: a sum of these counts
abbrev pub one : Bool → ℕ
one true = 1
one false = 0
