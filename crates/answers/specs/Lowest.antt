-- The lowest number at which a test holds: every detail that says "lowest such" is this one definition.
use Rattle.std.specs.Prelude.{ℕ, zero, suc, ◌+◌, ◌≤◌, ◌<◌, Bool, cond, ltb, Option, Some, None}

-- the lowest of from, from + 1, .. (count of them) at which the test holds; where it holds at none of them, from + count
unfoldable pub lowest : ℕ → ℕ → (ℕ → Bool) → ℕ
lowest from zero test = from
lowest from (suc count) test = cond (test from) from (lowest (suc from) count test)

-- the test holds at one of them
abbrev pub holds_somewhere : ℕ → ℕ → (ℕ → Bool) → Bool
holds_somewhere from count test = ltb (lowest from count test) (from + count)

-- the lowest such, or none
abbrev pub found : ℕ → ℕ → (ℕ → Bool) → Option ℕ
found from count test = cond (holds_somewhere from count test) (Some (lowest from count test)) None

-- k is the lowest of from, from + 1, .. (count of them) of which P is true
pub record IsLowest (from count : ℕ) (P : ℕ → Type 0) (k : ℕ) : Type 0 where
  pub low : from ≤ k
  pub high : k < from + count
  pub there : P k
  pub none_lower : (j : ℕ) → from ≤ j → j < k → P j → ⊥
