-- The one way to write a number: in decimal digits, with no leading 0.
use Rattle.std.specs.Prelude.{ℕ, zero, suc, ◌+◌, ◌/◌, ◌%◌, cond, List, [], ◌∷◌, ◌++◌, ltb}

-- the byte of digit 0, and so of digit d it is this plus d
abbrev pub zero_byte : ℕ
zero_byte = 48

-- the digits of n, of which there are at most one more than the count
unfoldable pub spelled : ℕ → ℕ → List ℕ
spelled zero n = (zero_byte + n % 10) ∷ []
spelled (suc count) n = let rest = spelled count (n / 10) in cond (ltb n 10) ((zero_byte + n) ∷ []) (rest ++ (zero_byte + n % 10) ∷ [])

-- the digits of a number below 10 to the 20th, which no number of 64 bits reaches
unfoldable pub digits : ℕ → List ℕ
digits n = spelled 19 n
