-- The laws of the digits of a number. All of them follow from one induction, from the last digit to the first.
use Prim.Native.Nat.{ℕ, zero, suc, ◌+◌, ◌-◌, ◌*◌, ◌/◌, ◌%◌, ◌^◌, ◌≤◌, ◌<◌}
use mathlib.Core.Path.{◌≡◌, refl, sym, ◌∙◌, ap, subst}
use mathlib.Core.Bool.{Bool, true, false, cond}
use mathlib.Core.List.{List, [], ◌∷◌, ◌++◌, append-nil}
use native.Mathlib.Omega.{arith}
use native.Mathlib.Nat.{pow-suc, pow-le-pow_right, div-lt_iff_lt-mul, mod-eq_of_lt}
use native.Mathlib.Decide.{ℕ_discrete}
use borrow.Author.Tests.{ltb-true, ltb-false, lt-ltb, le-ltb}
use lib.Dec.{ltb}
use lib.ListN.{length, get_or, length-append, get_or-append}
use lib.Seq.{append_snoc}
use Rattle.answers.specs.Limits.{Within}
use Rattle.plan_text.specs.Digits.{zero_byte, spelled, digits}

-- a number of count + 2 digits at most has a tenth of count + 1 digits at most
tenth : (count n : ℕ) → n < 10 ^ suc (suc count) → n / 10 < 10 ^ suc count
tenth count n l = (div-lt_iff_lt-mul {k = 10} (omega arith)).1 (subst (λ (x : ℕ). n < x) (pow-suc 10 (suc count)) l)

-- one digit, and one digit more
spelled_small : (count n : ℕ) → n < 10 → spelled count n ≡ (zero_byte + n) ∷ []
unfolding spelled
spelled_small zero n l = ap (λ (x : ℕ). (zero_byte + x) ∷ []) (mod-eq_of_lt l)
spelled_small (suc count) n l =
    ap (λ (b : Bool). cond b ((zero_byte + n) ∷ []) (spelled count (n / 10) ++ (zero_byte + n % 10) ∷ [])) (lt-ltb n 10 l)

spelled_more : (count n : ℕ) → 10 ≤ n → spelled (suc count) n ≡ spelled count (n / 10) ++ (zero_byte + n % 10) ∷ []
unfolding spelled
spelled_more count n l =
    ap (λ (b : Bool). cond b ((zero_byte + n) ∷ []) (spelled count (n / 10) ++ (zero_byte + n % 10) ∷ [])) (le-ltb n 10 l)

-- what is true of one digit, and with a list of digits of that list and one digit more, is true of every number's digits
module _
    (P : ℕ → List ℕ → Type 0)
    (one : (n : ℕ) → n < 10 → P n ((zero_byte + n) ∷ []))
    (more : (n : ℕ) (l : List ℕ) → 10 ≤ n → P (n / 10) l → P n (l ++ (zero_byte + n % 10) ∷ []))
  where
    spelled_by : (count n : ℕ) → n < 10 ^ suc count → P n (spelled count n)
    spelled_by zero n l = subst (P n) (sym (spelled_small zero n l)) (one n l)
    spelled_by (suc count) n l = go (ltb n 10) refl (spelled_by count (n / 10) (tenth count n l))
      where
        go : (b : Bool) → ltb n 10 ≡ b → P (n / 10) (spelled count (n / 10)) → P n (spelled (suc count) n)
        go true e rest = subst (P n) (sym (spelled_small (suc count) n (ltb-true n 10 e))) (one n (ltb-true n 10 e))
        go false e rest = subst (P n) (sym (spelled_more count n (ltb-false n 10 e))) (more n _ (ltb-false n 10 e) rest)

    pub digits_by : (n : ℕ) → n < 10 ^ 20 → P n (digits n)
    unfolding digits
    digits_by n l = spelled_by 19 n l

pub digits_small : (n : ℕ) → n < 10 → digits n ≡ (zero_byte + n) ∷ []
unfolding digits
digits_small n l = spelled_small 19 n l

-- a count that is large enough and one more spell the same digits
spelled_same : (count n : ℕ) → n < 10 ^ suc count → spelled (suc count) n ≡ spelled count n
spelled_same zero n l = spelled_small 1 n l ∙ sym (spelled_small zero n l)
spelled_same (suc count) n l = go (ltb n 10) refl (spelled_same count (n / 10) (tenth count n l))
  where
    go : (b : Bool) → ltb n 10 ≡ b → spelled (suc count) (n / 10) ≡ spelled count (n / 10) → spelled (suc (suc count)) n ≡ spelled (suc count) n
    go true e rest = spelled_small (suc (suc count)) n (ltb-true n 10 e) ∙ sym (spelled_small (suc count) n (ltb-true n 10 e))
    go false e rest =
        spelled_more (suc count) n (ltb-false n 10 e)
        ∙ ap (λ (l : List ℕ). l ++ (zero_byte + n % 10) ∷ []) rest
        ∙ sym (spelled_more count n (ltb-false n 10 e))

-- a digit put behind a number's digits gives the digits of ten times that number and the digit
pub digits_more : (v d : ℕ) → 1 ≤ v → v < 10 ^ 19 → d < 10 → digits (v * 10 + d) ≡ digits v ++ (zero_byte + d) ∷ []
unfolding digits
digits_more v d some low l =
    spelled_more 18 (v * 10 + d) (omega arith)
    ∙ ap (λ (n : ℕ). spelled 18 n ++ (zero_byte + (v * 10 + d) % 10) ∷ []) tens
    ∙ ap (λ (n : ℕ). spelled 18 v ++ (zero_byte + n) ∷ []) ones
    ∙ ap (λ (s : List ℕ). s ++ (zero_byte + d) ∷ []) (sym (spelled_same 18 v low))
  where
    tens : (v * 10 + d) / 10 ≡ v
    tens = omega arith

    ones : (v * 10 + d) % 10 ≡ d
    ones = omega arith

-- a number below a power of ten has at most so many digits
pub digits-length : (k n : ℕ) → n < 10 ^ suc k → n < 10 ^ 20 → length (digits n) ≤ suc k
digits-length k n l low = digits_by (λ n l. (k : ℕ) → n < 10 ^ suc k → length l ≤ suc k) (λ n s k b. omega arith) more n low k l
  where
    more : (n : ℕ) (l : List ℕ) → 10 ≤ n → ((k : ℕ) → n / 10 < 10 ^ suc k → length l ≤ suc k)
        → (k : ℕ) → n < 10 ^ suc k → length (l ++ (zero_byte + n % 10) ∷ []) ≤ suc k
    more n l a rest zero b = absurd (omega arith)
    more n l a rest (suc k) b = omega (arith, length-append l ((zero_byte + n % 10) ∷ []), rest k (tenth k n b))

-- every digit is a byte from 48 to 57
abbrev pub AllDigits : List ℕ → Type 0
AllDigits [] = Unit {0}
AllDigits (b ∷ l) = Within zero_byte (zero_byte + 9) b × AllDigits l

pub digits_bytes : (n : ℕ) → n < 10 ^ 20 → AllDigits (digits n)
digits_bytes n low =
    digits_by (λ n l. AllDigits l) (λ n s. (record { at_least = omega arith; at_most = omega arith }, tt))
    (λ n l a rest. behind l (zero_byte + n % 10) (record { at_least = omega arith; at_most = omega arith }) rest) n low
  where
    behind : (l : List ℕ) (b : ℕ) → Within zero_byte (zero_byte + 9) b → AllDigits l → AllDigits (l ++ b ∷ [])
    behind [] b w h = (w, tt)
    behind (c ∷ l) b w h = (h.0, behind l b w h.1)

-- there is a first digit, and it is 0 only of the number 0
pub record FirstDigit (n : ℕ) (l : List ℕ) : Type 0 where
  pub there : 0 < length l
  pub leading : get_or l 0 0 ≡ zero_byte → n ≡ 0

pub digits_first : (n : ℕ) → n < 10 ^ 20 → FirstDigit n (digits n)
digits_first n low =
    digits_by FirstDigit (λ n s. record { there = omega arith; leading = λ e. omega arith })
    (λ n l a f.
    record {
      there = omega (arith, length-append l ((zero_byte + n % 10) ∷ []));
      leading = λ e. absurd (omega (arith, f.leading (sym (get_or-append l ((zero_byte + n % 10) ∷ []) 0 0 f.there) ∙ e)));
    }) n low

-- the number that digits say, when v has been read before them
abbrev pub read_as : ℕ → List ℕ → ℕ
read_as v [] = v
read_as v (b ∷ l) = read_as (v * 10 + (b - zero_byte)) l

pub digits_read : (n : ℕ) → n < 10 ^ 20 → read_as 0 (digits n) ≡ n
digits_read n low = digits_by (λ n l. read_as 0 l ≡ n) (λ n s. omega arith) (λ n l a e. omega (arith, behind 0 l (zero_byte + n % 10), e)) n low
  where
    behind : (v : ℕ) (l : List ℕ) (b : ℕ) → read_as v (l ++ b ∷ []) ≡ read_as v l * 10 + (b - zero_byte)
    behind v [] b = refl
    behind v (c ∷ l) b = behind (v * 10 + (c - zero_byte)) l b

-- two numbers are not written alike
pub digits_injective : (m n : ℕ) → m < 10 ^ 20 → n < 10 ^ 20 → digits m ≡ digits n → m ≡ n
digits_injective m n lm ln e = sym (digits_read m lm) ∙ ap (read_as 0) e ∙ digits_read n ln

-- digits behind a number that is not 0 are the digits of the number that is read
digits_behind : (l : List ℕ) (j v : ℕ) → 1 ≤ v → v < 10 ^ j → j + length l ≤ 19 → AllDigits l
    → (digits v ++ l ≡ digits (read_as v l)) × (read_as v l < 10 ^ (j + length l))
digits_behind [] j v some low few d = (append-nil (digits v), subst (λ (k : ℕ). v < 10 ^ k) (omega arith) low)
digits_behind (b ∷ l) j v some low few d =
    let rest = digits_behind l (suc j) (v * 10 + (b - zero_byte)) (omega arith) (omega (arith, pow-suc 10 j, d.0.at_most)) (omega arith) d.1 in (
      sym (append_snoc (digits v) b l) ∙ ap (λ (s : List ℕ). s ++ l) one_more ∙ rest.0,
      subst (λ (k : ℕ). read_as v (b ∷ l) < 10 ^ k) (omega arith) rest.1,
    )
  where
    one_more : digits v ++ b ∷ [] ≡ digits (v * 10 + (b - zero_byte))
    one_more =
        ap (λ (c : ℕ). digits v ++ c ∷ []) (omega (arith, d.0.at_least))
        ∙ sym (digits_more v (b - zero_byte) some (omega (arith, pow-le-pow_right {n = 10} (omega arith) {i = j} {j = 19} (omega arith))) (omega (arith, d.0.at_most)))

-- one or more digits, up to 19, without a leading 0 unless they are the one digit 0, are the digits of a number
pub digits_of : (l : List ℕ) → AllDigits l → 1 ≤ length l → length l ≤ 19 → (get_or l 0 0 ≡ zero_byte → length l ≡ 1)
    → (n : ℕ) × (n < 10 ^ length l) × (l ≡ digits n)
digits_of [] d some few lead = absurd (omega arith)
digits_of (b ∷ l) d some few lead = go l d few lead (ℕ_discrete b zero_byte)
  where
    value : ℕ
    value = b - zero_byte

    alone : AllDigits (b ∷ []) → digits value ≡ b ∷ []
    alone d = digits_small value (omega (arith, d.0.at_most)) ∙ ap (λ (c : ℕ). c ∷ []) (omega (arith, d.0.at_least))

    go : (l : List ℕ) → AllDigits (b ∷ l) → length (b ∷ l) ≤ 19 → (b ≡ zero_byte → length (b ∷ l) ≡ 1) → Dec (b ≡ zero_byte)
        → (n : ℕ) × (n < 10 ^ length (b ∷ l)) × (b ∷ l ≡ digits n)
    go [] d few lead x = (value, omega (arith, d.0.at_most), sym (alone d))
    go (c ∷ l) d few lead (yes z) = absurd (omega (arith, lead z))
    go (c ∷ l) d few lead (no nz) =
        let more = digits_behind (c ∷ l) 1 value (omega (arith, d.0.at_least)) (omega (arith, d.0.at_most)) (omega arith) d.1 in (
          read_as value (c ∷ l),
          subst (λ (k : ℕ). read_as value (c ∷ l) < 10 ^ k) (omega arith) more.1,
          sym (ap (λ (s : List ℕ). s ++ c ∷ l) (alone (d.0, tt))) ∙ more.0,
        )

-- the same of bytes told by their places
pub all_digits : (l : List ℕ) → ((p : ℕ) → p < length l → Within zero_byte (zero_byte + 9) (get_or l p 0)) → AllDigits l
all_digits [] h = tt
all_digits (b ∷ l) h = (h 0 (omega arith), all_digits l (λ p u. h (suc p) (omega arith)))

pub each_digit : (l : List ℕ) → AllDigits l → (p : ℕ) → p < length l → Within zero_byte (zero_byte + 9) (get_or l p 0)
each_digit [] d p u = absurd (omega arith)
each_digit (b ∷ l) d zero u = d.0
each_digit (b ∷ l) d (suc p) u = each_digit l d.1 p (omega arith)
