-- The laws of sums: agreement, order, exchange of the order of summing, and what one or two changed terms do.
use Prim.Native.Nat.{ℕ, zero, suc, ◌+◌, ◌*◌, ◌≤◌, ◌<◌}
use mathlib.Core.Path.{◌≡◌, refl, sym, ◌∙◌, ap}
use mathlib.Core.Bool.{Bool, true, false}
use native.Mathlib.Omega.{arith}
use native.Mathlib.Decide.{ℕ_discrete, dec_lt}
use native.Mathlib.Nat.{le_antisymm, zero-mul, mul-one, suc-mul, add-zero, add-suc}
use native.Mathlib.Numerals.{add-one}
use Rattle.std.proofs.Common.{List, ◌∷◌, length, get_or}
use Rattle.std.specs.List.{sum as list_total}
use Rattle.std.proofs.lemmas.List.Recursion.{is_sum_by}
use Rattle.answers.specs.Sums.{sum, one}

pub sum_none : (f : ℕ → ℕ) → sum 0 f ≡ 0
unfolding sum
sum_none f = refl

pub sum_step : (n : ℕ) (f : ℕ → ℕ) → sum (suc n) f ≡ sum n f + f n
unfolding sum
sum_step n f = refl

-- the same, as a loop counts
pub sum_more : (n : ℕ) (f : ℕ → ℕ) → sum (n + 1) f ≡ sum n f + f n
sum_more n f = ap (λ (m : ℕ). sum m f) (add-one n) ∙ sum_step n f

pub sum_agree : (n : ℕ) (f g : ℕ → ℕ) → ((k : ℕ) → k < n → f k ≡ g k) → sum n f ≡ sum n g
unfolding sum
sum_agree zero f g h = refl
sum_agree (suc n) f g h = omega (arith, sum_agree n f g (λ k l. h k (omega arith)), h n (omega arith))

pub sum_le : (n : ℕ) (f g : ℕ → ℕ) → ((k : ℕ) → k < n → f k ≤ g k) → sum n f ≤ sum n g
unfolding sum
sum_le zero f g h = omega arith
sum_le (suc n) f g h = omega (arith, sum_le n f g (λ k l. h k (omega arith)), h n (omega arith))

-- the same, with one term below
pub sum_less : (n : ℕ) (f g : ℕ → ℕ) (j : ℕ) → j < n → ((x : ℕ) → x < n → f x ≤ g x) → f j < g j → sum n f < sum n g
unfolding sum
sum_less zero f g j l h s = absurd (omega arith)
sum_less (suc n) f g j l h s = go (ℕ_discrete j n) (λ d. sum_less n f g j d (λ x u. h x (omega arith)) s)
  where
    go : Dec (j ≡ n) → (j < n → sum n f < sum n g) → sum n f + f n < sum n g + g n
    go (yes e) less = omega (arith, ap f e, ap g e, sum_le n f g (λ x u. h x (omega arith)))
    go (no d) less = omega (arith, less (omega arith), h n (omega arith))

pub sum_const : (n c : ℕ) → sum n (λ k. c) ≡ n * c
unfolding sum
sum_const zero c = sym (zero-mul c)
sum_const (suc n) c = omega (arith, sum_const n c, suc-mul n c)

pub sum_at_most : (n : ℕ) (f : ℕ → ℕ) (c : ℕ) → ((k : ℕ) → k < n → f k ≤ c) → sum n f ≤ n * c
sum_at_most n f c h = omega (arith, sum_le n f (λ k. c) h, sum_const n c)

pub sum_zero : (n : ℕ) (f : ℕ → ℕ) → ((k : ℕ) → k < n → f k ≡ 0) → sum n f ≡ 0
unfolding sum
sum_zero zero f h = refl
sum_zero (suc n) f h = omega (arith, sum_zero n f (λ k l. h k (omega arith)), h n (omega arith))

pub sum_add : (n : ℕ) (f g : ℕ → ℕ) → sum n (λ k. f k + g k) ≡ sum n f + sum n g
unfolding sum
sum_add zero f g = refl
sum_add (suc n) f g = omega (arith, sum_add n f g)

-- by rows and then slots, or by slots and then rows
pub sum_swap : (n m : ℕ) (f : ℕ → ℕ → ℕ) → sum n (λ a. sum m (λ b. f a b)) ≡ sum m (λ b. sum n (λ a. f a b))
unfolding sum
sum_swap zero m f = sym (sum_zero m (λ b. 0) (λ k l. refl))
sum_swap (suc n) m f =
    omega (arith, sum_swap n m f, sum_add m (λ b. sum n (λ a. f a b)) (λ b. f n b))

pub sum-append : (n m : ℕ) (f : ℕ → ℕ) → sum (n + m) f ≡ sum n f + sum m (λ k. f (n + k))
unfolding sum
sum-append n zero f = ap (λ (k : ℕ). sum k f) (add-zero n) ∙ sym (add-zero (sum n f))
sum-append n (suc m) f = ap (λ (k : ℕ). sum k f) (add-suc n m) ∙ omega (arith, sum-append n m f)

-- place by place, or row by row
pub sum_rows : (n m : ℕ) (f : ℕ → ℕ) → sum (n * m) f ≡ sum n (λ r. sum m (λ s. f (r * m + s)))
unfolding sum
sum_rows zero m f = ap (λ (k : ℕ). sum k f) (zero-mul m)
sum_rows (suc n) m f = ap (λ (k : ℕ). sum k f) (suc-mul n m) ∙ omega (arith, sum_rows n m f, sum-append (n * m) m f)

-- a term is at most the sum
pub term_le : (n : ℕ) (f : ℕ → ℕ) (k : ℕ) → k < n → f k ≤ sum n f
unfolding sum
term_le zero f k l = absurd (omega arith)
term_le (suc n) f k l = go (ℕ_discrete k n) (λ d. term_le n f k d)
  where
    go : Dec (k ≡ n) → (k < n → f k ≤ sum n f) → f k ≤ sum n f + f n
    go (yes e) later = omega (arith, ap f e)
    go (no d) later = omega (arith, later (omega arith))

-- the first terms' sum is at most the whole sum
pub sum_prefix : (a n : ℕ) (f : ℕ → ℕ) → a ≤ n → sum a f ≤ sum n f
unfolding sum
sum_prefix a zero f l = omega (arith, ap (λ (k : ℕ). sum k f) (le_antisymm l (omega arith)))
sum_prefix a (suc n) f l = go (ℕ_discrete a (suc n)) (λ u. sum_prefix a n f u)
  where
    go : Dec (a ≡ suc n) → (a ≤ n → sum a f ≤ sum n f) → sum a f ≤ sum n f + f n
    go (yes e) later = omega (arith, ap (λ (k : ℕ). sum k f) e, sum_step n f)
    go (no d) later = omega (arith, later (omega arith))

-- one changed term moves the sum by the difference
pub sum_change : (n : ℕ) (f g : ℕ → ℕ) (j : ℕ) → j < n → ((k : ℕ) → k < n → (k ≡ j → ⊥) → f k ≡ g k) → sum n g + f j ≡ sum n f + g j
unfolding sum
sum_change zero f g j l h = absurd (omega arith)
sum_change (suc n) f g j l h = go (ℕ_discrete j n) (λ d. sum_change n f g j d (λ k u e. h k (omega arith) e))
  where
    go : Dec (j ≡ n) → (j < n → sum n g + f j ≡ sum n f + g j) → sum n g + g n + f j ≡ sum n f + f n + g j
    go (yes e) later =
        omega (arith, ap f e, ap g e, sum_agree n f g (λ k u. h k (omega arith) (λ x. omega arith)))
    go (no d) later = omega (arith, later (omega arith), h n (omega arith) (λ x. d (sym x)))

-- two terms changed places: the sum stays
pub sum_exchange : (n : ℕ) (f g : ℕ → ℕ) (p q : ℕ) → p < n → q < n → (p ≡ q → ⊥) → g p ≡ f q → g q ≡ f p
    → ((k : ℕ) → k < n → (k ≡ p → ⊥) → (k ≡ q → ⊥) → f k ≡ g k) → sum n f ≡ sum n g
unfolding sum
sum_exchange zero f g p q lp lq d ep eq h = absurd (omega arith)
sum_exchange (suc n) f g p q lp lq d ep eq h =
    go (ℕ_discrete p n) (ℕ_discrete q n) (λ a b. sum_exchange n f g p q a b d ep eq (λ k u x y. h k (omega arith) x y))
  where
    go : Dec (p ≡ n) → Dec (q ≡ n) → (p < n → q < n → sum n f ≡ sum n g) → sum n f + f n ≡ sum n g + g n
    go (yes e) (yes e') later = absurd (d (e ∙ sym e'))
    go (yes e) (no d') later =
        omega (arith, ap f e, ap g e, sum_change n f g q (omega arith) (λ k u x. h k (omega arith) (λ y. omega arith) x))
    go (no d') (yes e) later =
        omega (arith, ap f e, ap g e, sum_change n f g p (omega arith) (λ k u x. h k (omega arith) x (λ y. omega arith)))
    go (no a) (no b) later = omega (arith, later (omega arith) (omega arith), h n (omega arith) (λ x. a (sym x)) (λ x. b (sym x)))

-- a sum below another has a term below the other's
pub term_below : (n : ℕ) (f g : ℕ → ℕ) → sum n f < sum n g → (k : ℕ) × (k < n) × (f k < g k)
unfolding sum
term_below zero f g h = absurd (omega arith)
term_below (suc n) f g h = go (dec_lt (f n) (g n)) (λ x. term_below n f g x)
  where
    go : Dec (f n < g n) → (sum n f < sum n g → (k : ℕ) × (k < n) × (f k < g k)) → (k : ℕ) × (k < suc n) × (f k < g k)
    go (yes y) later = (n, omega arith, y)
    go (no d) later =
        let found = later (omega arith) in
        (found.0, omega (arith, found.1), found.2)

-- a count over n numbers is at most n
pub count_at_most : (n : ℕ) (t : ℕ → Bool) → sum n (λ k. one (t k)) ≤ n
count_at_most n t = omega (arith, sum_at_most n (λ k. one (t k)) 1 (λ k l. at_most (t k)), mul-one n)
  where
    at_most : (b : Bool) → one b ≤ 1
    at_most true = omega arith
    at_most false = omega arith

-- a count of which no two hold is at most 1
pub count_once : (n : ℕ) (t : ℕ → Bool) → ((a b : ℕ) → a < n → b < n → t a ≡ true → t b ≡ true → a ≡ b) → sum n (λ k. one (t k)) ≤ 1
unfolding sum
count_once zero t h = omega arith
count_once (suc n) t h = go (t n) refl (count_once n t (λ a b u w. h a b (omega arith) (omega arith)))
  where
    none : t n ≡ true → (k : ℕ) → (b : Bool) → t k ≡ b → k < n → one b ≡ 0
    none e k true x l = absurd (omega (arith, h k n (omega arith) (omega arith) x e))
    none e k false x l = refl

    go : (b : Bool) → t n ≡ b → sum n (λ k. one (t k)) ≤ 1 → sum n (λ k. one (t k)) + one b ≤ 1
    go true e later = omega (arith, sum_zero n (λ k. one (t k)) (λ k l. none e k (t k) refl l))
    go false e later = omega arith

-- a list's own sum is the sum by its places
first_apart : (n : ℕ) (f : ℕ → ℕ) → sum (suc n) f ≡ f 0 + sum n (λ k. f (suc k))
unfolding sum
first_apart zero f = omega arith
first_apart (suc n) f = omega (arith, first_apart n f)

pub list_sum : (xs : List ℕ) → list_total xs ≡ sum (length xs) (λ k. get_or xs k 0)
list_sum xs = sym (is_sum_by (λ ys. sum (length ys) (λ k. get_or ys k 0)) (λ x. x) (sum_none _) (λ x ys. first_apart (length ys) (λ k. get_or (x ∷ ys) k 0)) xs)
