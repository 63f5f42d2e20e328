-- What stands where after two places of a table exchange their entries, or one gets another.
use Prim.Native.Nat.{ℕ, ◌+◌, ◌*◌, ◌/◌, ◌%◌, ◌≤◌, ◌<◌}
use mathlib.Core.Path.{◌≡◌, sym, ◌∙◌, ap}
use mathlib.Core.List.{List}
use native.Mathlib.Omega.{arith}
use native.Mathlib.Decide.{ℕ_discrete}
use lib.Arith.{digits_lt, digits_div, digits_mod}
use lib.ListN.{length, get_or, set, length-set}
use lib.Seq.{get_or-set_same, get_or-set_other}
use Rattle.tables.specs.Accepted.{entry}
use Rattle.tables.specs.Check.{Holds}
use Rattle.builder.specs.Exchange.{swapped}

-- a place belongs to one row and one slot
pub same_row : {M s t : ℕ} (a b : ℕ) → s < M → t < M → a * M + s ≡ b * M + t → a ≡ b
same_row {M} a b ls lt e = sym (digits_div a ls) ∙ ap (λ (x : ℕ). x / M) e ∙ digits_div b lt

pub same_slot : {M s t : ℕ} (a b : ℕ) → s < M → t < M → a * M + s ≡ b * M + t → s ≡ t
same_slot {M} a b ls lt e = sym (digits_mod a ls) ∙ ap (λ (x : ℕ). x % M) e ∙ digits_mod b lt

-- a place of a row below N and a slot below M lies in a table of N rows
pub in_table : {M N r s : ℕ} (T : List ℕ) → N * M ≤ length T → r < N → s < M → r * M + s < length T
in_table T len lr ls = omega (arith, digits_lt lr ls)

-- a table as long has the same rows
pub holds_same : {M N : ℕ} {T : List ℕ} (T' : List ℕ) → Holds M N T → length T' ≡ length T → Holds M N T'
holds_same T' h e = record { frame_in_range = h.frame_in_range; ports_in_range = h.ports_in_range; long_enough = omega (arith, h.long_enough) }

pub length-swapped : (T : List ℕ) (x y : ℕ) → length (swapped T x y) ≡ length T
length-swapped T x y = simp length-set

pub swapped_second : (T : List ℕ) (x y : ℕ) → y < length T → get_or (swapped T x y) y 0 ≡ get_or T x 0
swapped_second T x y ly = get_or-set_same (set T x (get_or T y 0)) y (get_or T x 0) 0 (omega (arith, length-set T x (get_or T y 0)))

pub swapped_first : (T : List ℕ) (x y : ℕ) → x < length T → y < length T → get_or (swapped T x y) x 0 ≡ get_or T y 0
swapped_first T x y lx ly = go (ℕ_discrete x y)
  where
    go : Dec (x ≡ y) → get_or (swapped T x y) x 0 ≡ get_or T y 0
    go (yes e) = ap (λ (z : ℕ). get_or (swapped T x y) z 0) e ∙ swapped_second T x y ly ∙ ap (λ (z : ℕ). get_or T z 0) e
    go (no d) = get_or-set_other (set T x (get_or T y 0)) y x (get_or T x 0) 0 d ∙ get_or-set_same T x (get_or T y 0) 0 lx

pub swapped_else : (T : List ℕ) (x y z : ℕ) → (z ≡ x → ⊥) → (z ≡ y → ⊥) → get_or (swapped T x y) z 0 ≡ get_or T z 0
swapped_else T x y z d d' = get_or-set_other (set T x (get_or T y 0)) y z (get_or T x 0) 0 d' ∙ get_or-set_other T x z (get_or T y 0) 0 d

-- a store at row b, slot t leaves every other entry
pub stored_else : (M : ℕ) (T : List ℕ) (a s b t v : ℕ) → s < M → t < M → (a ≡ b → s ≡ t → ⊥) → entry M (set T (b * M + t) v) a s ≡ entry M T a s
stored_else M T a s b t v ls lt d =
    get_or-set_other T (b * M + t) (a * M + s) v 0 (λ e. d (same_row a b ls lt e) (same_slot a b ls lt e))
