-- Reading one piece of a text after another.
use Prim.Native.Nat.{ℕ, zero, suc, min, ◌+◌, ◌≤◌}
use mathlib.Core.Path.{◌≡◌, refl, ◌∙◌, ap}
use mathlib.Core.Bool.{Bool, true, false, cond}
use mathlib.Core.List.{List, [], ◌∷◌, ◌++◌}
use native.Mathlib.Omega.{arith}
use lib.ListN.{length, take, length-append}
use Rattle.plan_text.specs.declared.reader.Reader.{Reader}
use Rattle.plan_text.specs.Reading.{takes, ends_number, past, lived, past_all, numbers_in, value_of}

-- a reading that lives through all bytes has taken the first, and lives through the others
pub lives_first : (r : Reader) (b : ℕ) (t : List ℕ) → lived r (b ∷ t) ≡ length (b ∷ t) → takes r b ≡ true
unfolding lived
lives_first r b t e = go (takes r b) e
  where
    go : (k : Bool) → cond k (suc (lived (past r b) t)) 0 ≡ suc (length t) → k ≡ true
    go true h = refl
    go false h = absurd (omega arith)

pub lived_taken : (r : Reader) (b : ℕ) (t : List ℕ) → takes r b ≡ true → lived r (b ∷ t) ≡ suc (lived (past r b) t)
unfolding lived
lived_taken r b t e = ap (λ (k : Bool). cond k (suc (lived (past r b) t)) 0) e

pub lives_on : (r : Reader) (b : ℕ) (t : List ℕ) → lived r (b ∷ t) ≡ length (b ∷ t) → lived (past r b) t ≡ length t
lives_on r b t e = omega (arith, lived_taken r b t (lives_first r b t e), e)

-- cutting the text cuts the reading
pub lived-take : (q : ℕ) (r : Reader) (t : List ℕ) → lived r (take q t) ≡ min q (lived r t)
unfolding lived
lived-take zero r t = omega arith
lived-take (suc q) r [] = omega arith
lived-take (suc q) r (b ∷ t) = go (takes r b) (lived-take q (past r b) t)
  where
    go : (k : Bool) → lived (past r b) (take q t) ≡ min q (lived (past r b) t)
        → cond k (suc (lived (past r b) (take q t))) 0 ≡ min (suc q) (cond k (suc (lived (past r b) t)) 0)
    go true e = omega arith
    go false e = omega arith

pub lived_most : (r : Reader) (t : List ℕ) → lived r t ≤ length t
unfolding lived
lived_most r [] = omega arith
lived_most r (b ∷ t) = go (takes r b) (lived_most (past r b) t)
  where
    go : (k : Bool) → lived (past r b) t ≤ length t → cond k (suc (lived (past r b) t)) 0 ≤ suc (length t)
    go true l = omega arith
    go false l = omega arith

-- from r the whole piece is taken; the reading then stands at q, and the piece has ended these numbers
pub record Runs (r : Reader) (piece : List ℕ) (q : Reader) (numbers : List ℕ) : Type 0 where
  pub alive : lived r piece ≡ length piece
  pub stands : past_all r piece ≡ q
  pub ended : numbers_in r piece ≡ numbers

pub runs_nothing : (r : Reader) → Runs r [] r []
unfolding lived past_all numbers_in
runs_nothing r = record { alive = refl; stands = refl; ended = refl }

-- a byte that ends no number, and one that does
pub runs_byte : {r q p : Reader} {b : ℕ} {t ns : List ℕ} → takes r b ≡ true → ends_number r b ≡ false → past r b ≡ q → Runs q t p ns → Runs r (b ∷ t) p ns
unfolding lived past_all numbers_in
runs_byte {r} {q} {p} {b} {t} {ns} e n h run =
    record {
      alive = lived_taken r b t e ∙ ap suc (ap (λ (s : Reader). lived s t) h ∙ run.alive);
      stands = ap (λ (s : Reader). past_all s t) h ∙ run.stands;
      ended =
          ap (λ (k : Bool). cond k (value_of r ∷ numbers_in (past r b) t) (numbers_in (past r b) t)) n
          ∙ ap (λ (s : Reader). numbers_in s t) h
          ∙ run.ended;
    }

pub runs_end : {r q p : Reader} {b : ℕ} {t ns : List ℕ} → takes r b ≡ true → ends_number r b ≡ true → past r b ≡ q → Runs q t p ns
    → Runs r (b ∷ t) p (value_of r ∷ ns)
unfolding lived past_all numbers_in
runs_end {r} {q} {p} {b} {t} {ns} e n h run =
    record {
      alive = lived_taken r b t e ∙ ap suc (ap (λ (s : Reader). lived s t) h ∙ run.alive);
      stands = ap (λ (s : Reader). past_all s t) h ∙ run.stands;
      ended =
          ap (λ (k : Bool). cond k (value_of r ∷ numbers_in (past r b) t) (numbers_in (past r b) t)) n
          ∙ ap (λ (ms : List ℕ). value_of r ∷ ms) (ap (λ (s : Reader). numbers_in s t) h ∙ run.ended);
    }

-- one piece after the other
lived-append : (r : Reader) (s t : List ℕ) → lived r s ≡ length s → lived r (s ++ t) ≡ length s + lived (past_all r s) t
unfolding lived past_all
lived-append r [] t e = omega arith
lived-append r (b ∷ s) t e = go (takes r b) e (λ h. lived-append (past r b) s t h)
  where
    go : (k : Bool) → cond k (suc (lived (past r b) s)) 0 ≡ suc (length s)
        → (lived (past r b) s ≡ length s → lived (past r b) (s ++ t) ≡ length s + lived (past_all (past r b) s) t)
        → cond k (suc (lived (past r b) (s ++ t))) 0 ≡ suc (length s) + lived (past_all (past r b) s) t
    go true h rest = omega (arith, rest (omega arith))
    go false h rest = absurd (omega arith)

past_all-append : (r : Reader) (s t : List ℕ) → past_all r (s ++ t) ≡ past_all (past_all r s) t
unfolding past_all
past_all-append r [] t = refl
past_all-append r (b ∷ s) t = past_all-append (past r b) s t

numbers_in-append : (r : Reader) (s t : List ℕ) → numbers_in r (s ++ t) ≡ numbers_in r s ++ numbers_in (past_all r s) t
unfolding numbers_in past_all
numbers_in-append r [] t = refl
numbers_in-append r (b ∷ s) t = go (ends_number r b) (numbers_in-append (past r b) s t)
  where
    go : (k : Bool) → numbers_in (past r b) (s ++ t) ≡ numbers_in (past r b) s ++ numbers_in (past_all (past r b) s) t
        → cond k (value_of r ∷ numbers_in (past r b) (s ++ t)) (numbers_in (past r b) (s ++ t))
        ≡ cond k (value_of r ∷ numbers_in (past r b) s) (numbers_in (past r b) s) ++ numbers_in (past_all (past r b) s) t
    go true e = ap (λ (ms : List ℕ). value_of r ∷ ms) e
    go false e = e

pub runs_then : {r q p : Reader} {s t ns ms : List ℕ} → Runs r s q ns → Runs q t p ms → Runs r (s ++ t) p (ns ++ ms)
runs_then {r} {q} {p} {s} {t} {ns} {ms} a b =
    record {
      alive = omega (arith, lived-append r s t a.alive, ap (λ (x : Reader). lived x t) a.stands, b.alive, length-append s t);
      stands = past_all-append r s t ∙ ap (λ (x : Reader). past_all x t) a.stands ∙ b.stands;
      ended =
          numbers_in-append r s t
          ∙ ap (λ (x : List ℕ). x ++ numbers_in (past_all r s) t) a.ended
          ∙ ap (λ (x : Reader). ns ++ numbers_in x t) a.stands
          ∙ ap (λ (x : List ℕ). ns ++ x) b.ended;
    }
