-- The laws of a buffer whose first numbers were written: its length stays, what was written stands there, and what lies past it stays.
use Prim.Native.Nat.{ℕ, zero, suc, ◌+◌, ◌≤◌, ◌<◌}
use mathlib.Core.Path.{◌≡◌, refl, sym, ◌∙◌, ap}
use mathlib.Core.List.{List}
use native.Mathlib.Omega.{arith}
use native.Mathlib.Decide.{ℕ_discrete, dec_lt}
use native.Mathlib.Numerals.{add-one}
use lib.ListN.{length, get_or, set, length-set}
use lib.Seq.{get_or-set_same, get_or-set_other, ext_get_or}
use Rattle.answers.specs.Buffers.{written}

module _ (f : ℕ → ℕ) (B : List ℕ) where
  pub written_none : written 0 f B ≡ B
  unfolding written
  written_none = refl

  -- one number more, as a loop counts
  pub written_more : (n : ℕ) (x : ℕ) → x ≡ f n → set (written n f B) n x ≡ written (n + 1) f B
  unfolding written
  written_more n x e = rw add-one (ap (λ (y : ℕ). set (written n f B) n y) e)

  pub written-length : (n : ℕ) → length (written n f B) ≡ length B
  unfolding written
  written-length zero = refl
  written-length (suc n) = length-set (written n f B) n (f n) ∙ written-length n

  pub written_past : (n k : ℕ) → n ≤ k → get_or (written n f B) k 0 ≡ get_or B k 0
  unfolding written
  written_past zero k l = refl
  written_past (suc n) k l = get_or-set_other (written n f B) n k (f n) 0 (λ e. omega arith) ∙ written_past n k (omega arith)

  pub written_at : (n k : ℕ) → k < n → n ≤ length B → get_or (written n f B) k 0 ≡ f k
  unfolding written
  written_at zero k l room = absurd (omega arith)
  written_at (suc n) k l room = go (ℕ_discrete k n) (λ u. written_at n k u (omega arith))
    where
      go : Dec (k ≡ n) → (k < n → get_or (written n f B) k 0 ≡ f k) → get_or (set (written n f B) n (f n)) k 0 ≡ f k
      go (yes e) later =
          ap (λ (i : ℕ). get_or (set (written n f B) n (f n)) i 0) e
          ∙ get_or-set_same (written n f B) n (f n) 0 (omega (arith, written-length n))
          ∙ ap f (sym e)
      go (no d) later = get_or-set_other (written n f B) n k (f n) 0 d ∙ later (omega arith)

  -- a buffer that has all this is the written one
  pub written_is : (n : ℕ) (A : List ℕ) → n ≤ length B → length A ≡ length B
      → ((k : ℕ) → k < n → get_or A k 0 ≡ f k) → ((k : ℕ) → n ≤ k → get_or A k 0 ≡ get_or B k 0) → A ≡ written n f B
  written_is n A room same here past = ext_get_or 0 A (written n f B) (same ∙ sym (written-length n)) (λ k u. at k (dec_lt k n))
    where
      at : (k : ℕ) → Dec (k < n) → get_or A k 0 ≡ get_or (written n f B) k 0
      at k (yes l) = here k l ∙ sym (written_at n k l room)
      at k (no d) = past k (omega arith) ∙ sym (written_past n k (omega arith))

pub written_agree : (f g : ℕ → ℕ) (B : List ℕ) (n : ℕ) → ((k : ℕ) → k < n → f k ≡ g k) → written n f B ≡ written n g B
unfolding written
written_agree f g B zero h = refl
written_agree f g B (suc n) h =
    ap (λ (A : List ℕ). set A n (f n)) (written_agree f g B n (λ k l. h k (omega arith)))
    ∙ ap (λ (x : ℕ). set (written n g B) n x) (h n (omega arith))

-- of numbers that were written over, only the later ones show
pub written_again : (f g : ℕ → ℕ) (B : List ℕ) (n : ℕ) → n ≤ length B → written n g (written n f B) ≡ written n g B
written_again f g B n room =
    written_is g B n (written n g (written n f B)) room (written-length g (written n f B) n ∙ same)
    (λ k l. written_at g (written n f B) n k l (omega (arith, same)))
    (λ k l. written_past g (written n f B) n k l ∙ written_past f B n k l)
  where
    same : length (written n f B) ≡ length B
    same = written-length f B n

-- written a second time with the same numbers, it is the same
pub written_same : (f : ℕ → ℕ) (B A : List ℕ) (n : ℕ) → n ≤ length B → A ≡ written n f B → A ≡ written n f A
written_same f B A n room e = e ∙ sym (written_again f f B n room) ∙ ap (λ (x : List ℕ). written n f x) (sym e)
