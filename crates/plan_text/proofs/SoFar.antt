-- The text so far: what a living reading has taken is the fields of the numbers that it found, then the bytes of the field that has begun.
use Prim.Native.Nat.{ℕ, ◌+◌, ◌-◌, ◌*◌, ◌/◌, ◌≤◌}
use mathlib.Core.Path.{◌≡◌, refl, sym, ◌∙◌, ap, subst}
use mathlib.Core.Bool.{Bool, true, false, not, cond, ◌&&◌, ◌||◌}
use mathlib.Core.List.{List, [], ◌∷◌, ◌++◌, append_assoc, append-nil}
use native.Mathlib.Omega.{arith}
use native.Mathlib.Numerals.{add-one}
use borrow.Author.Tests.{ltb-true, ltb-false, not-true}
use lib.ListN.{length, get_or, take}
use lib.Seq.{take-suc, take_all, append_snoc}
use Rattle.answers.specs.Limits.{outside}
use Rattle.answers.proofs.Ranges.{inside}
use Rattle.plan_text.specs.declared.reader.Field.{Field}
use Rattle.plan_text.specs.declared.reader.Reader.{Reader}
use Rattle.plan_text.specs.Digits.{zero_byte, digits}
use Rattle.plan_text.specs.Form.{max_number, AllShort}
use Rattle.plan_text.specs.Reading.{key_of, end_of, next_field, in_key, is_digit, may_grow, ends_number, before_field, past_key_byte, past_digit, past, lived, past_all, numbers_in, started, value_of}
use Rattle.plan_text.proofs.Standing.{digit_byte, Taken, of_key, digit, ending, taken, Standing, fresh, stands_past}
use Rattle.plan_text.proofs.Digits.{digits_small, digits_more}
use Rattle.plan_text.proofs.Running.{lives_first, lives_on}
use Rattle.plan_text.proofs.Fields.{field_text, fields_text, field_after}

-- the bytes of the field that has begun
abbrev pub begun : Reader → List ℕ
begun r = take r.matched (key_of r.field) ++ cond (started r) (digits (value_of r)) []

-- a byte of the key, or a digit, comes behind them
begun_key : (r : Reader) (b : ℕ) → Standing r → in_key r ≡ true → b ≡ get_or (key_of r.field) r.matched 0 → begun (past_key_byte r) ≡ begun r ++ b ∷ []
begun_key r b s k e =
    rw (s.key_first k, e, add-one)
    (simp (append-nil, take-suc (key_of r.field) r.matched 0 (ltb-true _ _ k)))

begun_digit : (r : Reader) (b : ℕ) → Standing r → is_digit b ≡ true → may_grow r ≡ true → begun (past_digit r b) ≡ begun r ++ b ∷ []
begun_digit r b s d g =
    ap (λ (l : List ℕ). key ++ l) (go (started r) refl g) ∙ sym (append_assoc key (cond (started r) (digits (value_of r)) []) (b ∷ []))
  where
    key : List ℕ
    key = take r.matched (key_of r.field)

    same : zero_byte + (b - zero_byte) ≡ b
    same = omega (arith, (digit_byte b d).at_least)

    go : (t : Bool) → started r ≡ t → (not t || not (outside 1 (max_number / 10) (value_of r))) ≡ true
        → digits (value_of r * 10 + (b - zero_byte)) ≡ cond t (digits (value_of r)) [] ++ b ∷ []
    go true e x =
        digits_more (value_of r) (b - zero_byte) (inside {low = 1} {high = 9999} (not-true _ x)).at_least
        (omega (arith, s.value_short)) (omega (arith, (digit_byte b d).at_most))
        ∙ ap (λ (n : ℕ). digits (value_of r) ++ n ∷ []) same
    go false e x =
        ap digits (omega (arith, fresh r.number e))
        ∙ digits_small (b - zero_byte) (omega (arith, (digit_byte b d).at_most))
        ∙ ap (λ (n : ℕ). n ∷ []) same

-- the byte that ends the number completes the field
begun_end : (r : Reader) (b : ℕ) → in_key r ≡ false → started r ≡ true → b ≡ end_of r.field → begun r ++ b ∷ [] ≡ field_text r.field (value_of r)
begun_end r b k t e =
    rw (t, e)
    (simp (take_all r.matched (key_of r.field) (ltb-false _ _ k), append_assoc))

-- what a living reading leaves known
pub record SoFar (r : Reader) (t : List ℕ) : Type 0 where
  pub standing : Standing (past_all r t)
  pub short : AllShort (numbers_in r t)
  pub in_field : (past_all r t).field ≡ field_after r.field (numbers_in r t)
  pub bytes : begun r ++ t ≡ fields_text r.field (numbers_in r t) ++ begun (past_all r t)

further : (r : Reader) (b : ℕ) (t : List ℕ) → (past r b).field ≡ r.field → ends_number r b ≡ false → begun (past r b) ≡ begun r ++ b ∷ []
    → SoFar (past r b) t → SoFar r (b ∷ t)
unfolding past_all numbers_in
further r b t f e g s =
    record {
      standing = s.standing;
      short = subst AllShort (sym same) s.short;
      in_field = s.in_field ∙ ap (λ (x : Field). field_after x (numbers_in (past r b) t)) f ∙ ap (field_after r.field) (sym same);
      bytes =
          sym (append_snoc (begun r) b t)
          ∙ ap (λ (l : List ℕ). l ++ t) (sym g)
          ∙ s.bytes
          ∙ ap (λ (x : Field). fields_text x (numbers_in (past r b) t) ++ begun (past_all (past r b) t)) f
          ∙ ap (λ (ns : List ℕ). fields_text r.field ns ++ begun (past_all (past r b) t)) (sym same);
    }
  where
    same : cond (ends_number r b) (value_of r ∷ numbers_in (past r b) t) (numbers_in (past r b) t) ≡ numbers_in (past r b) t
    same = ap (λ (k : Bool). cond k (value_of r ∷ numbers_in (past r b) t) (numbers_in (past r b) t)) e

next : (r : Reader) (b : ℕ) (t : List ℕ) → past r b ≡ before_field (next_field r.field) → ends_number r b ≡ true → value_of r ≤ max_number
    → begun r ++ b ∷ [] ≡ field_text r.field (value_of r) → SoFar (past r b) t → SoFar r (b ∷ t)
unfolding past_all numbers_in
next r b t p e l g s =
    record {
      standing = s.standing;
      short = subst AllShort (sym same) (l, s.short);
      in_field = s.in_field ∙ ap (λ (x : Reader). field_after x.field (numbers_in (past r b) t)) p ∙ ap (field_after r.field) (sym same);
      bytes =
          sym (append_snoc (begun r) b t)
          ∙ ap (λ (l : List ℕ). l ++ t) g
          ∙ ap (λ (l : List ℕ). field_text r.field (value_of r) ++ l)
          (ap (λ (x : Reader). begun x ++ t) (sym p)
          ∙ s.bytes
          ∙ ap (λ (x : Reader). fields_text x.field (numbers_in (past r b) t) ++ begun (past_all (past r b) t)) p)
          ∙ sym (append_assoc (field_text r.field (value_of r)) (fields_text (next_field r.field) (numbers_in (past r b) t)) (begun (past_all (past r b) t)))
          ∙ ap (λ (ns : List ℕ). fields_text r.field ns ++ begun (past_all (past r b) t)) (sym same);
    }
  where
    same : cond (ends_number r b) (value_of r ∷ numbers_in (past r b) t) (numbers_in (past r b) t) ≡ value_of r ∷ numbers_in (past r b) t
    same = ap (λ (k : Bool). cond k (value_of r ∷ numbers_in (past r b) t) (numbers_in (past r b) t)) e

pub so_far : (r : Reader) (t : List ℕ) → Standing r → lived r t ≡ length t → SoFar r t
unfolding past_all numbers_in ends_number
so_far r [] s e = record { standing = s; short = tt; in_field = refl; bytes = append-nil (begun r) }
so_far r (b ∷ t) s e = go (taken r b (lives_first r b t e)) (so_far (past r b) t (stands_past r b s (lives_first r b t e)) (lives_on r b t e))
  where
    go : Taken r b → SoFar (past r b) t → SoFar r (b ∷ t)
    go (of_key k h p) rest =
        further r b t (ap (λ (x : Reader). x.field) p) (ap (λ (x : Bool). not x && not (is_digit b)) k) (ap begun p ∙ begun_key r b s k h) rest
    go (digit k d g p) rest =
        further r b t (ap (λ (x : Reader). x.field) p) (ap (λ (x : Bool). not x && not (is_digit b)) k ∙ ap not d) (ap begun p ∙ begun_digit r b s d g) rest
    go (ending k d h x p) rest =
        next r b t p (ap (λ (x : Bool). not x && not (is_digit b)) k ∙ ap not d) s.value_short (begun_end r b k h x) rest
