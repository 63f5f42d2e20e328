-- What is always true of a reading that has taken every byte so far.
use Prim.Native.Nat.{ℕ, ◌/◌, ◌≤◌}
use mathlib.Core.Path.{◌≡◌, refl, sym, ◌∙◌, ap, subst}
use mathlib.Core.Bool.{Bool, true, false, not, cond, ◌&&◌, ◌||◌, true≢false}
use native.Mathlib.Omega.{arith}
use borrow.Author.Tests.{eqb-true, ltb-true, not-true}
use lib.ListN.{length, get_or}
use lib.Dec.{eqb}
use Rattle.std.proofs.Common.{Option, Some, None}
use Rattle.std.specs.Option.{is_some, unwrap_or}
use Rattle.answers.specs.Limits.{outside, Within}
use Rattle.answers.proofs.Ranges.{inside, both_true}
use Rattle.plan_text.specs.declared.reader.Field.{Field}
use Rattle.plan_text.specs.declared.reader.Reader.{Reader}
use Rattle.plan_text.specs.Form.{max_number}
use Rattle.plan_text.specs.Reading.{key_of, end_of, next_field, in_key, is_digit, may_grow, takes, past, before_field, past_key_byte, past_digit, start, started, value_of}

-- the byte of a digit lies from 48 to 57
pub digit_byte : (d : ℕ) → is_digit d ≡ true → Within 48 57 d
digit_byte d e = inside (not-true (outside 48 57 d) e)

-- the three ways in which a byte is taken, and where the reading then stands
pub data Taken (r : Reader) (b : ℕ) : Type 0 where
  of_key : in_key r ≡ true → b ≡ get_or (key_of r.field) r.matched 0 → past r b ≡ past_key_byte r → Taken r b
  digit : in_key r ≡ false → is_digit b ≡ true → may_grow r ≡ true → past r b ≡ past_digit r b → Taken r b
  ending : in_key r ≡ false → is_digit b ≡ false → started r ≡ true → b ≡ end_of r.field
      → past r b ≡ before_field (next_field r.field) → Taken r b

-- where the reading stands after a byte of the key, a digit, and an end
pub past_key : (r : Reader) (b : ℕ) → in_key r ≡ true → past r b ≡ past_key_byte r
unfolding past
past_key r b e =
    ap (λ (k : Bool). cond k (past_key_byte r) (cond (is_digit b) (past_digit r b) (before_field (next_field r.field)))) e

pub past_digit_lem : (r : Reader) (b : ℕ) → in_key r ≡ false → is_digit b ≡ true → past r b ≡ past_digit r b
unfolding past
past_digit_lem r b e d =
    ap (λ (k : Bool). cond k (past_key_byte r) (cond (is_digit b) (past_digit r b) (before_field (next_field r.field)))) e
    ∙ ap (λ (k : Bool). cond k (past_digit r b) (before_field (next_field r.field))) d

pub past_end : (r : Reader) (b : ℕ) → in_key r ≡ false → is_digit b ≡ false → past r b ≡ before_field (next_field r.field)
unfolding past
past_end r b e d =
    ap (λ (k : Bool). cond k (past_key_byte r) (cond (is_digit b) (past_digit r b) (before_field (next_field r.field)))) e
    ∙ ap (λ (k : Bool). cond k (past_digit r b) (before_field (next_field r.field))) d

pub taken : (r : Reader) (b : ℕ) → takes r b ≡ true → Taken r b
unfolding takes
taken r b e = go (in_key r) (is_digit b) refl refl e
  where
    go : (k d : Bool) → in_key r ≡ k → is_digit b ≡ d
        → cond k (eqb b (get_or (key_of r.field) r.matched 0)) (cond d (may_grow r) (started r && eqb b (end_of r.field))) ≡ true → Taken r b
    go true d ek ed h = of_key ek (eqb-true _ _ h) (past_key r b ek)
    go false true ek ed h = digit ek ed h (past_digit_lem r b ek ed)
    go false false ek ed h =
        let x = both_true (started r) (eqb b (end_of r.field)) h in
        ending ek ed x.0 (eqb-true _ _ x.1) (past_end r b ek ed)

-- the number so far has at most five digits; it begins behind the key
pub record Standing (r : Reader) : Type 0 where
  pub value_short : value_of r ≤ max_number
  pub key_first : in_key r ≡ true → started r ≡ false
  pub key_most : r.matched ≤ length (key_of r.field)

-- before a field nothing has come
pub stands_before : (f : Field) → Standing (before_field f)
stands_before f = record { value_short = omega arith; key_first = λ e. refl; key_most = omega arith }

pub stands_start : Standing start
stands_start = stands_before start.field

-- a number that has not begun is 0
pub fresh : (n : Option ℕ) → is_some n ≡ false → unwrap_or n 0 ≡ 0
fresh None e = refl
fresh (Some n) e = absurd (true≢false e)

-- a number that may grow is below 10000
grows_small : (r : Reader) → Standing r → may_grow r ≡ true → value_of r ≤ 9999
grows_small r s h = go (started r) refl h
  where
    go : (t : Bool) → started r ≡ t → (not t || not (outside 1 (max_number / 10) (value_of r))) ≡ true → value_of r ≤ 9999
    go true e x = (inside {low = 1} {high = 9999} (not-true _ x)).at_most
    go false e x = omega (arith, fresh r.number e)

pub stands_past : (r : Reader) (b : ℕ) → Standing r → takes r b ≡ true → Standing (past r b)
stands_past r b s e = go (taken r b e)
  where
    go : Taken r b → Standing (past r b)
    go (of_key k h p) =
        subst Standing (sym p)
        (record {
          value_short = s.value_short;
          key_first = λ x. s.key_first k;
          key_most = omega (arith, ltb-true r.matched (length (key_of r.field)) k);
        })
    go (digit k d h p) =
        subst Standing (sym p)
        (record {
          value_short = omega (arith, grows_small r s h, (digit_byte b d).at_most);
          key_first = λ x. absurd (true≢false (sym x ∙ k));
          key_most = s.key_most;
        })
    go (ending k d t h p) = subst Standing (sym p) (stands_before (next_field r.field))
