-- A text of the form, field by field: a key, a number's digits and the byte that ends it. The reading lives through each.
use Prim.Native.Nat.{ℕ, ◌+◌, ◌-◌, ◌*◌, ◌/◌, ◌%◌, ◌≤◌, ◌<◌}
use mathlib.Core.Path.{◌≡◌, refl, sym, ◌∙◌, ap, subst}
use mathlib.Core.Bool.{true, false, not, true≢false}
use mathlib.Core.List.{List, [], ◌∷◌, ◌++◌, append_assoc}
use native.Mathlib.Omega.{arith}
use borrow.Author.Tests.{eq-eqb, le-ltb}
use lib.ListN.{length}
use lib.Dec.{ltb}
use lib.Seq.{append_snoc}
use Rattle.std.proofs.Common.{Option, Some, None}
use Rattle.std.specs.Option.{unwrap_or}
use Rattle.answers.proofs.Ranges.{within_test}
use Rattle.flows.specs.Flows.{per_flow, flow_count}
use Rattle.plan_text.specs.declared.reader.Field.{Field}
use Rattle.plan_text.specs.declared.reader.Field.TheVariants.{Frame, Ports, Input, Output, Cells}
use Rattle.plan_text.specs.declared.reader.Reader.{Reader}
use Rattle.plan_text.specs.Digits.{zero_byte, digits}
use Rattle.plan_text.specs.Form.{line_feed, comma, flow_key, max_number, line, frame_key, ports_key, flow_line, flow_lines, text_of_plan, AllShort}
use Rattle.plan_text.specs.Reading.{key_of, end_of, next_field, is_input, is_digit, may_grow, takes, ends_number, before_field, past, lived, past_all, numbers_in}
use Rattle.plan_text.proofs.Standing.{past_digit_lem, past_end}
use Rattle.plan_text.proofs.Digits.{digits_by}
use Rattle.plan_text.proofs.Running.{Runs, runs_nothing, runs_byte, runs_end, runs_then}

-- a field's bytes
abbrev pub field_text : Field → ℕ → List ℕ
field_text f n = key_of f ++ (digits n ++ end_of f ∷ [])

-- the bytes of the fields that hold these numbers, from field f on
abbrev pub fields_text : Field → List ℕ → List ℕ
fields_text f [] = []
fields_text f (n ∷ ns) = field_text f n ++ fields_text (next_field f) ns

-- the field that comes behind so many numbers
abbrev pub field_after : Field → List ℕ → Field
field_after f [] = f
field_after f (n ∷ ns) = field_after (next_field f) ns

-- the list is of threes
abbrev pub OfThrees : List ℕ → Type 0
OfThrees L = length L ≡ per_flow * flow_count L

-- three numbers between their ending bytes, grouped as one line or as three fields
three : (i j c rest : List ℕ) (x y z : ℕ)
    → i ++ x ∷ j ++ y ∷ c ++ z ∷ [] ++ rest ≡ i ++ x ∷ [] ++ (j ++ y ∷ [] ++ (c ++ z ∷ [] ++ rest))
three i j c rest x y z =
    append_assoc (i ++ x ∷ j ++ y ∷ c) (z ∷ []) rest
    ∙ append_assoc (i ++ x ∷ j) (y ∷ c) (z ∷ rest)
    ∙ append_assoc i (x ∷ j) (y ∷ (c ++ z ∷ rest))
    ∙ sym
    (append_snoc i x (j ++ y ∷ [] ++ (c ++ z ∷ [] ++ rest))
    ∙ ap (λ (l : List ℕ). i ++ x ∷ l) (append_snoc j y (c ++ z ∷ [] ++ rest) ∙ ap (λ (l : List ℕ). j ++ y ∷ l) (append_snoc c z rest)))

-- flows' lines, and a whole plan, are such fields
flow_fields : (L : List ℕ) → OfThrees L → flow_lines L ≡ fields_text Input L
unfolding flow_lines
flow_fields [] e = refl
flow_fields (i ∷ []) e = absurd (omega arith)
flow_fields (i ∷ j ∷ []) e = absurd (omega arith)
flow_fields (i ∷ j ∷ c ∷ L) e =
    ap (λ (l : List ℕ). flow_line i j c ++ l) (flow_fields L (omega arith))
    ∙ ap (λ (l : List ℕ). flow_key ++ l) (three (digits i) (digits j) (digits c) (fields_text Input L) comma comma line_feed)

pub plan_fields : (M N : ℕ) (L : List ℕ) → OfThrees L → text_of_plan M N L ≡ fields_text Frame (M ∷ N ∷ L)
unfolding text_of_plan
plan_fields M N L e =
    append_assoc (line frame_key M) (line ports_key N) (flow_lines L)
    ∙ ap (λ (l : List ℕ). line frame_key M ++ (line ports_key N ++ l)) (flow_fields L e)

-- behind a list of threes comes an input again, and behind no other list
pub threes_after : (L : List ℕ) → OfThrees L → field_after Input L ≡ Input
threes_after [] e = refl
threes_after (i ∷ []) e = absurd (omega arith)
threes_after (i ∷ j ∷ []) e = absurd (omega arith)
threes_after (i ∷ j ∷ c ∷ L) e = threes_after L (omega arith)

pub after_threes : (L : List ℕ) → is_input (field_after Input L) ≡ true → OfThrees L
after_threes [] e = refl
after_threes (i ∷ []) e = absurd (true≢false (sym e))
after_threes (i ∷ j ∷ []) e = absurd (true≢false (sym e))
after_threes (i ∷ j ∷ c ∷ L) e = omega (arith, after_threes L e)

-- behind the key, with the number so far
abbrev pub behind_key : Field → Option ℕ → Reader
behind_key f n = record { field = f; matched = length (key_of f); number = n }

key_past : (f : Field) → ltb (length (key_of f)) (length (key_of f)) ≡ false
key_past f = le-ltb (length (key_of f)) (length (key_of f)) (omega arith)

digit_test : (d : ℕ) → d < 10 → is_digit (zero_byte + d) ≡ true
digit_test d l =
    ap not (within_test {low = zero_byte} {high = zero_byte + 9} {x = zero_byte + d} (record { at_least = omega arith; at_most = omega arith }))

end_test : (f : Field) → is_digit (end_of f) ≡ false
end_test Frame = refl
end_test Ports = refl
end_test Input = refl
end_test Output = refl
end_test Cells = refl

-- one more digit
digit_runs : (f : Field) (v : Option ℕ) (d n : ℕ) → d < 10 → may_grow (behind_key f v) ≡ true → unwrap_or v 0 * 10 + d ≡ n
    → Runs (behind_key f v) ((zero_byte + d) ∷ []) (behind_key f (Some n)) []
unfolding takes ends_number
digit_runs f v d n l g e =
    runs_byte {q = behind_key f (Some (unwrap_or v 0 * 10 + (zero_byte + d - zero_byte)))} (rw (key_past f, digit_test d l) g) (rw (key_past f, digit_test d l))
    (past_digit_lem (behind_key f v) (zero_byte + d) (key_past f) (digit_test d l))
    (subst (λ (x : ℕ). Runs (behind_key f (Some x)) [] (behind_key f (Some n)) []) (omega arith) (runs_nothing (behind_key f (Some n))))

digits_run : (f : Field) (n : ℕ) → n ≤ max_number → Runs (behind_key f None) (digits n) (behind_key f (Some n)) []
digits_run f n l =
    digits_by (λ n l. n ≤ max_number → Runs (behind_key f None) l (behind_key f (Some n)) []) (λ n s b. digit_runs f None n n s refl (omega arith))
    more n (omega arith) l
  where
    more : (n : ℕ) (l : List ℕ) → 10 ≤ n → (n / 10 ≤ max_number → Runs (behind_key f None) l (behind_key f (Some (n / 10))) [])
        → n ≤ max_number → Runs (behind_key f None) (l ++ (zero_byte + n % 10) ∷ []) (behind_key f (Some n)) []
    more n l a rest b =
        runs_then (rest (omega arith))
        (digit_runs f (Some (n / 10)) (n % 10) n (omega arith) (ap not (within_test {low = 1} {high = max_number / 10} {x = n / 10} (record { at_least = omega arith; at_most = omega arith }))) (omega arith))

key_runs : (f : Field) → Runs (before_field f) (key_of f) (behind_key f None) []
unfolding lived past_all numbers_in takes past ends_number
key_runs Frame = record { alive = refl; stands = refl; ended = refl }
key_runs Ports = record { alive = refl; stands = refl; ended = refl }
key_runs Input = record { alive = refl; stands = refl; ended = refl }
key_runs Output = record { alive = refl; stands = refl; ended = refl }
key_runs Cells = record { alive = refl; stands = refl; ended = refl }

end_runs : (f : Field) (n : ℕ) → Runs (behind_key f (Some n)) (end_of f ∷ []) (before_field (next_field f)) (n ∷ [])
unfolding takes ends_number
end_runs f n =
    runs_end {r = behind_key f (Some n)} (rw (key_past f, end_test f) (eq-eqb (end_of f) (end_of f) refl)) (rw (key_past f, end_test f))
    (past_end (behind_key f (Some n)) (end_of f) (key_past f) (end_test f)) (runs_nothing (before_field (next_field f)))

-- the reading lives through the fields, and finds their numbers
pub fields_run : (f : Field) (ns : List ℕ) → AllShort ns → Runs (before_field f) (fields_text f ns) (before_field (field_after f ns)) ns
fields_run f [] s = runs_nothing (before_field f)
fields_run f (n ∷ ns) s =
    runs_then (runs_then (key_runs f) (runs_then (digits_run f n s.0) (end_runs f n))) (fields_run (next_field f) ns s.1)
