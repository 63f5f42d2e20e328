-- Where the reading dies is the end of the longest prefix that begins some text of the form: whatever it has taken can be completed.
use Prim.Native.Nat.{ℕ, ◌≤◌}
use mathlib.Core.Path.{◌≡◌, refl, sym, ◌∙◌, ap, subst}
use mathlib.Core.Bool.{Bool, true, false, cond, true≢false}
use mathlib.Core.List.{List, [], ◌∷◌, ◌++◌, append_assoc, append-nil}
use native.Mathlib.Omega.{arith}
use borrow.Author.Tests.{ltb-false}
use lib.ListN.{length, take, drop, length-append, take-append-drop}
use lib.Seq.{take_all, length-take-le, take_at}
use Rattle.plan_text.specs.declared.reader.Field.{Field}
use Rattle.plan_text.specs.declared.reader.Field.TheVariants.{Frame, Ports, Input, Output, Cells}
use Rattle.plan_text.specs.declared.reader.Reader.{Reader}
use Rattle.plan_text.specs.Digits.{digits}
use Rattle.plan_text.specs.Form.{AllShort, OfForm, Begins, LongestBeginning}
use Rattle.plan_text.specs.Reading.{key_of, end_of, next_field, in_key, is_input, start, lived, past_all, numbers_in, started, value_of}
use Rattle.plan_text.proofs.Standing.{Standing, stands_start}
use Rattle.plan_text.proofs.Running.{lived-take, lived_most}
use Rattle.plan_text.proofs.Fields.{field_text, fields_text, field_after}
use Rattle.plan_text.proofs.SoFar.{begun, SoFar, so_far}
use Rattle.plan_text.proofs.Recognised.{fields_form, form_runs}

-- the bytes that complete a field which has begun, its number as it stands
rest_of : (r : Reader) → Standing r → (rest : List ℕ) × (begun r ++ rest ≡ field_text r.field (value_of r))
rest_of r s = go (started r) refl
  where
    key : List ℕ
    key = key_of r.field

    past_key : started r ≡ true → (k : Bool) → in_key r ≡ k → length key ≤ r.matched
    past_key t true e = absurd (true≢false (sym t ∙ s.key_first e))
    past_key t false e = ltb-false _ _ e

    go : (t : Bool) → started r ≡ t → (rest : List ℕ) × (take r.matched key ++ cond t (digits (value_of r)) [] ++ rest ≡ key ++ (digits (value_of r) ++ end_of r.field ∷ []))
    go true t = (
      end_of r.field ∷ [],
      append_assoc (take r.matched key) (digits (value_of r)) (end_of r.field ∷ [])
          ∙ ap (λ (l : List ℕ). l ++ (digits (value_of r) ++ end_of r.field ∷ [])) (take_all r.matched key (past_key t (in_key r) refl)),
    )
    go false t = (
      drop r.matched key ++ (digits (value_of r) ++ end_of r.field ∷ []),
      ap (λ (l : List ℕ). l ++ (drop r.matched key ++ (digits (value_of r) ++ end_of r.field ∷ []))) (append-nil (take r.matched key))
          ∙ sym (append_assoc (take r.matched key) (drop r.matched key) (digits (value_of r) ++ end_of r.field ∷ []))
          ∙ ap (λ (l : List ℕ). l ++ (digits (value_of r) ++ end_of r.field ∷ [])) (take-append-drop r.matched key),
    )

-- fields one after the other
fields_then : (f : Field) (ns ms : List ℕ) → fields_text f (ns ++ ms) ≡ fields_text f ns ++ fields_text (field_after f ns) ms
fields_then f [] ms = refl
fields_then f (n ∷ ns) ms =
    ap (λ (l : List ℕ). field_text f n ++ l) (fields_then (next_field f) ns ms)
    ∙ sym (append_assoc (field_text f n) (fields_text (next_field f) ns) (fields_text (field_after (next_field f) ns) ms))

after_then : (f : Field) (ns ms : List ℕ) → field_after f (ns ++ ms) ≡ field_after (field_after f ns) ms
after_then f [] ms = refl
after_then f (n ∷ ns) ms = after_then (next_field f) ns ms

short_then : (ns ms : List ℕ) → AllShort ns → AllShort ms → AllShort (ns ++ ms)
short_then [] ms a b = b
short_then (n ∷ ns) ms a b = (a.0, short_then ns ms a.1 b)

-- zeros for the fields up to the next input
zeros : Field → List ℕ
zeros Frame = 0 ∷ 0 ∷ []
zeros Ports = 0 ∷ []
zeros Input = []
zeros Output = 0 ∷ 0 ∷ []
zeros Cells = 0 ∷ []

zeros_end : (f : Field) → is_input (field_after f (zeros f)) ≡ true
unfolding zeros
zeros_end Frame = refl
zeros_end Ports = refl
zeros_end Input = refl
zeros_end Output = refl
zeros_end Cells = refl

zeros_short : (f : Field) → AllShort (zeros f)
unfolding zeros
zeros_short Frame = omega arith
zeros_short Ports = omega arith
zeros_short Input = tt
zeros_short Output = omega arith
zeros_short Cells = omega arith

-- what a living reading has taken begins some text of the form
completed : (t : List ℕ) → lived start t ≡ length t → (rest : List ℕ) × OfForm (t ++ rest)
completed t e = (rest.0 ++ fields_text (next_field f) more, subst OfForm (sym whole) (fields_form (ns ++ value ∷ more) short input))
  where
    read : SoFar start t
    read = so_far start t stands_start e

    r : Reader
    r = past_all start t

    f : Field
    f = r.field

    value : ℕ
    value = value_of r

    ns : List ℕ
    ns = numbers_in start t

    more : List ℕ
    more = zeros (next_field f)

    rest : (rest : List ℕ) × (begun r ++ rest ≡ field_text f value)
    rest = rest_of r read.standing

    short : AllShort (ns ++ value ∷ more)
    short = short_then ns (value ∷ more) read.short (read.standing.value_short, zeros_short (next_field f))

    input : is_input (field_after Frame (ns ++ value ∷ more)) ≡ true
    input =
        ap is_input (after_then Frame ns (value ∷ more) ∙ ap (λ (g : Field). field_after g (value ∷ more)) (sym read.in_field))
        ∙ zeros_end (next_field f)

    whole : t ++ (rest.0 ++ fields_text (next_field f) more) ≡ fields_text Frame (ns ++ value ∷ more)
    whole =
        ap (λ (l : List ℕ). l ++ (rest.0 ++ fields_text (next_field f) more)) read.bytes
        ∙ append_assoc (fields_text Frame ns) (begun r) (rest.0 ++ fields_text (next_field f) more)
        ∙ ap (λ (l : List ℕ). fields_text Frame ns ++ l)
        (sym (append_assoc (begun r) rest.0 (fields_text (next_field f) more))
        ∙ ap (λ (l : List ℕ). l ++ fields_text (next_field f) more) rest.1)
        ∙ ap (λ (g : Field). fields_text Frame ns ++ fields_text g (value ∷ more)) read.in_field
        ∙ sym (fields_then Frame ns (value ∷ more))

pub lived_begins : (text : List ℕ) → Begins text (lived start text)
lived_begins text =
    record {
      whole = take p text ++ rest.0;
      of_form = rest.1;
      within = lived_most start text;
      same = sym (take_at (take p text) rest.0 p long);
      there = omega (arith, length-append (take p text) rest.0, long);
    }
  where
    p : ℕ
    p = lived start text

    long : length (take p text) ≡ p
    long = length-take-le p text (lived_most start text)

    rest : (rest : List ℕ) × OfForm (take p text ++ rest)
    rest = completed (take p text) (omega (arith, lived-take p start text, long))

-- and no longer prefix does: a text of the form is lived through
pub lived_longest : (text : List ℕ) → LongestBeginning text (lived start text)
lived_longest text = record { begins = lived_begins text; longest = most }
  where
    most : (q : ℕ) → Begins text q → q ≤ lived start text
    most q b =
        let all = (form_runs b.whole b.of_form).alive in
        omega (arith, lived-take q start text, lived-take q start b.whole, ap (lived start) b.same, all, b.there)
