-- The recogniser accepts exactly the texts of the form, and finds the one plan of each.
use Prim.Native.Nat.{ℕ, ◌≤◌, ◌<◌}
use mathlib.Core.Path.{◌≡◌, refl, sym, ◌∙◌, ap, subst}
use mathlib.Core.Bool.{Bool, true, false, cond, ◌&&◌, true≢false}
use mathlib.Core.List.{List, [], ◌∷◌, ◌++◌, append-nil}
use native.Mathlib.Omega.{arith}
use borrow.Author.Tests.{eqb-true, eq-eqb, lt-ltb}
use lib.ListN.{length, get_or, take, drop}
use lib.Dec.{eqb}
use Rattle.answers.proofs.Ranges.{both_true}
use Rattle.plan_text.specs.declared.reader.Field.{Field}
use Rattle.plan_text.specs.declared.reader.Field.TheVariants.{Frame, Ports, Input, Output, Cells}
use Rattle.plan_text.specs.declared.reader.Reader.{Reader}
use Rattle.plan_text.specs.Digits.{digits}
use Rattle.plan_text.specs.Form.{max_number, text_of_plan, AllShort, OfForm}
use Rattle.plan_text.specs.Reading.{key_of, is_input, may_end, before_field, start, lived, past_all, numbers_in, is_of_form, frame_in, ports_in, list_in, started, value_of}
use Rattle.plan_text.proofs.Standing.{Standing, stands_start}
use Rattle.plan_text.proofs.Running.{Runs}
use Rattle.plan_text.proofs.Fields.{OfThrees, fields_text, field_after, plan_fields, threes_after, after_threes, fields_run}
use Rattle.plan_text.proofs.SoFar.{begun, SoFar, so_far}

-- fields that end before an input are a text of the form
pub fields_form : (ns : List ℕ) → AllShort ns → is_input (field_after Frame ns) ≡ true → OfForm (fields_text Frame ns)
fields_form [] s e = absurd (true≢false (sym e))
fields_form (M ∷ []) s e = absurd (true≢false (sym e))
fields_form (M ∷ N ∷ L) s e =
    record {
      frame = M;
      ports = N;
      list = L;
      frame_short = s.0;
      ports_short = s.1.0;
      list_short = s.1.1;
      of_threes = after_threes L e;
      written = sym (plan_fields M N L (after_threes L e));
    }

-- the reading lives through a plan's text and stands before an input behind it
module _ (M N : ℕ) (L : List ℕ) (short-M : M ≤ max_number) (short-N : N ≤ max_number) (short : AllShort L) (threes : OfThrees L) where
  pub plan_runs : Runs start (text_of_plan M N L) (before_field Input) (M ∷ N ∷ L)
  plan_runs =
      subst (λ (t : List ℕ). Runs start t (before_field Input) (M ∷ N ∷ L)) (sym (plan_fields M N L threes))
      (subst (λ (f : Field). Runs start (fields_text Frame (M ∷ N ∷ L)) (before_field f) (M ∷ N ∷ L)) (threes_after L threes)
      (fields_run Frame (M ∷ N ∷ L) (short-M, (short-N, short))))

  -- and finds the plan
  pub plan_frame : frame_in (text_of_plan M N L) ≡ M
  unfolding frame_in
  plan_frame = ap (λ (ns : List ℕ). get_or ns 0 0) plan_runs.ended

  pub plan_ports : ports_in (text_of_plan M N L) ≡ N
  unfolding ports_in
  plan_ports = ap (λ (ns : List ℕ). get_or ns 1 0) plan_runs.ended

  pub plan_list : list_in (text_of_plan M N L) ≡ L
  unfolding list_in
  plan_list = ap (drop 2) plan_runs.ended

  pub plan_form : OfForm (text_of_plan M N L)
  plan_form =
      record { frame = M; ports = N; list = L; frame_short = short-M; ports_short = short-N; list_short = short; of_threes = threes; written = refl }

-- the numbers of a text of the form
module _ (text : List ℕ) (o : OfForm text) where
  pub form_runs : Runs start text (before_field Input) (o.frame ∷ o.ports ∷ o.list)
  form_runs =
      subst (λ (t : List ℕ). Runs start t (before_field Input) (o.frame ∷ o.ports ∷ o.list)) (sym o.written)
      (plan_runs o.frame o.ports o.list o.frame_short o.ports_short o.list_short o.of_threes)

  pub form_recognised : is_of_form text ≡ true
  unfolding is_of_form
  form_recognised =
      ap (λ (b : Bool). b && may_end (past_all start text)) (eq-eqb (lived start text) (length text) form_runs.alive)
      ∙ ap may_end form_runs.stands

  -- what is read is the plan, and its text is the text
  pub form_plan : text_of_plan (frame_in text) (ports_in text) (list_in text) ≡ text
  unfolding frame_in ports_in list_in
  form_plan = ap (λ (ns : List ℕ). text_of_plan (get_or ns 0 0) (get_or ns 1 0) (drop 2 ns)) form_runs.ended ∙ sym o.written

-- where a text may end nothing of a field has begun
nothing_begun : (q : Reader) → Standing q → may_end q ≡ true → begun q ≡ []
nothing_begun q s e = ap (λ (k : Bool). take q.matched (key_of q.field) ++ cond k (digits (value_of q)) []) fresh ∙ ap (λ (n : ℕ). take n (key_of q.field) ++ []) none
  where
    parts : (is_input q.field ≡ true) × (eqb q.matched 0 ≡ true)
    parts = both_true (is_input q.field) (eqb q.matched 0) e

    none : q.matched ≡ 0
    none = eqb-true q.matched 0 parts.1

    some_key : (f : Field) → is_input f ≡ true → 0 < length (key_of f)
    some_key Frame h = absurd (true≢false (sym h))
    some_key Ports h = absurd (true≢false (sym h))
    some_key Input h = omega arith
    some_key Output h = absurd (true≢false (sym h))
    some_key Cells h = absurd (true≢false (sym h))

    fresh : started q ≡ false
    fresh = s.key_first (lt-ltb q.matched (length (key_of q.field)) (omega (arith, none, some_key q.field parts.0)))

pub recognised_form : (text : List ℕ) → is_of_form text ≡ true → OfForm text
unfolding is_of_form
recognised_form text e = subst OfForm (sym same) (fields_form (numbers_in start text) read.short (sym (ap is_input read.in_field) ∙ input))
  where
    parts : (eqb (lived start text) (length text) ≡ true) × (may_end (past_all start text) ≡ true)
    parts = both_true (eqb (lived start text) (length text)) (may_end (past_all start text)) e

    read : SoFar start text
    read = so_far start text stands_start (eqb-true (lived start text) (length text) parts.0)

    input : is_input (past_all start text).field ≡ true
    input = (both_true (is_input (past_all start text).field) (eqb (past_all start text).matched 0) parts.1).0

    same : text ≡ fields_text Frame (numbers_in start text)
    same =
        read.bytes
        ∙ ap (λ (l : List ℕ). fields_text Frame (numbers_in start text) ++ l) (nothing_begun (past_all start text) read.standing parts.1)
        ∙ append-nil (fields_text Frame (numbers_in start text))

-- such a text has a frame and ports
pub two_numbers : (text : List ℕ) → is_of_form text ≡ true → 2 ≤ length (numbers_in start text)
two_numbers text e = omega (arith, ap length (form_runs text (recognised_form text e)).ended)
