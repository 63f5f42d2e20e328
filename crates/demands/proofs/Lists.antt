-- Refusal 4 stands behind 1, 2 and 3 in every order, and names the lowest flow that is out of range.
use Prim.Native.Nat.{ℕ, ◌*◌, ◌%◌, ◌≤◌}
use mathlib.Core.Path.{◌≡◌, refl, sym, ◌∙◌, ap}
use mathlib.Core.Logic.{◌↔◌}
use mathlib.Core.Bool.{Bool, true, false, not, ◌||◌, true≢false}
use mathlib.Core.List.{List, [], ◌∷◌, ◌++◌}
use native.Mathlib.Omega.{arith}
use borrow.Author.Tests.{le-ltb, ltb-false, eq-eqb}
use lib.ListN.{length}
use lib.IntN.{pos}
use lib.Dec.{eqb, ltb, T}
use Rattle.answers.specs.declared.Answer.{Answer}
use Rattle.answers.specs.Numbers.{FRAME_OUT_OF_RANGE, PORTS_OUT_OF_RANGE, LIST_MISSHAPEN, FLOW_OUT_OF_RANGE, TEXT_TOO_LONG, TEXT_NOT_OF_FORM}
use Rattle.answers.specs.Numbers.{BUFFER_TOO_SMALL}
use Rattle.answers.specs.Limits.{max_frame, max_ports, max_flows, max_text, outside, Within}
use Rattle.answers.specs.Lowest.{IsLowest}
use Rattle.answers.specs.Answers.{Rule, answer, refusal, done_with, ◌when◌, naming_lowest, first}
use Rattle.answers.proofs.Ranges.{inside, within_test, either_false}
use Rattle.answers.proofs.First.{NoneHolds, lacks, named_exactly, none_both, none_first, none_later}
use Rattle.flows.specs.Flows.{per_flow, flow_count, input_of, output_of, cells_of, flow_out_of_range, outputs_out_of_range, misshapen, list_rules}
use Rattle.flows.proofs.Shape.{of_threes, not_too_many}
use Rattle.tables.specs.Check.{table_rules, check_answer}
use Rattle.builder.specs.Build.{load_rules, build_answer}
use Rattle.plan_text.specs.Plans.{Plan}
use Rattle.plan_text.specs.Form.{OfForm, text_of_plan}
use Rattle.plan_text.specs.Reading.{start, lived, is_of_form, frame_in, ports_in, list_in}
use Rattle.plan_text.specs.Plans.{read_answer, read_plan, write_answer}
use Rattle.plan_text.proofs.Recognised.{recognised_form, form_recognised}
use Rattle.demands.specs.Lists.{Shaped, OutOfRange, CheckNamesOutOfRange, BuildNamesOutOfRange, WriteNamesOutOfRange}
use Rattle.demands.specs.Lists.{ReadNamesOutOfRange}
use Rattle.demands.proofs.Carrying.{exactly}

-- a list that is of threes, and not too long, is not misshapen
right_shape : (L : List ℕ) → length L ≡ per_flow * flow_count L → flow_count L ≤ max_flows → misshapen L ≡ false
right_shape L threes few =
    simp (eq-eqb (length L % per_flow) 0 (omega (arith, threes)), le-ltb (per_flow * max_flows) (length L) (omega (arith, threes, few)))

-- a flow that is not out of range has each of its numbers in range
flow_inside : (M N : ℕ) (L : List ℕ) (k : ℕ) → flow_out_of_range M N L k ≡ false
    → Within 1 N (input_of L k) × Within 1 N (output_of L k) × Within 1 M (cells_of L k)
flow_inside M N L k e =
    let first = either_false (outside 1 N (input_of L k)) (outputs_out_of_range N L k || outside 1 M (cells_of L k)) e in
    let second = either_false (outputs_out_of_range N L k) (outside 1 M (cells_of L k)) first.1 in
    (inside first.0, inside second.0, inside second.1)

module _ (M N : ℕ) (L : List ℕ) where
  -- refusals 1, 2 and 3
  before : List Rule
  before =
      (refusal FRAME_OUT_OF_RANGE when outside 1 max_frame M)
      ∷ (refusal PORTS_OUT_OF_RANGE when outside 1 max_ports N)
      ∷ (refusal LIST_MISSHAPEN when misshapen L)
      ∷ []

  shaped : NoneHolds before → Shaped M N L
  unfolding before
  shaped h =
      record {
        frame_in_range = inside h.0;
        ports_in_range = inside h.1.0;
        of_threes = of_threes L h.1.1.0;
        not_too_many = not_too_many L h.1.1.0;
      }

  not_refused : Shaped M N L → NoneHolds before
  unfolding before
  not_refused s = (within_test s.frame_in_range, (within_test s.ports_in_range, (right_shape L s.of_threes s.not_too_many, tt)))

  says : (k : ℕ) → flow_out_of_range M N L k ≡ true → OutOfRange M N L k
  says k e w = true≢false (sym e ∙ simp (within_test w.0, within_test w.1, within_test w.2))

  means : (k : ℕ) → OutOfRange M N L k → flow_out_of_range M N L k ≡ true
  means k h = go (flow_out_of_range M N L k) refl
    where
      go : (b : Bool) → flow_out_of_range M N L k ≡ b → b ≡ true
      go true e = refl
      go false e = absurd (h (flow_inside M N L k e))

  -- behind earlier refusals and before more
  named_behind : (earlier more : List Rule) (d : Answer) (k : ℕ)
      → T (lacks FLOW_OUT_OF_RANGE earlier) → T (lacks FLOW_OUT_OF_RANGE more) → T (not (eqb d.number FLOW_OUT_OF_RANGE))
      → (first (earlier ++ naming_lowest FLOW_OUT_OF_RANGE 1 (flow_count L) (flow_out_of_range M N L) ∷ more) d ≡ answer FLOW_OUT_OF_RANGE (pos k))
      ↔ (NoneHolds earlier × IsLowest 1 (flow_count L) (OutOfRange M N L) k)
  named_behind = named_exactly FLOW_OUT_OF_RANGE 1 (flow_count L) (flow_out_of_range M N L) (OutOfRange M N L) (λ j a z. says j) (λ j a z. means j)

  -- in an order that begins with the list's
  named : (more : List Rule) (d : Answer) (k : ℕ) → T (lacks FLOW_OUT_OF_RANGE more) → T (not (eqb d.number FLOW_OUT_OF_RANGE))
      → (first (list_rules M N L ++ more) d ≡ answer FLOW_OUT_OF_RANGE (pos k)) ↔ (Shaped M N L × IsLowest 1 (flow_count L) (OutOfRange M N L) k)
  unfolding before
  named more d k t u =
      let law = named_behind before more d k tt t u in
      (λ e. let h = law.0 e in (shaped h.0, h.1), λ h. law.1 (not_refused h.0, h.1))

pub check_names_out_of_range : CheckNamesOutOfRange
unfolding check_answer
check_names_out_of_range κ x a l c k = exactly c (named _ _ _ (table_rules x.0.now.frame x.0.now.ports x.0.now.list.now x.1.0.now) (done_with (pos 0)) k tt tt)

pub build_names_out_of_range : BuildNamesOutOfRange
unfolding build_answer
build_names_out_of_range κ x a l c k =
    exactly c.answered (named _ _ _ (load_rules x.0.now.frame x.0.now.ports x.0.now.list.now (length x.1.0.now)) (done_with (pos 0)) k tt tt)

pub write_names_out_of_range : WriteNamesOutOfRange
unfolding write_answer
write_names_out_of_range κ x a l c k =
    let text = text_of_plan x.0.now.frame x.0.now.ports x.0.now.list.now in
    exactly c.0
    (named _ _ _ ((refusal BUFFER_TOO_SMALL when ltb (length x.1.0.now) (length text)) ∷ []) (done_with (pos (length text))) k tt tt)

-- in reading, behind 19 and 20
module _ (text : List ℕ) (room k : ℕ) where
  M : ℕ
  M = frame_in text

  N : ℕ
  N = ports_in text

  L : List ℕ
  L = list_in text

  of_text : List Rule
  of_text = (refusal TEXT_TOO_LONG when ltb max_text (length text)) ∷ (answer TEXT_NOT_OF_FORM (pos (lived start text)) when not (is_of_form text)) ∷ []

  formed : (b : Bool) → is_of_form text ≡ b → not b ≡ false → OfForm text
  formed true e h = recognised_form text e
  formed false e h = absurd (true≢false h)

  read_named : (read_answer text room ≡ answer FLOW_OUT_OF_RANGE (pos k))
      ↔ ((length text ≤ max_text) × OfForm text × Shaped M N L × IsLowest 1 (flow_count L) (OutOfRange M N L) k)
  unfolding read_answer M N L of_text before
  read_named = (
    λ e.
        let h = law.0 e in
        let first = none_first of_text (before M N L) h.0 in
        (ltb-false _ _ first.0, formed (is_of_form text) refl first.1.0, shaped M N L (none_later of_text (before M N L) h.0), h.1),
    λ h.
        law.1 (
          none_both of_text (before M N L) (le-ltb _ _ h.0, (ap not (form_recognised text h.1), tt)) (not_refused M N L h.2),
          h.3,
        ),
  )
    where
      law : (read_answer text room ≡ answer FLOW_OUT_OF_RANGE (pos k)) ↔ (NoneHolds (of_text ++ before M N L) × IsLowest 1 (flow_count L) (OutOfRange M N L) k)
      law =
          named_behind M N L (of_text ++ before M N L) ((refusal BUFFER_TOO_SMALL when ltb room (length L)) ∷ []) (done_with (pos (flow_count L))) k tt tt tt

pub read_names_out_of_range : ReadNamesOutOfRange
unfolding read_plan M N L
read_names_out_of_range κ x a l c k = exactly (ap (λ (p : Plan). p.answer) c.0) (read_named x.0.now (length x.1.0.now) k)
