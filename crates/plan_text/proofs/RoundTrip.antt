-- Reading then writing, and writing then reading, leave the plan and the text as they were.
use Prim.Native.Nat.{ℕ, suc, ◌+◌, ◌-◌, ◌*◌, ◌/◌, ◌%◌, ◌≤◌, ◌<◌}
use mathlib.Core.Path.{◌≡◌, refl, ◌∙◌, ap}
use mathlib.Core.Bool.{not}
use mathlib.Core.List.{List, [], ◌∷◌}
use native.Mathlib.Omega.{arith}
use native.Mathlib.Decide.{ℕ_discrete}
use borrow.Author.Tests.{ltb-false, le-ltb, not-false}
use lib.ListN.{length, get_or, length-append}
use lib.IntN.{pos}
use lib.Dec.{ltb}
use Rattle.answers.specs.Numbers.{DONE, BUFFER_TOO_SMALL}
use Rattle.answers.specs.Limits.{max_text}
use Rattle.answers.specs.Answers.{Rule, refusal, done_with, ◌when◌}
use Rattle.answers.proofs.First.{NoneHolds, none_first, none_later, none_both, done_exactly, first_none}
use Rattle.flows.specs.Flows.{per_flow, flow_count, IsFlow, InRange, list_rules}
use Rattle.flows.proofs.Shape.{in_range, not_due}
use Rattle.plan_text.specs.Digits.{digits}
use Rattle.plan_text.specs.Form.{max_number, flow_lines, text_of_plan, AllShort, OfForm}
use Rattle.plan_text.specs.Reading.{is_of_form, frame_in, ports_in, list_in}
use Rattle.plan_text.specs.Plans.{read_rules, read_answer, write_rules, write_answer}
use Rattle.plan_text.proofs.Digits.{digits-length}
use Rattle.plan_text.proofs.Fields.{OfThrees}
use Rattle.plan_text.proofs.Recognised.{plan_frame, plan_ports, plan_list, plan_form, form_recognised, recognised_form}

-- a number of a plan text has at most five bytes
five : (n : ℕ) → n ≤ max_number → length (digits n) ≤ 5
five n l = digits-length 4 n (omega arith) (omega arith)

-- a flow's line has at most 23 bytes, so a plan of 255 flows stays below the limit of a text
flows_length : (L : List ℕ) → AllShort L → 3 * length (flow_lines L) ≤ 23 * length L
unfolding flow_lines
flows_length [] s = omega arith
flows_length (i ∷ []) s = omega arith
flows_length (i ∷ j ∷ []) s = omega arith
flows_length (i ∷ j ∷ c ∷ L) s =
    simp length-append (omega (arith, flows_length L s.1.1.1, five i s.0, five j s.1.0, five c s.1.1.0))

plan_length : (M N : ℕ) (L : List ℕ) → M ≤ max_number → N ≤ max_number → AllShort L → 3 * length (text_of_plan M N L) ≤ 72 + 23 * length L
unfolding text_of_plan
plan_length M N L m n s = simp length-append (omega (arith, five M m, five N n, flows_length L s))

-- numbers in range are short
all_short : (L : List ℕ) → ((p : ℕ) → p < length L → get_or L p 0 ≤ max_number) → AllShort L
all_short [] h = tt
all_short (n ∷ L) h = (h 0 (omega arith), all_short L (λ p l. h (suc p) (omega arith)))

good_short : (M N : ℕ) (L : List ℕ) → InRange M N L → AllShort L
good_short M N L r = all_short L place
  where
    place : (p : ℕ) → p < length L → get_or L p 0 ≤ max_number
    place p l = go (ℕ_discrete (p % 3) 0) (ℕ_discrete (p % 3) 1)
      where
        k : ℕ
        k = p / 3 + 1

        flow : IsFlow L k
        flow = record { at_least = omega arith; at_most = omega (arith, r.good_list.of_threes) }

        go : Dec (p % 3 ≡ 0) → Dec (p % 3 ≡ 1) → get_or L p 0 ≤ max_number
        go (yes a) b =
            let same : per_flow * (k - 1) ≡ p = omega arith in
            omega (arith, ap (λ (x : ℕ). get_or L x 0) same, (r.good_list.inputs k flow).at_most, r.ports_in_range)
        go (no a) (yes b) =
            let same : per_flow * (k - 1) + 1 ≡ p = omega arith in
            omega (arith, ap (λ (x : ℕ). get_or L x 0) same, (r.good_list.outputs k flow).at_most, r.ports_in_range)
        go (no a) (no b) =
            let same : per_flow * (k - 1) + 2 ≡ p = omega arith in
            omega (arith, ap (λ (x : ℕ). get_or L x 0) same, (r.good_list.cells k flow).at_most, r.frame_in_range)

-- what a text that is read with 0 is known to be
pub record ReadDone (text : List ℕ) (room : ℕ) : Type 0 where
  pub of_form : OfForm text
  pub in_range : InRange (frame_in text) (ports_in text) (list_in text)
  pub fits : length (list_in text) ≤ room
  pub answered : read_answer text room ≡ done_with (pos (flow_count (list_in text)))

pub read_done : (text : List ℕ) (room : ℕ) → (read_answer text room).number ≡ DONE → ReadDone text room
unfolding read_answer
read_done text room e =
    record {
      of_form = recognised_form text (not-false (is_of_form text) none.1.0);
      in_range = in_range (frame_in text) (ports_in text) (list_in text) (none_first rules (last ∷ []) none.1.1);
      fits = ltb-false _ _ (none_later rules (last ∷ []) none.1.1).0;
      answered = first_none (read_rules text room) (done_with (pos (flow_count (list_in text)))) none;
    }
  where
    rules : List Rule
    rules = list_rules (frame_in text) (ports_in text) (list_in text)

    last : Rule
    last = refusal BUFFER_TOO_SMALL when ltb room (length (list_in text))

    none : NoneHolds (read_rules text room)
    none = (done_exactly DONE (read_rules text room) (done_with (pos (flow_count (list_in text)))) refl tt).0 e

-- a plan that is written with 0 is in range
pub write_done : (M N : ℕ) (L : List ℕ) (room : ℕ) → (write_answer M N L room).number ≡ DONE
    → InRange M N L × (write_answer M N L room ≡ done_with (pos (length (text_of_plan M N L))))
unfolding write_answer
write_done M N L room e =
    let none = (done_exactly DONE (write_rules M N L room) (done_with (pos (length (text_of_plan M N L)))) refl tt).0 e in
    (in_range M N L (none_first (list_rules M N L) ((refusal BUFFER_TOO_SMALL when ltb room (length (text_of_plan M N L))) ∷ []) none), first_none (write_rules M N L room) (done_with (pos (length (text_of_plan M N L)))) none)

module _ (M N : ℕ) (L : List ℕ) (r : InRange M N L) where
  frame_short : M ≤ max_number
  frame_short = omega (arith, r.frame_in_range)

  ports_short : N ≤ max_number
  ports_short = omega (arith, r.ports_in_range)

  list_short : AllShort L
  list_short = good_short M N L r

  threes : OfThrees L
  threes = r.good_list.of_threes

  -- a plan in range is found again in its text
  pub frame_back : frame_in (text_of_plan M N L) ≡ M
  frame_back = plan_frame M N L frame_short ports_short list_short threes

  pub ports_back : ports_in (text_of_plan M N L) ≡ N
  ports_back = plan_ports M N L frame_short ports_short list_short threes

  pub list_back : list_in (text_of_plan M N L) ≡ L
  list_back = plan_list M N L frame_short ports_short list_short threes

  -- its text is not too long, and is read with 0 where the list has room
  pub text_fits : length (text_of_plan M N L) ≤ max_text
  text_fits = omega (arith, plan_length M N L frame_short ports_short list_short, r.good_list.not_too_many, threes)

  pub reads : (room : ℕ) → length L ≤ room → read_answer (text_of_plan M N L) room ≡ done_with (pos (flow_count L))
  unfolding read_answer
  reads room l =
      first_none (read_rules text room) (done_with (pos (flow_count (list_in text)))) (
        le-ltb max_text (length text) text_fits,
        (
          ap not (form_recognised text (plan_form M N L frame_short ports_short list_short threes)),
          rw (frame_back, ports_back, list_back) (none_both (list_rules M N L) ((refusal BUFFER_TOO_SMALL when ltb room (length L)) ∷ []) (not_due M N L r) (le-ltb room (length L) l, tt)),
        ),
      )
      ∙ ap (λ (l : List ℕ). done_with (pos (flow_count l))) list_back
    where
      text : List ℕ
      text = text_of_plan M N L

  -- it is written with 0 where its text has room
  pub writes : (room : ℕ) → length (text_of_plan M N L) ≤ room → write_answer M N L room ≡ done_with (pos (length (text_of_plan M N L)))
  unfolding write_answer
  writes room l =
      first_none (write_rules M N L room) (done_with (pos (length (text_of_plan M N L))))
      (none_both (list_rules M N L) ((refusal BUFFER_TOO_SMALL when ltb room (length (text_of_plan M N L))) ∷ []) (not_due M N L r) (le-ltb room (length (text_of_plan M N L)) l, tt))
