-- The plan text: the proofs of what `specs/PlanText.antt` states.
use Prim.Native.Nat.{ℕ, ◌*◌, ◌≤◌}
use mathlib.Core.Path.{◌≡◌, refl, sym, ◌∙◌, ap, subst}
use mathlib.Core.Bool.{Bool, true, false, not, cond, true≢false}
use mathlib.Core.List.{List, [], ◌∷◌, ◌++◌}
use native.Mathlib.Omega.{arith}
use native.Mathlib.Nat.{pow-le-pow_right}
use borrow.Author.Tests.{ltb-false, le-ltb, not-true}
use lib.ListN.{length, get_or, take, drop}
use lib.Seq.{take_at, take-append_seam}
use lib.IntN.{pos}
use lib.Signed.{mag}
use lib.Dec.{ltb}
use Rattle.answers.specs.declared.Answer.{Answer}
use Rattle.answers.specs.Numbers.{TEXT_TOO_LONG, TEXT_NOT_OF_FORM, BUFFER_TOO_SMALL}
use Rattle.answers.specs.Limits.{max_text}
use Rattle.answers.specs.Answers.{Rule, answer, refusal, done_with, ◌when◌, is_done}
use Rattle.answers.proofs.First.{given_exactly, first_given}
use Rattle.flows.specs.Flows.{per_flow, flow_count, list_rules, InRange}
use Rattle.plan_text.specs.Plans.{Plan}
use Rattle.plan_text.specs.Digits.{spelled, digits}
use Rattle.plan_text.specs.Form.{max_number, flow_lines, text_of_plan, OfForm, LongestBeginning}
use Rattle.plan_text.specs.Reading.{start, lived, is_of_form, frame_in, ports_in, list_in}
use Rattle.plan_text.specs.Plans.{over, read_answer, read_plan, read_into, write_answer, written_into}
use Rattle.plan_text.proofs.Recognised.{recognised_form, form_recognised, form_runs, form_plan}
use Rattle.plan_text.proofs.Longest.{lived_longest}
use Rattle.plan_text.proofs.Digits.{digits_of, all_digits, each_digit, digits_bytes, digits_first, digits-length, digits_small, digits_injective}
use Rattle.plan_text.proofs.RoundTrip.{ReadDone, read_done, write_done, frame_back, ports_back, list_back, reads, writes}
use Rattle.demands.specs.PlanText.{IsNumber, NumbersWritten, WrittenOneWay, PlanA, AcceptsTheForm, FindsThePlan, TextOfThePlan, OnePlan, NamesLongest, list_read, frame_read, ports_read, text_written, ReadThenWrite, WriteThenRead}

pub numbers_written : NumbersWritten
numbers_written bytes = (out, back)
  where
    out : IsNumber bytes → (n : ℕ) × (n ≤ max_number) × (bytes ≡ digits n)
    out h =
        let found = digits_of bytes (all_digits bytes h.all_digits) h.some (omega (arith, h.at_most_five)) h.no_leading_zero in
        (found.0, omega (arith, found.1, pow-le-pow_right {n = 10} (omega arith) {i = length bytes} {j = 5} (omega (arith, h.at_most_five))), found.2)

    number : (n : ℕ) → n ≤ max_number → IsNumber (digits n)
    number n l =
        let first = digits_first n (omega arith) in
        record {
          all_digits = each_digit (digits n) (digits_bytes n (omega arith));
          some = first.there;
          at_most_five = omega (arith, digits-length 4 n (omega arith) (omega arith));
          no_leading_zero = λ z. ap (λ (x : ℕ). length (digits x)) (first.leading z) ∙ ap length (digits_small 0 (omega arith));
        }

    back : (n : ℕ) × (n ≤ max_number) × (bytes ≡ digits n) → IsNumber bytes
    back h = subst IsNumber (sym h.2) (number h.0 h.1)

pub written_one_way : WrittenOneWay
written_one_way m n a b e = digits_injective m n (omega arith) (omega arith) e

pub plan_A : PlanA
unfolding text_of_plan flow_lines digits spelled
plan_A = refl

pub accepts_the_form : AcceptsTheForm
accepts_the_form text = (recognised_form text, form_recognised text)

pub finds_the_plan : FindsThePlan
unfolding frame_in ports_in list_in
finds_the_plan text o =
    let found = (form_runs text o).ended in
    (ap (λ (ns : List ℕ). get_or ns 0 0) found, ap (λ (ns : List ℕ). get_or ns 1 0) found, ap (drop 2) found)

pub text_of_the_plan : TextOfThePlan
text_of_the_plan text o = form_plan text o

pub one_plan : OnePlan
one_plan text a b =
    let one = finds_the_plan text a in
    let other = finds_the_plan text b in
    (sym one.0 ∙ other.0, sym one.1 ∙ other.1, sym one.2 ∙ other.2)

pub names_longest : NamesLongest
unfolding read_answer
names_longest text room p = (out, back)
  where
    long : Rule
    long = refusal TEXT_TOO_LONG when ltb max_text (length text)

    not_of_form : Rule
    not_of_form = answer TEXT_NOT_OF_FORM (pos (lived start text)) when not (is_of_form text)

    later : List Rule
    later = list_rules (frame_in text) (ports_in text) (list_in text) ++ (refusal BUFFER_TOO_SMALL when ltb room (length (list_in text))) ∷ []

    done : Answer
    done = done_with (pos (flow_count (list_in text)))

    out : read_answer text room ≡ answer TEXT_NOT_OF_FORM (pos p) → (length text ≤ max_text) × (OfForm text → ⊥) × LongestBeginning text p
    out e =
        let h = (given_exactly TEXT_NOT_OF_FORM (long ∷ []) not_of_form later done refl tt tt tt).0 (ap (λ (a : Answer). a.number) e) in
        let same : lived start text ≡ p = ap (λ (a : Answer). mag a.detail) (sym (first_given (long ∷ []) not_of_form later done h.0 h.1) ∙ e) in
        (ltb-false max_text (length text) h.0.0, λ o. true≢false (sym (form_recognised text o) ∙ not-true (is_of_form text) h.1), subst (LongestBeginning text) same (lived_longest text))

    unrecognised : (OfForm text → ⊥) → (b : Bool) → is_of_form text ≡ b → not b ≡ true
    unrecognised h true e = absurd (h (recognised_form text e))
    unrecognised h false e = refl

    back : (length text ≤ max_text) × (OfForm text → ⊥) × LongestBeginning text p → read_answer text room ≡ answer TEXT_NOT_OF_FORM (pos p)
    back h =
        let here = lived_longest text in
        let same : lived start text ≡ p = omega (arith, here.longest p h.2.begins, h.2.longest (lived start text) here.begins) in
        first_given (long ∷ []) not_of_form later done (le-ltb max_text (length text) h.0, tt) (unrecognised h.1 (is_of_form text) refl)
        ∙ ap (λ (x : ℕ). answer TEXT_NOT_OF_FORM (pos x)) same

pub read_then_write : ReadThenWrite
unfolding read_plan read_into written_into
read_then_write text buffer space e fits = (
  (λ i. write_answer (frame_same i) (ports_same i) (list_same i) (length space)) ∙ answered,
  (λ i. written_into (frame_same i) (ports_same i) (list_same i) space)
      ∙ ap (λ (a : Answer). cond (is_done a) (over (text_of_plan M N L) space) space) written
      ∙ ap (λ (t : List ℕ). over t space) same,
)
  where
    M : ℕ
    M = frame_in text

    N : ℕ
    N = ports_in text

    L : List ℕ
    L = list_in text

    d : ReadDone text (length buffer)
    d = read_done text (length buffer) e

    same : text_of_plan M N L ≡ text
    same = form_plan text d.of_form

    frame_same : frame_read text buffer ≡ M
    frame_same = ap (λ (a : Answer). cond (is_done a) M 0) d.answered

    ports_same : ports_read text buffer ≡ N
    ports_same = ap (λ (a : Answer). cond (is_done a) N 0) d.answered

    list_same : list_read text buffer ≡ L
    list_same =
        ap (λ (a : Answer). take (per_flow * mag a.detail) (cond (is_done a) (over L buffer) buffer)) d.answered
        ∙ take_at L (drop (length L) buffer) (per_flow * flow_count L) d.in_range.good_list.of_threes

    written : write_answer M N L (length space) ≡ done_with (pos (length (text_of_plan M N L)))
    written = writes M N L d.in_range (length space) (omega (arith, ap length same))

    answered : write_answer M N L (length space) ≡ done_with (pos (length text))
    answered = written ∙ ap (λ (t : List ℕ). done_with (pos (length t))) same

pub write_then_read : WriteThenRead
unfolding read_plan read_into written_into
write_then_read M N L space buffer e fits = (
  ap (λ (t : List ℕ). read_plan t (length buffer)) text_same
      ∙ ap (λ (a : Answer). plan a (cond (is_done a) (frame_in text) 0) (cond (is_done a) (ports_in text) 0)) answered
      ∙ (λ i. plan (done_with (pos (flow_count L))) (frame_back M N L range i) (ports_back M N L range i)),
  ap (λ (t : List ℕ). read_into t buffer) text_same
      ∙ ap (λ (a : Answer). cond (is_done a) (over (list_in text) buffer) buffer) answered
      ∙ ap (λ (l : List ℕ). over l buffer) (list_back M N L range),
)
  where
    text : List ℕ
    text = text_of_plan M N L

    plan : Answer → ℕ → ℕ → Plan
    plan a m n = record { answer = a; frame = m; ports = n }

    known : InRange M N L × (write_answer M N L (length space) ≡ done_with (pos (length text)))
    known = write_done M N L (length space) e

    range : InRange M N L
    range = known.0

    text_same : text_written M N L space ≡ text
    text_same =
        ap (λ (a : Answer). take (mag a.detail) (cond (is_done a) (over text space) space)) known.1
        ∙ take-append_seam text (drop (length text) space)

    answered : read_answer text (length buffer) ≡ done_with (pos (flow_count L))
    answered = reads M N L range (length buffer) fits
