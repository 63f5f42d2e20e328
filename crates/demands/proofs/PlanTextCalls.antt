-- The plan text, of the functions: the proofs of what `specs/PlanTextCalls.antt` states.
use Prim.Native.Nat.{ℕ, ◌*◌, ◌≤◌}
use mathlib.Core.Path.{◌≡◌, refl, sym, ◌∙◌, ap}
use mathlib.Core.Logic.{◌↔◌}
use mathlib.Core.Bool.{Bool, true, false, not, true≢false}
use mathlib.Core.List.{List, [], ◌∷◌}
use borrow.Author.Tests.{ltb-false, le-ltb}
use lib.ListN.{length, take}
use lib.IntN.{pos}
use lib.Signed.{mag}
use lib.Dec.{ltb}
use Rattle.answers.specs.declared.Answer.{Answer}
use Rattle.answers.specs.Numbers.{DONE, BUFFER_TOO_SMALL}
use Rattle.answers.specs.Limits.{max_text}
use Rattle.answers.specs.Answers.{Rule, refusal, done_with, ◌when◌}
use Rattle.answers.proofs.First.{NoneHolds, done_exactly, none_first, none_later, none_both}
use Rattle.flows.specs.Flows.{per_flow, flow_count, list_rules, InRange}
use Rattle.flows.proofs.Shape.{in_range, not_due}
use Rattle.plan_text.specs.Plans.{Plan}
use Rattle.plan_text.specs.Form.{text_of_plan, OfForm}
use Rattle.plan_text.specs.Reading.{is_of_form, frame_in, ports_in, list_in}
use Rattle.plan_text.specs.Plans.{read_rules, write_rules, read_answer, read_plan, read_into, write_answer, written_into}
use Rattle.plan_text.proofs.Recognised.{recognised_form, form_recognised}
use Rattle.demands.specs.PlanText.{frame_read, ports_read, list_read, text_written}
use Rattle.demands.specs.PlanTextCalls.{NamesLongestOfContract, ReadGiven, WriteGiven, ReadThenWriteOfContract, WriteThenReadOfContract}
use Rattle.demands.proofs.Carrying.{exactly}
use Rattle.demands.proofs.PlanText as PlanText

pub names_longest_of_contract : NamesLongestOfContract
unfolding read_plan
names_longest_of_contract κ x a l c n = exactly (ap (λ (p : Plan). p.answer) c.0) (PlanText.names_longest _ _ n)

-- done is given exactly if none of the refusals is due
read_exactly : (text : List ℕ) (room : ℕ)
    → ((read_answer text room).number ≡ DONE)
    ↔ ((length text ≤ max_text) × OfForm text × InRange (frame_in text) (ports_in text) (list_in text) × (length (list_in text) ≤ room))
unfolding read_answer
read_exactly text room = (out, back)
  where
    M : ℕ
    M = frame_in text

    N : ℕ
    N = ports_in text

    L : List ℕ
    L = list_in text

    small : List Rule
    small = (refusal BUFFER_TOO_SMALL when ltb room (length L)) ∷ []

    law : ((read_answer text room).number ≡ DONE) ↔ NoneHolds (read_rules text room)
    law = done_exactly DONE (read_rules text room) (done_with (pos (flow_count L))) refl tt

    formed : (b : Bool) → is_of_form text ≡ b → not b ≡ false → OfForm text
    formed true e h = recognised_form text e
    formed false e h = absurd (true≢false h)

    out : (read_answer text room).number ≡ DONE → (length text ≤ max_text) × OfForm text × InRange M N L × (length L ≤ room)
    out e =
        let none = law.0 e in (
          ltb-false _ _ none.0,
          formed (is_of_form text) refl none.1.0,
          in_range M N L (none_first (list_rules M N L) small none.1.1),
          ltb-false _ _ (none_later (list_rules M N L) small none.1.1).0,
        )

    back : (length text ≤ max_text) × OfForm text × InRange M N L × (length L ≤ room) → (read_answer text room).number ≡ DONE
    back h =
        law.1 (
          le-ltb _ _ h.0,
          (ap not (form_recognised text h.1), none_both (list_rules M N L) small (not_due M N L h.2) (le-ltb _ _ h.3, tt)),
        )

pub read_given : ReadGiven
unfolding read_plan
read_given κ x p l c =
    let same = ap (λ (q : Plan). q.answer.number) c.0 in
    let law = read_exactly _ _ in
    (λ e. law.0 (sym same ∙ e), λ h. same ∙ law.1 h)

write_exactly : (M N : ℕ) (L : List ℕ) (room : ℕ) → ((write_answer M N L room).number ≡ DONE) ↔ (InRange M N L × (length (text_of_plan M N L) ≤ room))
unfolding write_answer
write_exactly M N L room = (out, back)
  where
    small : List Rule
    small = (refusal BUFFER_TOO_SMALL when ltb room (length (text_of_plan M N L))) ∷ []

    law : ((write_answer M N L room).number ≡ DONE) ↔ NoneHolds (write_rules M N L room)
    law = done_exactly DONE (write_rules M N L room) (done_with (pos (length (text_of_plan M N L)))) refl tt

    out : (write_answer M N L room).number ≡ DONE → InRange M N L × (length (text_of_plan M N L) ≤ room)
    out e =
        let none = law.0 e in
        (in_range M N L (none_first (list_rules M N L) small none), ltb-false _ _ (none_later (list_rules M N L) small none).0)

    back : InRange M N L × (length (text_of_plan M N L) ≤ room) → (write_answer M N L room).number ≡ DONE
    back h = law.1 (none_both (list_rules M N L) small (not_due M N L h.0) (le-ltb _ _ h.1, tt))

pub write_given : WriteGiven
write_given κ x a l c =
    let same = ap (λ (b : Answer). b.number) c.0 in
    let law = write_exactly _ _ _ _ in
    (λ e. law.0 (sym same ∙ e), λ h. same ∙ law.1 h)

pub read_then_write_of_contract : ReadThenWriteOfContract
read_then_write_of_contract κ x p l c z κ' y a m d e f g fits =
    let number = sym (ap (λ (q : Plan). q.answer.number) c.0) ∙ z in
    let back = PlanText.read_then_write x.0.now x.1.0.now y.1.0.now number fits in
    let M : y.0.now.frame ≡ frame_read x.0.now x.1.0.now = e ∙ ap (λ (q : Plan). q.frame) c.0 in
    let N : y.0.now.ports ≡ ports_read x.0.now x.1.0.now = f ∙ ap (λ (q : Plan). q.ports) c.0 in
    let L : y.0.now.list.now ≡ list_read x.0.now x.1.0.now = g ∙ (λ i. take (per_flow * mag (c.0 i).answer.detail) (c.1 i)) in (
      d.0 ∙ (λ i. write_answer (M i) (N i) (L i) (length y.1.0.now)) ∙ back.0,
      d.1 ∙ (λ i. written_into (M i) (N i) (L i) y.1.0.now) ∙ back.1,
    )

pub write_then_read_of_contract : WriteThenReadOfContract
write_then_read_of_contract κ x a l c z κ' y p m d e fits =
    let number = sym (ap (λ (b : Answer). b.number) c.0) ∙ z in
    let back = PlanText.write_then_read x.0.now.frame x.0.now.ports x.0.now.list.now x.1.0.now y.1.0.now number fits in
    let text : y.0.now ≡ text_written x.0.now.frame x.0.now.ports x.0.now.list.now x.1.0.now = e ∙ (λ i. take (mag (c.0 i).detail) (c.1 i)) in
    (d.0 ∙ ap (λ (t : List ℕ). read_plan t (length y.1.0.now)) text ∙ back.0, d.1 ∙ ap (λ (t : List ℕ). read_into t y.1.0.now) text ∙ back.1)
