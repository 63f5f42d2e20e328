-- What reading a text leaves for the builder: its frame, its ports and its list, as many numbers as its heading says.
use Prim.Native.Nat.{ℕ, ◌*◌, ◌≤◌}
use mathlib.Core.Path.{◌≡◌, refl, sym, ◌∙◌, ap, subst}
use mathlib.Core.Bool.{Bool, true, cond}
use mathlib.Core.List.{List}
use native.Mathlib.Omega.{arith}
use borrow.Author.Tests.{eq-eqb, ne_eqb}
use lib.IntN.{pos}
use lib.Signed.{mag}
use lib.ListN.{length, take, drop, replicate}
use lib.Seq.{take_at}
use Rattle.std.proofs.Common.{Result, Ok, Err}
use Rattle.std.specs.Result.{MatchResult, IsOkAnd, IfOk}
use Rattle.answers.specs.declared.Answer.{Answer}
use Rattle.answers.specs.declared.Refusal.{Refusal}
use Rattle.answers.specs.Answers.{is_done, done_with, plain_answer}
use Rattle.answers.proofs.Outcomes.{not_done}
use Rattle.answers.specs.Limits.{max_flows}
use Rattle.flows.specs.Flows.{per_flow, flow_count, InRange}
use Rattle.tables.specs.Accepted.{Accepted}
use Rattle.builder.specs.Build.{build_answer, Built}
use Rattle.plan_text.specs.declared.reading.Heading.{Heading}
use Rattle.plan_text.specs.Reading.{frame_in, ports_in, list_in}
use Rattle.plan_text.specs.Plans.{Plan, handed, over, over_if_done, read_answer, read_plan, read_into}
use Rattle.plan_text.proofs.RoundTrip.{ReadDone, read_done}
use Rattle.plan.specs.Responding.{list_room, respond_answer, Responded, told}

-- what the reader hands back of a text, lent an empty list of the most flows
abbrev pub HandedBack : List ℕ → Result Heading Refusal → Type 0
HandedBack text r = handed r ≡ read_plan text (length (replicate {A = ℕ} list_room 0))

module _ (text buffer : List ℕ) (room : length buffer ≡ list_room) (read : Result Heading Refusal) (e : handed read ≡ read_plan text (length buffer)) where
  answer_is : (handed read).answer ≡ read_answer text list_room
  unfolding read_plan
  answer_is = ap (λ (x : Plan). x.answer) e ∙ ap (λ (n : ℕ). read_answer text n) room

-- a text that is refused
pub refuses : (text buffer : List ℕ) (room : length buffer ≡ list_room) (r : Refusal) (e : handed (Err r) ≡ read_plan text (length buffer)) (table : List ℕ)
    → Responded text table table (told (Err r))
unfolding respond_answer
refuses text buffer room r e table =
    let is = answer_is text buffer room (Err r) e in
    record {
      answered =
          is
          ∙ sym (ap (λ (b : Bool). cond b (build_answer (frame_in text) (ports_in text) (list_in text) (length table)) (read_answer text list_room))
          (ne_eqb _ _ (λ x. not_done r (ap (λ (a : Answer). a.number) is ∙ x))));
      in_range = λ x. absurd (not_done r x);
      accepted = λ x. absurd (not_done r x);
      frame_is = λ x. absurd (not_done r x);
      ports_is = λ x. absurd (not_done r x);
      refused_leaves = λ x. refl;
      beyond = refl;
    }

-- a text that is read
module _ (text buffer : List ℕ) (room : length buffer ≡ list_room) (h : Heading) (e : handed (Ok h) ≡ read_plan text (length buffer)) where
  is : done_with (pos h.flows) ≡ read_answer text list_room
  is = answer_is text buffer room (Ok h) e

  known : ReadDone text list_room
  unfolding is
  known = read_done text list_room (sym (ap (λ (a : Answer). a.number) is))

  done_test : is_done (read_answer text list_room) ≡ true
  unfolding is
  done_test = eq-eqb _ _ (sym (ap (λ (a : Answer). a.number) is))

  few : flow_count (list_in text) ≤ max_flows
  few = known.in_range.good_list.not_too_many

  counted : h.flows ≡ flow_count (list_in text)
  unfolding is
  counted = ap (λ (a : Answer). mag a.detail) (is ∙ known.answered)

  -- whatever the builder makes of it
  pub counts : (built : Result (Unit {0}) Refusal) (r : Result Heading Refusal) → MatchResult built (λ x. IsOkAnd r (λ y. y ≡ h)) (λ e. r ≡ Err e)
      → IfOk r (λ k. k.flows ≡ flow_count (list_in text))
  counts (Ok x) (Ok y) same = ap (λ (k : Heading). k.flows) same ∙ counted
  counts (Ok x) (Err e) same = absurd same
  counts (Err e) r same = subst (λ (k : Result Heading Refusal). IfOk k (λ k. k.flows ≡ flow_count (list_in text))) (sym same) tt

  -- the list of so many flows lies in the buffer that was lent
  pub room_for : per_flow * h.flows ≤ list_room
  room_for = omega (arith, counted, few)

  frames : h.frame ≡ frame_in text
  unfolding read_plan
  frames =
      ap (λ (x : Plan). x.frame) e
      ∙ ap (λ (n : ℕ). cond (is_done (read_answer text n)) (frame_in text) 0) room
      ∙ ap (λ (b : Bool). cond b (frame_in text) 0) done_test

  ports : h.ports ≡ ports_in text
  unfolding read_plan
  ports =
      ap (λ (x : Plan). x.ports) e
      ∙ ap (λ (n : ℕ). cond (is_done (read_answer text n)) (ports_in text) 0) room
      ∙ ap (λ (b : Bool). cond b (ports_in text) 0) done_test

  pub list_is : (left : List ℕ) → left ≡ read_into text buffer → take (per_flow * h.flows) left ≡ list_in text
  unfolding read_into
  list_is left x =
      ap (λ (l : List ℕ). take (per_flow * h.flows) l)
      (x ∙ ap (λ (k : ℕ). over_if_done (read_answer text k) (list_in text) buffer) room ∙ ap (λ (b : Bool). cond b (over (list_in text) buffer) buffer) done_test)
      ∙ take_at (list_in text) (drop (length (list_in text)) buffer) (per_flow * h.flows) (omega (arith, counted, known.in_range.good_list.of_threes))

  module _ (table after list : List ℕ) (l : list ≡ list_in text) where
    answered_is : (a : Answer) → Built h.frame h.ports list table after a → a ≡ respond_answer text (length table)
    unfolding respond_answer
    answered_is a b =
        b.answered
        ∙ ap (λ (x : ℕ). build_answer x h.ports list (length table)) frames
        ∙ ap (λ (x : ℕ). build_answer (frame_in text) x list (length table)) ports
        ∙ ap (λ (x : List ℕ). build_answer (frame_in text) (ports_in text) x (length table)) l
        ∙ sym (ap (λ (t : Bool). cond t (build_answer (frame_in text) (ports_in text) (list_in text) (length table)) (read_answer text list_room)) done_test)

    past_the_table : (a : Answer) → Built h.frame h.ports list table after a → drop (ports_in text * frame_in text) after ≡ drop (ports_in text * frame_in text) table
    past_the_table a b =
        subst (λ (m : ℕ). drop (ports_in text * m) after ≡ drop (ports_in text * m) table) frames
        (subst (λ (n : ℕ). drop (n * h.frame) after ≡ drop (n * h.frame) table) ports b.beyond)

    -- and built
    builds : Built h.frame h.ports list table after (plain_answer (Ok tt)) → Responded text table after (told (Ok h))
    builds b =
        record {
          answered = answered_is (plain_answer (Ok tt)) b;
          in_range = λ x.
              subst (λ (m : ℕ). InRange m h.ports (list_in text)) (sym frames)
              (subst (λ (n : ℕ). InRange (frame_in text) n (list_in text)) (sym ports) known.in_range);
          accepted = λ x.
              subst (λ (m : ℕ). Accepted m (ports_in text) (list_in text) after) frames
              (subst (λ (n : ℕ). Accepted h.frame n (list_in text) after) ports
              (subst (λ (q : List ℕ). Accepted h.frame h.ports q after) l (b.accepted x)));
          frame_is = λ x. frames;
          ports_is = λ x. ports;
          refused_leaves = b.refused_leaves;
          beyond = past_the_table (plain_answer (Ok tt)) b;
        }

    -- or refused by the builder
    fails : (r : Refusal) → Built h.frame h.ports list table after (plain_answer (Err r)) → Responded text table after (told (Err r))
    fails r b =
        record {
          answered = answered_is (plain_answer (Err r)) b;
          in_range = λ x. absurd (not_done r x);
          accepted = λ x. absurd (not_done r x);
          frame_is = λ x. absurd (not_done r x);
          ports_is = λ x. absurd (not_done r x);
          refused_leaves = b.refused_leaves;
          beyond = past_the_table (plain_answer (Err r)) b;
        }

    -- the builder's outcome decides
    pub planned : (built : Result (Unit {0}) Refusal) (r : Result Heading Refusal) → MatchResult built (λ x. IsOkAnd r (λ y. y ≡ h)) (λ e. r ≡ Err e)
        → Built h.frame h.ports list table after (plain_answer built) → Responded text table after (told r)
    planned (Ok x) (Ok y) same b = subst (λ (k : Heading). Responded text table after (told (Ok k))) (sym same) (builds b)
    planned (Ok x) (Err e) same b = absurd same
    planned (Err e) r same b = subst (λ (k : Result Heading Refusal). Responded text table after (told k)) (sym same) (fails e b)
