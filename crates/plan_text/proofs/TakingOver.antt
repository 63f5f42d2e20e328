-- How a call that judges a plan first, and then whether the lent buffer has room, comes to its answer and to what it leaves there.
use Rattle.std.proofs.Common.{ℕ, ◌-◌, ◌*◌, ◌≤◌, ◌<◌, ◌≡◌, refl, sym, ◌∙◌, ap, Bool, cond, List, [], ◌∷◌, length, take, drop, length-drop, ℤ, pos, arith}
use borrow.Author.Tests.{ne_eqb, lt-ltb, le-ltb}
use lib.Dec.{ltb}
use lib.Seq.{take_all}
use Rattle.answers.specs.declared.Answer.{Answer}
use Rattle.answers.specs.declared.Refusal.{Refusal}
use Rattle.answers.specs.declared.Refusal.TheVariants.{BufferTooSmall}
use Rattle.answers.specs.Numbers.{DONE, BUFFER_TOO_SMALL}
use Rattle.answers.specs.Answers.{Rule, refusal, refused, done_with, ◌when◌, first}
use Rattle.answers.proofs.First.{refusal_passed_on, goes_on}
use Rattle.answers.specs.Limits.{max_flows, max_text}
use Rattle.flows.specs.Flows.{per_flow, flow_count, InRange, list_rules, list_answer}
use Rattle.flows.proofs.Shape.{listed}
use Rattle.plan_text.specs.Form.{text_of_plan}
use Rattle.plan_text.proofs.RoundTrip.{text_fits}
use Rattle.plan_text.specs.Plans.{over, plan_of, plan_if_done, over_if_done, room_rules}

-- a refusal is not done
not_done : (r : Refusal) → (refused r).number ≡ DONE → ⊥
not_done r e = grind arith

-- on a refusal frame and ports are 0, and the buffer stays
module _ (r : Refusal) (a : Answer) (e : refused r ≡ a) where
  pub refused_plan : (M N : ℕ) → plan_of (refused r) 0 0 ≡ plan_if_done a M N
  refused_plan M N =
      sym (ap (λ (b : Bool). plan_of (refused r) (cond b M 0) (cond b N 0)) (ne_eqb (refused r).number DONE (not_done r)))
      ∙ ap (λ (x : Answer). plan_if_done x M N) e

  pub refused_stays : (front buffer : List ℕ) → buffer ≡ over_if_done a front buffer
  refused_stays front buffer =
      sym (ap (λ (b : Bool). cond b (over front buffer) buffer) (ne_eqb (refused r).number DONE (not_done r)))
      ∙ ap (λ (x : Answer). over_if_done x front buffer) e

-- done, they are handed back, and the front lies over the buffer
module _ (d : ℤ) (a : Answer) (e : done_with d ≡ a) where
  pub done_plan : (M N : ℕ) → plan_of (done_with d) M N ≡ plan_if_done a M N
  done_plan M N = ap (λ (x : Answer). plan_if_done x M N) e

  pub done_over : (front buffer : List ℕ) → over front buffer ≡ over_if_done a front buffer
  done_over front buffer = ap (λ (x : Answer). over_if_done x front buffer) e

-- the plan's refusals come first, then the room decides, whatever is needed and whatever the call is done with
module _ (M N : ℕ) (L : List ℕ) (room needed : ℕ) (done : ℤ) where
  small : List Rule
  small = (refusal BUFFER_TOO_SMALL when ltb room needed) ∷ []

  pub plan_refused : (r : Refusal) → refused r ≡ list_answer M N L → refused r ≡ first (room_rules M N L room needed) (done_with done)
  unfolding list_answer small
  plan_refused r e = refusal_passed_on (list_rules M N L) small (done_with done) (refused r) e (not_done r)

  module _ (e : done_with (pos 0) ≡ list_answer M N L) where
    room_decides : first (room_rules M N L room needed) (done_with done) ≡ cond (ltb room needed) (refusal BUFFER_TOO_SMALL) (done_with done)
    unfolding list_answer small
    room_decides = goes_on (list_rules M N L) small (done_with done) (done_with (pos 0)) e tt refl

    pub no_room : room < needed → refused BufferTooSmall ≡ first (room_rules M N L room needed) (done_with done)
    no_room u = sym (room_decides ∙ ap (λ (b : Bool). cond b (refusal BUFFER_TOO_SMALL) (done_with done)) (lt-ltb room needed u))

    pub room_enough : needed ≤ room → done_with done ≡ first (room_rules M N L room needed) (done_with done)
    room_enough u = sym (room_decides ∙ ap (λ (b : Bool). cond b (refusal BUFFER_TOO_SMALL) (done_with done)) (le-ltb room needed u))

-- a plan that is not refused is in range
module _ (M N : ℕ) (L : List ℕ) (e : done_with (pos 0) ≡ list_answer M N L) where
  judged : InRange M N L
  judged = listed M N L (done_with (pos 0)) e refl

  pub of_threes : length L ≡ per_flow * flow_count L
  of_threes = judged.good_list.of_threes

  pub few_flows : flow_count L ≤ max_flows
  few_flows = judged.good_list.not_too_many

  pub short_text : length (text_of_plan M N L) ≤ max_text
  short_text = text_fits M N L judged

-- the numbers of a text from the third on
pub rest_is : (ns : List ℕ) → take (length ns - 2) (drop 2 ns) ≡ drop 2 ns
rest_is ns = take_all (length ns - 2) (drop 2 ns) (omega (arith, length-drop 2 ns))

-- by these the check proves the calls that read and write a plan
pub ruleset judging = (plan_refused, no_room, room_enough, refused_plan, refused_stays, done_plan, done_over, of_threes, few_flows, short_text, rest_is)
