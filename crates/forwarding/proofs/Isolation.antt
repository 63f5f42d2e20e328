-- Isolation: two states that agree in the record, the number of counts and flow k's count stay so under the same call, and look the same to the flow.
use Prim.Native.Nat.{ℕ}
use mathlib.Core.Path.{◌≡◌, refl, sym, ◌∙◌}
use mathlib.Core.Bool.{true, false}
use mathlib.Core.List.{List}
use native.Mathlib.Omega.{arith}
use lib.ListN.{length, length-replicate, get_or-replicate}
use Rattle.answers.specs.Limits.{Within}
use Rattle.forwarding.specs.Forwarding.{waiting_of, fresh_start_answer, offer_answer, slot_answer}
use Rattle.forwarding.specs.Histories.{State, Call, a_fresh_start, an_offer, answer_of, done, step, sent_by, accepted_by}
use Rattle.forwarding.specs.Isolation.{SameBut, none_left, in_both, in_first, in_second, sees, trace, Isolation}
use Rattle.forwarding.proofs.Keeping.{slot_sends, step-length, step_known, kept, start_empties}

module _ (k : ℕ) where
  record Alike (st st' : State) : Type 0 where
    same_record : st.running ≡ st'.running
    same_number : length st.waiting ≡ length st'.waiting
    same_count : waiting_of st.waiting k ≡ waiting_of st'.waiting k
    known : Within 1 (length st.waiting) k

  flip : {st st' : State} → Alike st st' → Alike st' st
  flip a = grind arith

  -- each answer that the flow sees is made of what the states agree in
  same_answer : {st st' : State} → Alike st st' → (c : Call) → sees k c ≡ true → answer_of st c ≡ answer_of st' c
  unfolding fresh_start_answer offer_answer slot_answer
  same_answer a c s = grind arith

  same_sent : {st st' : State} → Alike st st' → (c : Call) → sees k c ≡ true → sent_by k st c ≡ sent_by k st' c
  same_sent a c s = grind (arith, slot_sends, same_answer a c s)

  same_accepted : {st st' : State} → Alike st st' → (c : Call) → sees k c ≡ true → accepted_by k st c ≡ accepted_by k st' c
  same_accepted a c s = grind (arith, same_answer a c s)

  same_running : {st st' : State} → Alike st st' → (c : Call) → sees k c ≡ true → (step st c).running ≡ (step st' c).running
  unfolding step
  same_running a c s = grind (arith, same_answer a c s)

  same_waiting : {st st' : State} → Alike st st' → (c : Call) → sees k c ≡ true → waiting_of (step st c).waiting k ≡ waiting_of (step st' c).waiting k
  same_waiting a c s = grind (arith, same_answer a c s, same_sent a c s, same_accepted a c s, kept, start_empties)

  -- a call that the flow sees
  seen_step : {st st' : State} → Alike st st' → (c : Call) → sees k c ≡ true → Alike (step st c) (step st' c)
  seen_step {st} {st'} a c s =
      record {
        same_record = same_running a c s;
        same_number = step-length st c ∙ a.same_number ∙ sym (step-length st' c);
        same_count = same_waiting a c s;
        known = step_known k st c a.known;
      }

  -- an offer to another flow
  other_step : {st st' : State} → Alike st st' → (j n : ℕ) → (j ≡ k → ⊥) → Alike (step st (an_offer j n)) st'
  unfolding step
  other_step {st} {st'} a j n d =
      record {
        same_record = grind arith;
        same_number = step-length st (an_offer j n) ∙ a.same_number;
        same_count = grind (arith, kept k st a.known (an_offer j n));
        known = step_known k st (an_offer j n) a.known;
      }

  unseen : {st st' : State} → Alike st st' → (c : Call) → sees k c ≡ false → Alike (step st c) (step st' c)
  unseen a c s = grind (arith, flip, other_step)

  alike_trace : {h h' : List Call} → SameBut k h h' → (st st' : State) → Alike st st' → trace k st h ≡ trace k st' h'
  unfolding trace
  alike_trace none_left st st' a = refl
  alike_trace (in_both {h} {h'} c s) st st' a = grind (arith, same_answer a c, same_sent a c, seen_step a c, unseen a c, alike_trace s (step st c) (step st' c))
  alike_trace (in_first j n d s) st st' a = grind (arith, alike_trace s (step st (an_offer j n)) st' (other_step a j n d))
  alike_trace (in_second j n d s) st st' a = grind (arith, alike_trace s st (step st' (an_offer j n)) (flip (other_step (flip a) j n d)))

-- a fresh start looks at the number of counts alone
same_start : (M N : ℕ) (st st' : State) → length st.waiting ≡ length st'.waiting → answer_of st (a_fresh_start M N) ≡ answer_of st' (a_fresh_start M N)
unfolding fresh_start_answer
same_start M N st st' number = rw number

alike_start : (k M N : ℕ) (st st' : State) → length st.waiting ≡ length st'.waiting → Within 1 (length st.waiting) k → done st (a_fresh_start M N) ≡ true
    → Alike k (step st (a_fresh_start M N)) (step st' (a_fresh_start M N))
unfolding step
alike_start k M N st st' number known e = grind (arith, same_start M N st st' number, length-replicate, get_or-replicate)

pub isolation : Isolation
isolation k M N st st' h h' number known e s = alike_trace k s (step st (a_fresh_start M N)) (step st' (a_fresh_start M N)) (alike_start k M N st st' number known e)
