-- The shore network, of the functions: the proofs of what `specs/CycleCalls.antt` states.
use Prim.Native.Nat.{ℕ, ◌+◌, ◌≤◌, ◌<◌}
use mathlib.Core.Path.{◌≡◌, refl, sym, ◌∙◌, ap, subst}
use mathlib.Core.Bool.{Bool, true, false, not, cond, ◌||◌, true≢false}
use mathlib.Core.List.{List}
use native.Mathlib.Omega.{arith}
use borrow.Author.Tests.{eqb-true, eq-eqb, not-false}
use lib.ListN.{length, get_or}
use lib.IntN.{pos}
use lib.Dec.{eqb, ltb}
use Rattle.answers.specs.declared.Answer.{Answer}
use Rattle.answers.specs.Numbers.{DONE}
use Rattle.answers.specs.Limits.{max_cycles, outside}
use Rattle.answers.specs.Buffers.{written}
use Rattle.answers.specs.Answers.{done_with}
use Rattle.answers.proofs.First.{done_exactly}
use Rattle.answers.proofs.Lowest.{somewhere_false}
use Rattle.answers.proofs.Ranges.{inside, within_test, either_false}
use Rattle.answers.proofs.Buffers.{written_at}
use Rattle.cycles.specs.Lent.{of_network}
use Rattle.cycles.specs.Cycle.{Network, links, messages, size_of, path_of}
use Rattle.cycles.specs.Run.{release_of, response_of}
use Rattle.cycles.specs.Judging.{message_above_window, network_rules, network_answer, cycle_answer, run_answer}
use Rattle.cycles.specs.Refusals.{Sized, AboveWindow}
use Rattle.cycles.specs.Promises.{RunOver}
use Rattle.cycles.proofs.Loads.{room_on}
use Rattle.cycles.proofs.Outcomes.{run_sized}
use Rattle.cycles.proofs.ResponseLaws as Responses
use Rattle.cycles.proofs.Named as Named
use Rattle.demands.specs.CycleCalls.{NetworkAsked, CycleAsked, RunAsked, DoneWithinWindows, Refuses, CycleRefuses, RunRefuses}
use Rattle.demands.specs.CycleCalls.{CycleRefusesOfContract, RunRefusesOfContract, ResponsesLeftBounded}

module _ (w : Network) where
  above_means : (i : ℕ) → AboveWindow w i → message_above_window w i ≡ true
  above_means i a = go (message_above_window w i) refl
    where
      go : (b : Bool) → message_above_window w i ≡ b → b ≡ true
      go true e = refl
      go false e = absurd (omega (arith, a.above, room_on w.windows (λ l. 0) (size_of w i) (path_of w i) e a.link a.there a.on_that_path))

  asked : {other : Bool} → Sized w other → NetworkAsked w
  asked s = record { few_links = s.few_links; few_messages = s.few_messages; as_many_sets = s.as_many_sets }

  sized : {other : Bool} → other ≡ false → NetworkAsked w → Sized w other
  sized e s = record { few_links = s.few_links; few_messages = s.few_messages; as_many_sets = s.as_many_sets; others_sized = e }

  -- of a call whose other lists and numbers are sized exactly if 34 is not due for it
  module _ (other short : Bool) (NotDue : Type 0) (says : Sized w other → NotDue) (means : NotDue → Sized w other) where
    within_windows : DoneWithinWindows w (network_answer w other short)
    unfolding network_answer
    within_windows e i u above =
        let none = (done_exactly DONE (network_rules w other short) (done_with (pos 0)) refl tt).0 e in
        true≢false (sym (above_means i above) ∙ somewhere_false 0 (messages w) (message_above_window w) none.1.1.0 i (omega arith) (omega arith))

    refuses : Refuses NotDue w (network_answer w other short)
    refuses =
        record {
          names_misshapen =
              λ k.
              let law = Named.names_misshapen w other short k in
              (λ e. let h = law.0 e in (says h.0, h.1), λ h. law.1 (means h.0, h.1));
          names_above_window =
              λ k.
              let law = Named.names_above_window w other short k in
              (λ e. let h = law.0 e in ((says h.0.0, h.0.1), h.1), λ h. law.1 ((means h.0.0, h.0.1), h.1));
          done_within_windows = within_windows;
        }

pub cycle_refuses : CycleRefuses
cycle_refuses w ready takenRoom loadRoom =
    refuses w (not (eqb (length ready) (messages w))) (ltb takenRoom (messages w) || ltb loadRoom (links w)) (CycleAsked w ready)
    (λ s. record { network_asked = asked w s; as_many_ready = eqb-true (length ready) (messages w) (not-false _ s.others_sized) })
    (λ s. sized w (ap not (eq-eqb (length ready) (messages w) s.as_many_ready)) s.network_asked)

module _ (w : Network) (R : List ℕ) (cycles : ℕ) where
  abbrev run_missized : Bool
  run_missized = outside 1 max_cycles cycles || not (eqb (length R) (messages w))

  run_asked : Sized w run_missized → RunAsked w R cycles
  run_asked s =
      let r = either_false (outside 1 max_cycles cycles) (not (eqb (length R) (messages w))) s.others_sized in
      record { network_asked = asked w s; cycles_in_range = inside r.0; as_many_releases = eqb-true (length R) (messages w) (not-false _ r.1) }

  asked_run : RunAsked w R cycles → Sized w run_missized
  asked_run s =
      let in_range = within_test s.cycles_in_range in
      let as_many = eq-eqb (length R) (messages w) s.as_many_releases in
      sized w (λ k. in_range k || not (as_many k)) s.network_asked

pub run_refuses : RunRefuses
run_refuses w R cycles room = refuses w (run_missized w R cycles) (ltb room (messages w)) (RunAsked w R cycles) (run_asked w R cycles) (asked_run w R cycles)

-- of the answer that a contract gives
cycle_refused : (w : Network) (ready : List ℕ) (m n : ℕ) (a : Answer) → a ≡ cycle_answer w ready m n → Refuses (CycleAsked w ready) w a
cycle_refused w ready m n a e = subst (λ (b : Answer). Refuses (CycleAsked w ready) w b) (sym e) (cycle_refuses w ready m n)

run_refused : (w : Network) (R : List ℕ) (cycles n : ℕ) (a : Answer) → a ≡ run_answer w R cycles n → Refuses (RunAsked w R cycles) w a
run_refused w R cycles n a e = subst (λ (b : Answer). Refuses (RunAsked w R cycles) w b) (sym e) (run_refuses w R cycles n)

pub cycle_refuses_of_contract : CycleRefusesOfContract
cycle_refuses_of_contract κ x a l c =
    cycle_refused (of_network x.0) x.1.0.now (length x.1.1.0.now) (length x.1.1.1.0.now) _ c.answered

pub run_refuses_of_contract : RunRefusesOfContract
run_refuses_of_contract κ x a l c =
    run_refused (of_network x.0) x.1.0.now x.1.1.0 (length x.1.1.1.0.now) _ c.answered

-- what a run that is done leaves in message i's place is its response
response_left : (w : Network) (R : List ℕ) (cycles : ℕ) (X : List ℕ) (a : Answer) (X' : List ℕ) → RunOver w R cycles X a X' → a.number ≡ DONE
    → (i : ℕ) → i < messages w → get_or X' i 0 ≡ response_of w R cycles i
response_left w R cycles X a X' c z i u =
    ap (λ (t : List ℕ). get_or t i 0) c.responses
    ∙ ap (λ (b : Bool). get_or (cond b (written (messages w) (response_of w R cycles) X) X) i 0) (eq-eqb a.number DONE z)
    ∙ written_at (response_of w R cycles) X (messages w) i u (run_sized w R cycles X c.answered z).0.room

responses_bounded : (w : Network) (R : List ℕ) (cycles : ℕ) (X : List ℕ) (a : Answer) (X' : List ℕ) → RunOver w R cycles X a X' → a.number ≡ DONE
    → (i : ℕ) → i < messages w → release_of R i + i + 1 ≤ cycles → get_or X' i 0 ≤ i + 1
responses_bounded w R cycles X a X' c z i u long =
    let answered = sym (ap (λ (b : Answer). b.number) c.answered) ∙ z in
    omega (arith, response_left w R cycles X a X' c z i u, Responses.response_bounded w R cycles (length X) i answered u long)

pub responses_left_bounded : ResponsesLeftBounded
responses_left_bounded κ x a l c = responses_bounded _ _ _ _ _ _ c
