-- What responses and marks mean, that lower priorities do not delay a message, and how long those above it can.
use Prim.Native.Nat.{ℕ, zero, suc, ◌+◌, ◌≤◌, ◌<◌}
use mathlib.Core.Path.{◌≡◌, refl, sym, ◌∙◌, ap, subst}
use mathlib.Core.Logic.{◌↔◌}
use mathlib.Core.Bool.{Bool, true, false, not, cond, ◌&&◌, ◌||◌}
use mathlib.Core.List.{List}
use native.Mathlib.Omega.{arith}
use native.Mathlib.Decide.{dec_lt}
use borrow.Author.Tests.{le-leb, lt-ltb, le-ltb}
use lib.Dec.{leb}
use Rattle.answers.specs.Numbers.{DONE}
use Rattle.answers.specs.Limits.{max_cycles}
use Rattle.answers.specs.Lowest.{lowest}
use Rattle.answers.specs.Sums.{sum, one}
use Rattle.answers.proofs.Lowest.{somewhere_false}
use Rattle.answers.proofs.Ranges.{either_false}
use Rattle.answers.proofs.Sums.{sum_less, count_at_most}
use Rattle.cycles.specs.Cycle.{Network, messages}
use Rattle.cycles.specs.Judging.{message_above_window, network_answer}
use Rattle.cycles.specs.Run.{STILL_WAITING, RELEASED_PAST_RUN, release_of, taken_before, ready_in, taken_in, mark_for, cycles_through, response_of}
use Rattle.cycles.specs.HouseRule.{SameDownTo}
use Rattle.cycles.specs.Responses.{ResponseCounts, MarkedWaiting, MarkedPast, LowerDoNotDelay, ResponseBounded}
use Rattle.cycles.proofs.Agreeing.{lower_do_not_count}
use Rattle.cycles.proofs.Judged.{none_due}
use Rattle.cycles.proofs.Loads.{held_by_higher}
use Rattle.cycles.proofs.Turns.{before_none, before_step, waited, none_before, not_before, some_before, which_before, response_taken, response_not}

pub response_counts : ResponseCounts
response_counts w R cycles t i l e = omega (arith, response_taken w R i cycles t cycles l e, (waited w R i t e).0)

-- a response is a response or a mark, by whether the run took the message
module _ (w : Network) (R : List ℕ) (cycles i : ℕ) (few : cycles ≤ max_cycles) where
  took : taken_before w R cycles i ≡ true → (response_of w R cycles i ≤ max_cycles) × (release_of R i < cycles)
  took g =
      let found = which_before w R i cycles g in
      (omega (arith, response_taken w R i cycles found.0 cycles found.1 found.2, found.1), omega (arith, (waited w R i found.0 found.2).0, found.1))

  marked_in : taken_before w R cycles i ≡ false → release_of R i < cycles → response_of w R cycles i ≡ STILL_WAITING
  marked_in g l = response_not w R i cycles cycles g ∙ ap (λ (b : Bool). cond b STILL_WAITING RELEASED_PAST_RUN) (lt-ltb (release_of R i) cycles l)

  marked_out : taken_before w R cycles i ≡ false → cycles ≤ release_of R i → response_of w R cycles i ≡ RELEASED_PAST_RUN
  marked_out g l = response_not w R i cycles cycles g ∙ ap (λ (b : Bool). cond b STILL_WAITING RELEASED_PAST_RUN) (le-ltb (release_of R i) cycles l)

  waiting : (response_of w R cycles i ≡ STILL_WAITING) ↔ ((release_of R i < cycles) × ((t : ℕ) → t < cycles → taken_in w R t i ≡ false))
  waiting = (out (taken_before w R cycles i) refl (dec_lt (release_of R i) cycles), λ h. marked_in (not_before w R i cycles (λ t a l. h.1 t l)) h.0)
    where
      out : (b : Bool) → taken_before w R cycles i ≡ b → Dec (release_of R i < cycles)
          → response_of w R cycles i ≡ STILL_WAITING → (release_of R i < cycles) × ((t : ℕ) → t < cycles → taken_in w R t i ≡ false)
      out true g d e = absurd (omega (arith, e, (took g).0))
      out false g (yes l) e = (l, λ t u. none_before w R i cycles g t (omega arith) u)
      out false g (no d) e = absurd (omega (arith, e, marked_out g (omega arith)))

  past : (response_of w R cycles i ≡ RELEASED_PAST_RUN) ↔ (cycles ≤ release_of R i)
  past = (out (taken_before w R cycles i) refl (dec_lt (release_of R i) cycles), back (taken_before w R cycles i) refl)
    where
      out : (b : Bool) → taken_before w R cycles i ≡ b → Dec (release_of R i < cycles) → response_of w R cycles i ≡ RELEASED_PAST_RUN → cycles ≤ release_of R i
      out true g d e = absurd (omega (arith, e, (took g).0))
      out false g (yes l) e = absurd (omega (arith, e, marked_in g l))
      out false g (no d) e = omega arith

      back : (b : Bool) → taken_before w R cycles i ≡ b → cycles ≤ release_of R i → response_of w R cycles i ≡ RELEASED_PAST_RUN
      back true g l = absurd (omega (arith, (took g).1))
      back false g l = marked_out g l

pub marked_waiting : MarkedWaiting
marked_waiting w R cycles i few = waiting w R cycles i few

pub marked_past : MarkedPast
marked_past w R cycles i few = past w R cycles i few

-- what is the same down to i is so down to each message above
down : {i j : ℕ} {w w' : Network} → j ≤ i → SameDownTo i w w' → SameDownTo j w w'
down l s = record { same_windows = s.same_windows; same_sizes = λ k u. s.same_sizes k (omega arith); same_paths = λ k u. s.same_paths k (omega arith) }

-- lower priorities do not delay a message: cycle by cycle the same messages down to it wait, and so the same are taken
module _ (w w' : Network) (R R' : List ℕ) where
  abbrev SameReleases : ℕ → Type 0
  SameReleases i = (j : ℕ) → j ≤ i → release_of R j ≡ release_of R' j

  same_then : (t i : ℕ) → SameDownTo i w w' → SameReleases i → ((j : ℕ) → j ≤ i → taken_before w R t j ≡ taken_before w' R' t j) → taken_in w R t i ≡ taken_in w' R' t i
  same_then t i s r earlier = lower_do_not_count i w w' (ready_in w R t) (ready_in w' R' t) s (λ j l. λ k. leb (r j l k) t && not (earlier j l k))

  same_before : (t i : ℕ) → SameDownTo i w w' → SameReleases i → taken_before w R t i ≡ taken_before w' R' t i
  same_before zero i s r = before_none w R i ∙ sym (before_none w' R' i)
  same_before (suc t) i s r =
      let earlier : (j : ℕ) → j ≤ i → taken_before w R t j ≡ taken_before w' R' t j = λ j l. same_before t j (down l s) (λ k u. r k (omega arith)) in
      before_step w R i t ∙ (λ k. earlier i (omega arith) k || same_then t i s r earlier k) ∙ sym (before_step w' R' i t)

  same_in : (t i : ℕ) → SameDownTo i w w' → SameReleases i → taken_in w R t i ≡ taken_in w' R' t i
  same_in t i s r = same_then t i s r (λ j l. same_before t j (down l s) (λ k u. r k (omega arith)))

pub lower_do_not_delay : LowerDoNotDelay
lower_do_not_delay i w w' R R' cycles s r =
    λ k. cond (same_before w w' R R' cycles i s r k) (cycles_through (release k) (lowest 0 cycles (λ u. same_in w w' R R' u i s r k))) (mark_for (release k) cycles)
  where
    release : release_of R i ≡ release_of R' i
    release = r i (omega arith)

-- how many of the messages above i were taken before cycle t
abbrev gone : Network → List ℕ → ℕ → ℕ → ℕ
gone w R i t = sum i (λ j. one (taken_before w R t j))

module _ (w : Network) (R : List ℕ) (i : ℕ) (within : message_above_window w i ≡ false) where
  -- a message that was taken stays so
  stays : (t j : ℕ) → one (taken_before w R t j) ≤ one (taken_before w R (suc t) j)
  stays t j = subst (λ (b : Bool). one (taken_before w R t j) ≤ one b) (sym (before_step w R j t)) (at (taken_before w R t j) (taken_in w R t j))
    where
      at : (a b : Bool) → one a ≤ one (a || b)
      at true b = omega arith
      at false b = omega arith

  -- a cycle in which it waits and is held takes one of those above it
  one_more : (t : ℕ) → release_of R i ≤ t → taken_before w R (suc t) i ≡ false → gone w R i t < gone w R i (suc t)
  one_more t l e =
      let parts = either_false (taken_before w R t i) (taken_in w R t i) (sym (before_step w R i t) ∙ e) in
      let due : ready_in w R t i ≡ true = ap (λ (b : Bool). b && not (taken_before w R t i)) (le-leb (release_of R i) t l) ∙ ap not parts.0 in
      let ahead = held_by_higher w (ready_in w R t) i within due parts.1 in
      let j = ahead.0 in
      let it = ahead.1.1 in
      sum_less i (λ k. one (taken_before w R t k)) (λ k. one (taken_before w R (suc t) k)) j it.higher (λ k u. stays t k)
      (omega (arith, ap one (waited w R j t it.was_taken).1, ap one (some_before w R j t (suc t) (omega arith) it.was_taken)))

  -- so as many of them are taken as cycles passed since its release
  all_gone : (m : ℕ) → taken_before w R (release_of R i + m) i ≡ false → m ≤ gone w R i (release_of R i + m)
  all_gone zero e = omega arith
  all_gone (suc m) e =
      let next : release_of R i + suc m ≡ suc (release_of R i + m) = omega arith in
      let later : taken_before w R (suc (release_of R i + m)) i ≡ false = ap (λ (t : ℕ). taken_before w R t i) (sym next) ∙ e in
      let earlier = either_false (taken_before w R (release_of R i + m) i) (taken_in w R (release_of R i + m) i) (sym (before_step w R i (release_of R i + m)) ∙ later) in
      omega (arith, all_gone m earlier.0, one_more (release_of R i + m) (omega arith) later, ap (λ (t : ℕ). gone w R i t) next)

  taken_in_time : taken_before w R (release_of R i + suc i) i ≡ true
  taken_in_time = go (taken_before w R (release_of R i + suc i) i) refl
    where
      go : (b : Bool) → taken_before w R (release_of R i + suc i) i ≡ b → b ≡ true
      go true e = refl
      go false e =
          absurd
          (omega (
            arith,
            all_gone (suc i) e,
            count_at_most i (λ j. taken_before w R (release_of R i + suc i) j),
          ))

-- where a run is done, no message's size is above a window on its path
within_windows : (w : Network) (other short : Bool) → (network_answer w other short).number ≡ DONE → (i : ℕ) → i < messages w → message_above_window w i ≡ false
within_windows w other short e i u = somewhere_false 0 (messages w) (message_above_window w) (none_due w other short e).1.1.0 i (omega arith) (omega arith)

pub response_bounded : ResponseBounded
response_bounded w R cycles room i e u l =
    let found = which_before w R i (release_of R i + suc i) (taken_in_time w R i (within_windows w _ _ e i u)) in
    omega (arith, response_counts w R cycles found.0 i (omega (arith, found.1)) found.2, found.1)
