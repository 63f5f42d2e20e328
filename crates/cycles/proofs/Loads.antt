-- The loads of a cycle: each is a sum, none is above its window, and a message is taken exactly by the house rule.
use Prim.Native.Nat.{ℕ, zero, suc, ◌+◌, ◌≤◌, ◌<◌}
use mathlib.Core.Path.{◌≡◌, refl, sym, ◌∙◌, ap, subst}
use mathlib.Core.Bool.{Bool, true, false, not, cond, ◌&&◌}
use mathlib.Core.List.{List}
use native.Mathlib.Omega.{arith}
use borrow.Author.Tests.{ltb-true, ltb-false, le-ltb, not-true, not-false}
use lib.ListN.{length, get_or}
use lib.Dec.{ltb}
use Rattle.answers.specs.Lowest.{lowest}
use Rattle.answers.specs.Sums.{sum}
use Rattle.answers.proofs.Lowest.{lowest_found, somewhere_false, nowhere_test}
use Rattle.answers.proofs.Ranges.{both_true, second_false}
use Rattle.answers.proofs.Sums.{sum_none, sum_step, sum_zero, term_below}
use Rattle.cycles.specs.Cycle.{Network, links, window_of, size_of, path_of, in_set, on_path, too_much, no_room, share, takes, load_after, taken}
use Rattle.cycles.specs.HouseRule.{taken_so_far, LoadIsSum, LoadWithinWindow, TakenExactly, HeldByHigher}

pub load_none : (w : Network) (ready : ℕ → Bool) (l : ℕ) → load_after w ready 0 l ≡ 0
unfolding load_after
load_none w ready l = refl

pub load_step : (w : Network) (ready : ℕ → Bool) (i l : ℕ)
    → load_after w ready (suc i) l ≡ load_after w ready i l + cond (taken w ready i) (share (size_of w i) (path_of w i) l) 0
unfolding load_after
load_step w ready i l = refl

-- room for a message is room on each of its links
module _ (W : List ℕ) (load : ℕ → ℕ) (size set : ℕ) where
  pub room_on : no_room W load size set ≡ false → (l : ℕ) → l < length W → in_set set l ≡ true → load l + size ≤ get_or W l 0
  room_on e l u on =
      ltb-false (get_or W l 0) (load l + size)
      (second_false (in_set set l) (ltb (get_or W l 0) (load l + size)) (somewhere_false 0 (length W) (too_much W load size set) e l (omega arith) (omega arith)) on)

  on_room : ((l : ℕ) → l < length W → in_set set l ≡ true → load l + size ≤ get_or W l 0) → no_room W load size set ≡ false
  on_room h = nowhere_test 0 (length W) (too_much W load size set) (λ l a u. at l (omega arith) (in_set set l) refl)
    where
      at : (l : ℕ) → l < length W → (b : Bool) → in_set set l ≡ b → (b && ltb (get_or W l 0) (load l + size)) ≡ false
      at l u true e = le-ltb (get_or W l 0) (load l + size) (h l u e)
      at l u false e = refl

  -- and where there is none, one of its links is too full
  pub no_room_on : no_room W load size set ≡ true → (l : ℕ) × (l < length W) × (in_set set l ≡ true) × (get_or W l 0 < load l + size)
  no_room_on e =
      let l = lowest 0 (length W) (too_much W load size set) in
      let u : l < 0 + length W = ltb-true l (0 + length W) e in
      let parts = both_true (in_set set l) (ltb (get_or W l 0) (load l + size)) ((lowest_found 0 (length W) (too_much W load size set)).there u) in
      (l, omega arith, parts.0, ltb-true (get_or W l 0) (load l + size) parts.1)

-- what a taken message adds on a link of its path, and elsewhere
either_way : (a b : Bool) (x : ℕ) → cond a (cond b x 0) 0 ≡ cond (a && b) x 0
either_way true b x = refl
either_way false b x = refl

load_so_far : (w : Network) (ready : ℕ → Bool) (i l : ℕ) → load_after w ready i l ≡ taken_so_far w ready i l
load_so_far w ready zero l = load_none w ready l ∙ sym (sum_none _)
load_so_far w ready (suc i) l =
    load_step w ready i l
    ∙ omega (arith, load_so_far w ready i l, either_way (taken w ready i) (on_path w i l) (size_of w i), sum_step i (λ j. cond (taken w ready j && on_path w j l) (size_of w j) 0))

pub load_is_sum : LoadIsSum
load_is_sum w ready l = load_so_far w ready _ l

-- a taken message was ready, and had room
pub was_ready : (w : Network) (ready : ℕ → Bool) (load : ℕ → ℕ) (i : ℕ) → takes w ready load i ≡ true
    → (ready i ≡ true) × (no_room w.windows load (size_of w i) (path_of w i) ≡ false)
was_ready w ready load i e =
    let parts = both_true (ready i) (not (no_room w.windows load (size_of w i) (path_of w i))) e in
    (parts.0, not-true _ parts.1)

load_within : (w : Network) (ready : ℕ → Bool) (i l : ℕ) → l < links w → load_after w ready i l ≤ window_of w l
load_within w ready zero l u = omega (arith, load_none w ready l)
load_within w ready (suc i) l u =
    subst (λ (x : ℕ). x ≤ window_of w l) (sym (load_step w ready i l)) (go (taken w ready i) refl (on_path w i l) refl (load_within w ready i l u))
  where
    go : (a : Bool) → taken w ready i ≡ a → (b : Bool) → on_path w i l ≡ b → load_after w ready i l ≤ window_of w l
        → load_after w ready i l + cond a (cond b (size_of w i) 0) 0 ≤ window_of w l
    go true e true on before = room_on w.windows (load_after w ready i) (size_of w i) (path_of w i) (was_ready w ready (load_after w ready i) i e).1 l u on
    go true e false on before = omega arith
    go false e b on before = omega arith

pub load_within_window : LoadWithinWindow
load_within_window w ready l u = load_within w ready _ l u

pub taken_exactly : TakenExactly
taken_exactly w ready i = (out, back)
  where
    load : ℕ → ℕ
    load = load_after w ready i

    out : taken w ready i ≡ true → (ready i ≡ true) × ((l : ℕ) → l < links w → on_path w i l ≡ true → taken_so_far w ready i l + size_of w i ≤ window_of w l)
    out e =
        let was = was_ready w ready load i e in
        (was.0, λ l u on. omega (arith, room_on w.windows load (size_of w i) (path_of w i) was.1 l u on, load_so_far w ready i l))

    back : (ready i ≡ true) × ((l : ℕ) → l < links w → on_path w i l ≡ true → taken_so_far w ready i l + size_of w i ≤ window_of w l) → taken w ready i ≡ true
    back h =
        ap (λ (b : Bool). b && not (no_room w.windows load (size_of w i) (path_of w i))) h.0
        ∙ ap not (on_room w.windows load (size_of w i) (path_of w i) (λ l u on. omega (arith, h.1 l u on, load_so_far w ready i l)))

-- a sum that is not 0 has a term that is not 0
some_term : (n : ℕ) (f : ℕ → ℕ) → 0 < sum n f → (j : ℕ) × (j < n) × (0 < f j)
some_term n f h = term_below n (λ j. 0) f (omega (arith, sum_zero n (λ j. 0) (λ k u. refl)))

both_held : (a b : Bool) (x : ℕ) → 0 < cond (a && b) x 0 → (a ≡ true) × (b ≡ true)
both_held true true x h = (refl, refl)
both_held true false x h = absurd (omega arith)
both_held false b x h = absurd (omega arith)

pub held_by_higher : HeldByHigher
held_by_higher w ready i within due held =
    let full = no_room_on w.windows load (size_of w i) (path_of w i) (not-false _ (second_false (ready i) (not (no_room w.windows load (size_of w i) (path_of w i))) held due)) in
    let l = full.0 in
    let alone : 0 + size_of w i ≤ window_of w l = room_on w.windows (λ k. 0) (size_of w i) (path_of w i) within l full.1 full.2 in
    let ahead = some_term i (λ j. cond (taken w ready j && on_path w j l) (size_of w j) 0) (omega (arith, full.3, alone, load_so_far w ready i l)) in
    let j = ahead.0 in
    let parts = both_held (taken w ready j) (on_path w j l) (size_of w j) ahead.2 in
    (j, (l, record { higher = ahead.1; there = full.1; on_its_path = parts.1; on_the_path = full.2; was_taken = parts.0 }))
  where
    load : ℕ → ℕ
    load = load_after w ready i
