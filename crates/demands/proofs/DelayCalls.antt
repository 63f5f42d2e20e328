-- Delays, of the functions: the proofs of what `specs/DelayCalls.antt` states.
use Prim.Native.Nat.{ℕ, ◌+◌, ◌≤◌}
use mathlib.Core.Path.{◌≡◌, sym, ◌∙◌, ap, subst}
use mathlib.Core.List.{List}
use lib.Dec.{T}
use lib.ListN.{length, replicate}
use lib.IntN.{ℤ, pos, ◌-ℤ◌}
use lib.Signed.{◌≤ℤ◌}
use Rattle.answers.specs.declared.Answer.{Answer}
use Rattle.answers.specs.Numbers.{DONE}
use Rattle.answers.specs.Limits.{max_delay}
use Rattle.answers.specs.Answers.{Rule, done_with, first}
use Rattle.answers.proofs.Ranges.{inside}
use Rattle.answers.proofs.First.{NoneHolds, lacks, first_none, lacked}
use Rattle.margins.specs.Margins.{margin_of, room_of, margin_rules, room_rules, margin_answer, room_answer}
use Rattle.demands.specs.Delays.{RoundedDown}
use Rattle.demands.specs.DelayCalls.{InTimeIffRoomOfContract, RoomRoundsDownOfContract, MarginInRangeOfContract, NamesLinkOfContract}
use Rattle.demands.specs.DelayCalls.{FitIsLeastOfContract, CellsAreLeastOfContract}
use Rattle.demands.proofs.Carrying.{exactly}
use Rattle.demands.proofs.Delays as Delays

-- an answer that is done was refused by none of the rules
done_rules : (rs : List Rule) (d m : ℤ) → T (lacks DONE rs) → first rs (done_with d) ≡ done_with m → NoneHolds rs × (d ≡ m)
done_rules rs d m t e =
    let none = (lacked DONE rs (done_with d) t (ap (λ (a : Answer). a.number) e)).0 in
    (none, ap (λ (a : Answer). a.detail) (sym (first_none rs (done_with d) none) ∙ e))

-- a room that is answered is the room of a delay that is not 0
room_answered : (M d H : ℕ) (q : ℤ) → room_answer M d H ≡ done_with q → (1 ≤ d) × (room_of M d H ≡ q)
unfolding room_answer
room_answered M d H q e =
    let known = done_rules (room_rules M d H) (room_of M d H) q tt e in
    ((inside {low = 1} {high = max_delay} {x = d} known.0.1.1.0).at_least, known.1)

margin_answered : (M : ℕ) (D : List ℕ) (H : ℕ) (m : ℤ) → margin_answer M D H ≡ done_with m → margin_of M D H ≡ m
unfolding margin_answer
margin_answered M D H m e = (done_rules (margin_rules M D H) (margin_of M D H) m tt e).1

pub room_rounds_down_of_contract : RoomRoundsDownOfContract
room_rounds_down_of_contract κ x a l c q e = rounded _ _ _ (sym c ∙ e)
  where
    rounded : (M d H : ℕ) → room_answer M d H ≡ done_with q → RoundedDown (pos H -ℤ pos M) (M + d) q
    rounded M d H e =
        let known = room_answered M d H q e in
        subst (λ (z : ℤ). RoundedDown (pos H -ℤ pos M) (M + d) z) known.1 (Delays.room_rounds_down M d H known.0)

pub in_time_iff_room_of_contract : InTimeIffRoomOfContract
in_time_iff_room_of_contract κ x a l c κ' y b n k e f g m q p r =
    let room = room_answered y.0 y.1.0 y.1.1.0 q (sym k ∙ r) in
    let links = length x.1.0.now in
    let margin : margin_of x.0 (replicate links y.1.0) x.1.1.0 ≡ m =
    ap (λ (D : List ℕ). margin_of x.0 D x.1.1.0) (sym g) ∙ margin_answered _ _ _ m (sym c ∙ p) in
    let within : room_of x.0 y.1.0 x.1.1.0 ≡ q = (λ i. room_of (e i) y.1.0 (f i)) ∙ room.1 in
    let law = Delays.in_time_iff_room x.0 links y.1.0 x.1.1.0 room.0 in (
      λ h. subst (λ (z : ℤ). pos links ≤ℤ z) within (law.0 (subst (λ (z : ℤ). pos 0 ≤ℤ z) (sym margin) h)),
      λ h. subst (λ (z : ℤ). pos 0 ≤ℤ z) margin (law.1 (subst (λ (z : ℤ). pos links ≤ℤ z) (sym within) h)),
    )

pub margin_in_range_of_contract : MarginInRangeOfContract
margin_in_range_of_contract κ x a l c m e = Delays.margin_in_range _ _ _ m (sym c ∙ e)

pub names_link_of_contract : NamesLinkOfContract
names_link_of_contract κ x a l c k = exactly c (Delays.names_link _ _ _ k)

pub fit_is_least_of_contract : FitIsLeastOfContract
fit_is_least_of_contract κ x a l d c e = Delays.fit_is_least _ _ _ c (sym d ∙ e)

pub cells_are_least_of_contract : CellsAreLeastOfContract
cells_are_least_of_contract κ x a l d c e = Delays.cells_are_least _ c (sym d ∙ e)
