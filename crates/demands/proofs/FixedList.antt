-- Each call's rules have only numbers of its order, and each of these is on the list.
use Prim.Native.Nat.{ℕ}
use mathlib.Core.Path.{◌≡◌, ap}
use mathlib.Core.Bool.{Bool, true, ◌&&◌}
use mathlib.Core.List.{List, [], ◌∷◌}
use lib.IntN.{pos}
use lib.ListN.{length}
use lib.Dec.{T}
use Rattle.answers.specs.declared.Answer.{Answer}
use Rattle.answers.specs.Listed.{numbers}
use Rattle.answers.specs.Answers.{done_with}
use Rattle.answers.proofs.Listed.{both_hold, one_of, on_list, answer_one_of}
use Rattle.flows.specs.Flows.{flow_count}
use Rattle.margins.specs.Margins.{margin_of, room_of, fit_of, cells_for, margin_rules, room_rules, fit_rules, cells_rules, margin_answer, room_answer}
use Rattle.margins.specs.Margins.{fit_answer, cells_answer}
use Rattle.cycles.specs.Cycle.{Network}
use Rattle.cycles.specs.Judging.{network_rules, network_answer}
use Rattle.cycles.specs.Trd.{trd_of, trd_rules, trd_answer}
use Rattle.tables.specs.Check.{check_rules, check_answer}
use Rattle.tables.specs.Row.{row_rules, row_answer}
use Rattle.builder.specs.Build.{build_rules, build_answer}
use Rattle.forwarding.specs.declared.Running.{Running}
use Rattle.forwarding.specs.Outcome.{Outcome}
use Rattle.forwarding.specs.Forwarding.{fresh_start_rules, offer_rules, slot_rules, fresh_start_answer, offer_answer, slot_answer}
use Rattle.forwarding.specs.Histories.{state_of, a_fresh_start, a_slot, outcome_of}
use Rattle.plan_text.specs.Plans.{Plan}
use Rattle.plan_text.specs.Reading.{list_in}
use Rattle.plan_text.specs.Form.{text_of_plan}
use Rattle.plan_text.specs.Plans.{read_rules, write_rules, read_answer, write_answer, read_plan}
use Rattle.demands.specs.FixedList.{DoneOr, margin_order, room_order, fit_order, cells_order, cycle_order, trd_order, check_order, row_order}
use Rattle.demands.specs.FixedList.{build_order, fresh_start_order, offer_order, slot_order, read_order, write_order, AllListed, all_orders}
use Rattle.demands.specs.FixedList.{OrdersListed, MarginNumbers, RoomNumbers, FitNumbers, CellsNumbers, CycleNumbers, RunNumbers, TrdNumbers}
use Rattle.demands.specs.FixedList.{CheckNumbers, RowNumbers, BuildNumbers, FreshStartNumbers, OfferNumbers, SlotNumbers, FreshStartInNumbers}
use Rattle.demands.specs.FixedList.{SlotInNumbers, ReadNumbers, WriteNumbers}

-- the test that each of these is on the list
abbrev every_on : List ℕ → Bool
every_on [] = true
every_on (n ∷ ns) = on_list numbers n && every_on ns

all_listed : (ns : List ℕ) → T (every_on ns) → AllListed ns
all_listed [] t = tt
all_listed (n ∷ ns) t = let both = both_hold (on_list numbers n) (every_on ns) t in (one_of numbers n both.0, all_listed ns both.1)

pub orders_listed : OrdersListed
orders_listed = all_listed all_orders tt

margin : (M : ℕ) (D : List ℕ) (H : ℕ) (a : Answer) → a ≡ margin_answer M D H → DoneOr margin_order a.number
unfolding margin_answer
margin M D H a e = answer_one_of (0 ∷ margin_order) (margin_rules M D H) (done_with (margin_of M D H)) a tt tt e

pub margin_numbers : MarginNumbers
margin_numbers κ x a l c = margin _ _ _ _ c

room : (M d H : ℕ) (a : Answer) → a ≡ room_answer M d H → DoneOr room_order a.number
unfolding room_answer
room M d H a e = answer_one_of (0 ∷ room_order) (room_rules M d H) (done_with (room_of M d H)) a tt tt e

pub room_numbers : RoomNumbers
room_numbers κ x a l c = room _ _ _ _ c

fit : (M P C : ℕ) (a : Answer) → a ≡ fit_answer M P C → DoneOr fit_order a.number
unfolding fit_answer
fit M P C a e = answer_one_of (0 ∷ fit_order) (fit_rules M P C) (done_with (pos (fit_of M P C))) a tt tt e

pub fit_numbers : FitNumbers
fit_numbers κ x a l c = fit _ _ _ _ c

cells : (bits : ℕ) (a : Answer) → a ≡ cells_answer bits → DoneOr cells_order a.number
unfolding cells_answer
cells bits a e = answer_one_of (0 ∷ cells_order) (cells_rules bits) (done_with (pos (cells_for bits))) a tt tt e

pub cells_numbers : CellsNumbers
cells_numbers κ x a l c = cells _ _ c

-- a cycle and a run have the same rules
network : (w : Network) (other short : Bool) (a : Answer) → a ≡ network_answer w other short → DoneOr cycle_order a.number
unfolding network_answer
network w other short a e = answer_one_of (0 ∷ cycle_order) (network_rules w other short) (done_with (pos 0)) a tt tt e

pub cycle_numbers : CycleNumbers
cycle_numbers κ x a l c = network _ _ _ _ c.answered

pub run_numbers : RunNumbers
run_numbers κ x a l c = network _ _ _ _ c.answered

trd : (depth nodes sig tm sld : ℕ) (a : Answer) → a ≡ trd_answer depth nodes sig tm sld → DoneOr trd_order a.number
unfolding trd_answer
trd depth nodes sig tm sld a e = answer_one_of (0 ∷ trd_order) (trd_rules depth nodes sig tm sld) (done_with (pos (trd_of depth nodes sig tm sld))) a tt tt e

pub trd_numbers : TrdNumbers
trd_numbers κ x a l c = trd _ _ _ _ _ _ c

check : (M N : ℕ) (L T : List ℕ) (a : Answer) → a ≡ check_answer M N L T → DoneOr check_order a.number
unfolding check_answer
check M N L T a e = answer_one_of (0 ∷ check_order) (check_rules M N L T) (done_with (pos 0)) a tt tt e

pub check_numbers : CheckNumbers
check_numbers κ x a l c = check _ _ _ _ _ c

row : (M N size j : ℕ) (a : Answer) → a ≡ row_answer M N size j → DoneOr row_order a.number
unfolding row_answer
row M N size j a e = answer_one_of (0 ∷ row_order) (row_rules M N size j) (done_with (pos 0)) a tt tt e

pub row_numbers : RowNumbers
row_numbers κ x a l c = row _ _ _ _ _ c

build : (M N : ℕ) (L : List ℕ) (size : ℕ) (a : Answer) → a ≡ build_answer M N L size → DoneOr build_order a.number
unfolding build_answer
build M N L size a e = answer_one_of (0 ∷ build_order) (build_rules M N L size) (done_with (pos 0)) a tt tt e

pub build_numbers : BuildNumbers
build_numbers κ x a l c = build _ _ _ _ _ c.answered

fresh_start : (M N : ℕ) (W : List ℕ) (a : Answer) → a ≡ fresh_start_answer M N W → DoneOr fresh_start_order a.number
unfolding fresh_start_answer
fresh_start M N W a e = answer_one_of (0 ∷ fresh_start_order) (fresh_start_rules M N W) (done_with (pos 0)) a tt tt e

-- a fresh start's outcome, by value or of the lent record
started : (r : Running) (M N : ℕ) (W : List ℕ) (o : Outcome) → o ≡ outcome_of (state_of r W) (a_fresh_start M N) → DoneOr fresh_start_order o.answer.number
unfolding outcome_of
started r M N W o e = fresh_start M N W o.answer (ap (λ (x : Outcome). x.answer) e)

pub fresh_start_numbers : FreshStartNumbers
fresh_start_numbers κ x a l c = started _ _ _ _ _ c.handed_back

pub fresh_start_in_numbers : FreshStartInNumbers
fresh_start_in_numbers κ x a l c = started _ _ _ _ _ c.handed_back

offer : (W : List ℕ) (k n : ℕ) (a : Answer) → a ≡ offer_answer W k n → DoneOr offer_order a.number
unfolding offer_answer
offer W k n a e = answer_one_of (0 ∷ offer_order) (offer_rules W k n) (done_with (pos 0)) a tt tt e

pub offer_numbers : OfferNumbers
offer_numbers κ x a l c = offer _ _ _ _ c.answered

slot : (r : Running) (T W : List ℕ) (size : ℕ) (a : Answer) → a ≡ slot_answer r T W size → DoneOr slot_order a.number
unfolding slot_answer
slot r T W size a e = answer_one_of (0 ∷ slot_order) (slot_rules r T W size) (done_with (pos 0)) a tt tt e

-- a slot's outcome, by value or of the lent record
served : (r : Running) (T W : List ℕ) (size : ℕ) (o : Outcome) → o ≡ outcome_of (state_of r W) (a_slot T size) → DoneOr slot_order o.answer.number
unfolding outcome_of
served r T W size o e = slot r T W size o.answer (ap (λ (x : Outcome). x.answer) e)

pub slot_numbers : SlotNumbers
slot_numbers κ x a l c = served _ _ _ _ _ c.handed_back

pub slot_in_numbers : SlotInNumbers
slot_in_numbers κ x a l c = served _ _ _ _ _ c.handed_back

read : (text : List ℕ) (size : ℕ) (p : Plan) → p ≡ read_plan text size → DoneOr read_order p.answer.number
unfolding read_plan read_answer
read text size p e =
    answer_one_of (0 ∷ read_order) (read_rules text size) (done_with (pos (flow_count (list_in text)))) p.answer tt tt (ap (λ (x : Plan). x.answer) e)

pub read_numbers : ReadNumbers
read_numbers κ x a l c = read _ _ _ c.0

write : (M N : ℕ) (L : List ℕ) (size : ℕ) (a : Answer) → a ≡ write_answer M N L size → DoneOr write_order a.number
unfolding write_answer
write M N L size a e = answer_one_of (0 ∷ write_order) (write_rules M N L size) (done_with (pos (length (text_of_plan M N L)))) a tt tt e

pub write_numbers : WriteNumbers
write_numbers κ x a l c = write _ _ _ _ _ c.0
