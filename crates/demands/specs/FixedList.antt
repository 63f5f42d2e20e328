-- Every call "answers with a number from a fixed list": done, or a number of the call's own order. The orders stand here as the documents write
-- them (21 of a cycle and of a run is our own), and each of their numbers is on the list.
use Rattle.std.specs.Prelude.{ℕ, List, [], ◌∷◌, ◌++◌}
use Rattle.answers.specs.Listed.{numbers, OneOf}
use Rattle.demands.specs.Calls.{EveryMargin, EveryRoom, EveryFit, EveryCells, EveryCycle, EveryRun, EveryTrd, EveryCheck, EveryRowAnswer}
use Rattle.demands.specs.Calls.{EveryBuild, EveryFreshStart, EveryOffer, EverySlot, EveryFreshStartIn, EverySlotIn, EveryRead, EveryWrite}

-- done, or one of these
abbrev pub DoneOr : List ℕ → ℕ → Type 0
DoneOr order n = OneOf (0 ∷ order) n

-- the orders
abbrev pub margin_order : List ℕ
margin_order = 1 ∷ 15 ∷ 16 ∷ 25 ∷ []

abbrev pub room_order : List ℕ
room_order = 1 ∷ 16 ∷ 25 ∷ []

abbrev pub fit_order : List ℕ
fit_order = 1 ∷ 17 ∷ 18 ∷ []

abbrev pub cells_order : List ℕ
cells_order = 23 ∷ []

abbrev pub cycle_order : List ℕ
cycle_order = 34 ∷ 30 ∷ 31 ∷ 21 ∷ []

abbrev pub trd_order : List ℕ
trd_order = 32 ∷ []

abbrev pub check_order : List ℕ
check_order = 1 ∷ 2 ∷ 3 ∷ 4 ∷ 7 ∷ 8 ∷ 9 ∷ 10 ∷ []

abbrev pub row_order : List ℕ
row_order = 1 ∷ 2 ∷ 7 ∷ 22 ∷ []

abbrev pub build_order : List ℕ
build_order = 1 ∷ 2 ∷ 3 ∷ 4 ∷ 5 ∷ 6 ∷ 7 ∷ []

abbrev pub fresh_start_order : List ℕ
fresh_start_order = 1 ∷ 2 ∷ 12 ∷ []

abbrev pub offer_order : List ℕ
offer_order = 12 ∷ 13 ∷ 14 ∷ []

abbrev pub slot_order : List ℕ
slot_order = 1 ∷ 2 ∷ 7 ∷ 12 ∷ 11 ∷ 28 ∷ []

abbrev pub read_order : List ℕ
read_order = 19 ∷ 20 ∷ 1 ∷ 2 ∷ 3 ∷ 4 ∷ 21 ∷ []

abbrev pub write_order : List ℕ
write_order = 1 ∷ 2 ∷ 3 ∷ 4 ∷ 21 ∷ []

-- every number of an order is on the list
abbrev pub AllListed : List ℕ → Type 0
AllListed [] = Unit {0}
AllListed (n ∷ ns) = OneOf numbers n × AllListed ns

-- the numbers of all orders
abbrev pub all_orders : List ℕ
all_orders =
    0 ∷ margin_order ++ room_order ++ fit_order ++ cells_order ++ cycle_order ++ trd_order ++ check_order ++ row_order ++ build_order ++ fresh_start_order ++ offer_order
    ++ slot_order ++ read_order ++ write_order

abbrev pub OrdersListed : Type 0
OrdersListed = AllListed all_orders

-- each call's answer
abbrev pub MarginNumbers : Type 0
MarginNumbers = EveryMargin (λ M D H a. DoneOr margin_order a.number)

abbrev pub RoomNumbers : Type 0
RoomNumbers = EveryRoom (λ M d H a. DoneOr room_order a.number)

abbrev pub FitNumbers : Type 0
FitNumbers = EveryFit (λ M P C a. DoneOr fit_order a.number)

abbrev pub CellsNumbers : Type 0
CellsNumbers = EveryCells (λ bits a. DoneOr cells_order a.number)

abbrev pub CycleNumbers : Type 0
CycleNumbers = EveryCycle (λ w ready B X a B' X'. DoneOr cycle_order a.number)

abbrev pub RunNumbers : Type 0
RunNumbers = EveryRun (λ w R cycles X a X'. DoneOr cycle_order a.number)

abbrev pub TrdNumbers : Type 0
TrdNumbers = EveryTrd (λ depth nodes sig tm sld a. DoneOr trd_order a.number)

abbrev pub CheckNumbers : Type 0
CheckNumbers = EveryCheck (λ M N L T a. DoneOr check_order a.number)

abbrev pub RowNumbers : Type 0
RowNumbers = EveryRowAnswer (λ M N T j a. DoneOr row_order a.number)

abbrev pub BuildNumbers : Type 0
BuildNumbers = EveryBuild (λ M N L T a T'. DoneOr build_order a.number)

abbrev pub FreshStartNumbers : Type 0
FreshStartNumbers = EveryFreshStart (λ r M N W o W'. DoneOr fresh_start_order o.answer.number)

abbrev pub OfferNumbers : Type 0
OfferNumbers = EveryOffer (λ W k n a W'. DoneOr offer_order a.number)

abbrev pub SlotNumbers : Type 0
SlotNumbers = EverySlot (λ r T W S o W' S'. DoneOr slot_order o.answer.number)

abbrev pub FreshStartInNumbers : Type 0
FreshStartInNumbers = EveryFreshStartIn (λ r M N W a r' W'. DoneOr fresh_start_order a.number)

abbrev pub SlotInNumbers : Type 0
SlotInNumbers = EverySlotIn (λ r T W S a r' W' S'. DoneOr slot_order a.number)

abbrev pub ReadNumbers : Type 0
ReadNumbers = EveryRead (λ text B p B'. DoneOr read_order p.answer.number)

abbrev pub WriteNumbers : Type 0
WriteNumbers = EveryWrite (λ M N L X a X'. DoneOr write_order a.number)
