-- Tables, of the functions: the proofs of what `specs/TableCalls.antt` states.
use mathlib.Core.Path.{◌≡◌, sym, ◌∙◌, ap}
use lib.ListN.{length}
use Rattle.answers.specs.declared.Answer.{Answer}
use Rattle.tables.specs.Check.{check_answer}
use Rattle.tables.specs.Row.{row_answer}
use Rattle.demands.specs.TableCalls.{DoneIffAcceptedOfContract, NamesPlaceOfContract, NamesSlotOfContract, NamesFlowOfContract}
use Rattle.demands.specs.TableCalls.{BytesPastIgnored, RowThereIffDoneOfContract}
use Rattle.demands.proofs.Carrying.{exactly}
use Rattle.demands.proofs.BytesPast.{answered_alike}
use Rattle.demands.proofs.Tables as Tables

pub done_iff_accepted_of_contract : DoneIffAcceptedOfContract
done_iff_accepted_of_contract κ x a l c = exactly c (Tables.done_iff_accepted _ _ _ _)

pub names_place_of_contract : NamesPlaceOfContract
names_place_of_contract κ x a l c p = exactly c (Tables.names_place _ _ _ _ p)

pub names_slot_of_contract : NamesSlotOfContract
names_slot_of_contract κ x a l c s = exactly c (Tables.names_slot _ _ _ _ s)

pub names_flow_of_contract : NamesFlowOfContract
names_flow_of_contract κ x a l c k = exactly c (Tables.names_flow _ _ _ _ k)

pub bytes_past_ignored : BytesPastIgnored
bytes_past_ignored κ x a l c κ' y b m d e f g t u same =
    let p = x.0.now in
    let q = y.0.now in
    let alike : check_answer q.frame q.ports q.list.now y.1.0.now ≡ check_answer p.frame p.ports p.list.now y.1.0.now =
    λ i. check_answer (sym e i) (sym f i) (sym g i) y.1.0.now in
    c ∙ answered_alike _ _ _ _ _ same t u ∙ sym (d ∙ alike)

pub row_there_iff_done_of_contract : RowThereIffDoneOfContract
row_there_iff_done_of_contract κ x part l c κ' y a m d e f g h =
    let alike : row_answer y.0 y.1.0 (length y.1.1.0.now) y.1.1.1.0 ≡ row_answer x.0 x.1.0 (length x.1.1.0.now) x.1.1.1.0 =
    λ i. row_answer (sym e i) (sym f i) (length (sym g i)) (sym h i) in
    let law = Tables.row_there_iff_done x.0 x.1.0 x.1.1.0.now x.1.1.1.0 in
    let number = ap (λ (b : Answer). b.number) (d ∙ alike) in
    (λ z p. law.0 (sym number ∙ z) (sym c.0 ∙ p), λ z. number ∙ law.1 (λ p. z (c.0 ∙ p)))
