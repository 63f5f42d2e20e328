-- The switch: the proofs of what `specs/Switch.antt` gathers; the work is done in crate forwarding.
use Rattle.forwarding.proofs.Shares as Shares
use Rattle.forwarding.proofs.Isolation as Isolation
use Rattle.forwarding.proofs.Count as Count
use Rattle.forwarding.proofs.SentBuffer as SentBuffer
use Rattle.forwarding.proofs.NeverAbove as NeverAbove
use Rattle.forwarding.proofs.OneOutcome as Once
use Rattle.demands.specs.Switch.{UpperShare, LowerShare, Isolation as FlowsApart, CellsKept, CellsShown, BytesPastStay, NamesEntry, SizesDecide, NeverInWindow, OneFreshStart, OneOffer, OneSlot}

pub at_most_its_reservation : UpperShare
at_most_its_reservation = Shares.upper_share

pub at_least_what_waited : LowerShare
at_least_what_waited = Shares.lower_share

pub flows_apart : FlowsApart
flows_apart = Isolation.isolation

pub no_cell_lost : CellsKept
no_cell_lost = Count.cells_kept

pub sent_is_shown : CellsShown
sent_is_shown = SentBuffer.cells_shown

pub bytes_past_stay : BytesPastStay
bytes_past_stay = SentBuffer.bytes_past_stay

pub names_entry : NamesEntry
names_entry = NeverAbove.names_entry

pub sizes_decide : SizesDecide
sizes_decide = NeverAbove.sizes_decide

pub never_in_window : NeverInWindow
never_in_window = NeverAbove.never_in_window

pub one_fresh_start : OneFreshStart
one_fresh_start = Once.one_fresh_start

pub one_offer : OneOffer
one_offer = Once.one_offer

pub one_slot : OneSlot
one_slot = Once.one_slot
