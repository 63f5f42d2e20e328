-- The switch: what a flow is sure of while one accepted table is in force. The statements stand in crate forwarding, beside the definitions of a call,
-- of a history of calls and of a window that they speak of; this page gathers them under the sentences they answer.

-- "in any M consecutive slots each flow sends at most its reservation and at least the smaller of its reservation and what it had waiting when the window opened"
pub use Rattle.forwarding.specs.Shares.{Window, UpperShare, LowerShare}
-- "what a flow gets does not depend on what other flows offer"
pub use Rattle.forwarding.specs.Isolation.{SameBut, Isolation}
-- "each flow's accepted offers equal its cells sent plus its cells waiting, the first two counted from the history of calls"
pub use Rattle.forwarding.specs.Count.{CellsKept}
-- the cells that a history counts as sent are those that the sent buffer shows, and "bytes past N sent stay"
pub use Rattle.forwarding.specs.SentBuffer.{CellsShown, BytesPastStay}
-- refusal 28: "the place in the table, looking only at the current position, lowest output first, after 11"; "an accepted table with K counts never meets this"
pub use Rattle.forwarding.specs.AboveCounts.{NamesEntry, SizesDecide, NeverInWindow}
-- no call has two different outcomes under its promise: `FreshStarted`, `Offered` and `SlotServed` are the contracts of the functions, the thin ones too
pub use Rattle.forwarding.specs.Promises.{FreshStarted, Offered, SlotServed, OneFreshStart, OneOffer, OneSlot}
