-- The shore network: what a cycle, a run of cycles and the least TRD are held to. The statements stand in crate cycles, beside the definitions of a network,
-- of what a cycle takes and of a response; this page gathers them under the sentences they answer. Links, messages and cycles count from 0.

-- "no link's load is above its window in any cycle", whichever messages are ready; and the load is the sum of the sizes taken on the link
pub use Rattle.cycles.specs.HouseRule.{LoadWithinWindow, LoadIsSum}
-- "taken exactly by the house rule (both directions)"
pub use Rattle.cycles.specs.HouseRule.{TakenExactly}
-- "a message's being taken doesn't depend on messages of lower priority"; so neither does its response
pub use Rattle.cycles.specs.HouseRule.{LowerDoNotCount}
pub use Rattle.cycles.specs.Responses.{LowerDoNotDelay}
-- "a ready message that is held in a cycle has a taken message of higher priority on one of its links in that cycle"
pub use Rattle.cycles.specs.HouseRule.{HeldByHigher}
-- "hence a message's response is at most one more than the number of messages of higher priority, if the run goes on that long"
pub use Rattle.cycles.specs.Responses.{ResponseBounded}
-- "its response counts the cycles from release through the one that takes it, or is a mark that it still waits, or that its release lies past the run"
pub use Rattle.cycles.specs.Responses.{TakenFromRelease, TakenOnce, ResponseCounts, MarkedWaiting, MarkedPast}
-- "an empty set, a link that isn't there or size 0: 30 with the lowest message; a size above a window on its path: 31 with the lowest message; 30 first"
pub use Rattle.cycles.specs.Refusals.{NamesMisshapen, NamesAboveWindow}
-- "the TRD is greater than equation 1's right side and one less is not"; it is given exactly in the ranges, "others refused with 32"
pub use Rattle.cycles.specs.Trd.{TrdIsLeast, TrdGiven}
