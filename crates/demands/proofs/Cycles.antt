-- The shore network: the proofs of what `specs/Cycles.antt` gathers; the work is done in crate cycles.
use Rattle.cycles.proofs.Loads as Loads
use Rattle.cycles.proofs.Agreeing as Agreeing
use Rattle.cycles.proofs.Turns as Turns
use Rattle.cycles.proofs.ResponseLaws as Responses
use Rattle.cycles.proofs.Named as Named
use Rattle.cycles.proofs.Equation as Equation
use Rattle.demands.specs.Cycles.{LoadWithinWindow, LoadIsSum, TakenExactly, LowerDoNotCount, LowerDoNotDelay, HeldByHigher, ResponseBounded, TakenFromRelease, TakenOnce, ResponseCounts, MarkedWaiting, MarkedPast, NamesMisshapen, NamesAboveWindow, TrdIsLeast, TrdGiven}

pub load_within_window : LoadWithinWindow
load_within_window = Loads.load_within_window

pub load_is_sum : LoadIsSum
load_is_sum = Loads.load_is_sum

pub taken_exactly : TakenExactly
taken_exactly = Loads.taken_exactly

pub lower_do_not_count : LowerDoNotCount
lower_do_not_count = Agreeing.lower_do_not_count

pub lower_do_not_delay : LowerDoNotDelay
lower_do_not_delay = Responses.lower_do_not_delay

pub held_by_higher : HeldByHigher
held_by_higher = Loads.held_by_higher

pub response_bounded : ResponseBounded
response_bounded = Responses.response_bounded

pub taken_from_release : TakenFromRelease
taken_from_release = Turns.taken_from_release

pub taken_once : TakenOnce
taken_once = Turns.taken_once

pub response_counts : ResponseCounts
response_counts = Responses.response_counts

pub marked_waiting : MarkedWaiting
marked_waiting = Responses.marked_waiting

pub marked_past : MarkedPast
marked_past = Responses.marked_past

pub names_misshapen : NamesMisshapen
names_misshapen = Named.names_misshapen

pub names_above_window : NamesAboveWindow
names_above_window = Named.names_above_window

pub trd_is_least : TrdIsLeast
trd_is_least = Equation.trd_is_least

pub trd_given : TrdGiven
trd_given = Equation.trd_given
