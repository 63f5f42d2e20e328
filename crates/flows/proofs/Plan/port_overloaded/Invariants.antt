-- What is free and what the flows passed ask for are together the frame.
use Rattle.std.proofs.Common.{◌≡◌, ◌+◌}
use Rattle.flows.specs.Sides.{as_input}
use Rattle.flows.proofs.Loads.{asked_of}
use Rattle.flows.proofs.Plan.port_overloaded.Given as goal

abbrev pub invariant-loop-passed : goal.invariant-loop-passed
invariant-loop-passed l = l.free + asked_of (as_input l.side) l.self.list.now l.port l.passed ≡ l.self.frame
