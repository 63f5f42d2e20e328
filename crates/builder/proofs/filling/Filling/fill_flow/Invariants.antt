-- Each turn places one cell more.
use Rattle.builder.specs.Filling.{WentOn}
use Rattle.builder.proofs.filling.Filling.fill_flow.Given as goal

abbrev pub invariant-loop : goal.invariant-loop
invariant-loop l = WentOn l.fn.self l.self l.flow l.counter
