-- Each turn places one flow more.
use Rattle.builder.specs.Filling.{WentOn}
use Rattle.builder.proofs.filling.Filling.fill.Given as goal

abbrev pub invariant-loop-flow : goal.invariant-loop-flow
invariant-loop-flow l = WentOn l.fn.self l.self l.flow 0
