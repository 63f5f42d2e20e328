-- What is kept and what is left make up the whole text.
use Rattle.plan_text.proofs.Scanning.{Going}
use Rattle.plan_text.proofs.reading.scan.Given as goal

abbrev pub invariant-loop-at : goal.invariant-loop-at
invariant-loop-at l = Going l.text l.numbers l.reader l.at
