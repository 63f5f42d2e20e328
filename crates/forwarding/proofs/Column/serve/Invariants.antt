-- The outputs passed are served: counts and bytes are those after them.
use Rattle.forwarding.proofs.Serving.{Served}
use Rattle.forwarding.proofs.Column.serve.Given as goal

abbrev pub invariant-loop-j : goal.invariant-loop-j
invariant-loop-j l = Served l.self.running l.self.table.now l.initial.waiting l.initial.sent l.waiting l.sent l.j
