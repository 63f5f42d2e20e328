-- The first number of which the test holds is the lowest.
use Rattle.std.proofs.Common.{arith, sym}
use Rattle.answers.proofs.Lowest.{some_found, none_found}
use Rattle.answers.proofs.first_where.Goals as goal

pub returns-then-test : goal.returns-then-test
returns-then-test g c = λ t says.
    let i = c.loop-i in
    some_found _ _ t i.i i.auto.i (omega arith) (sym (says _ _ i.auto.i c.loop-i-test.true c.if-test.ensures))
    (λ k low u. sym (says k _ low (omega arith) (i.invariant k low u)))

pub returns : goal.returns
returns g c = λ t says. none_found _ _ t (λ k low u. sym (says k _ low (omega arith) (c.loop-i.invariant k low (omega arith))))
