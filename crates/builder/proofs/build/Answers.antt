-- Where no refusal is due, the emptied table is filled, and what the filling leaves is accepted.
use Rattle.std.proofs.Common.{rules}
use Rattle.builder.proofs.Outcome.{start, built}
use Rattle.builder.proofs.build.Goals as goal

pub fill-requires-2 : goal.fill-requires-2
fill-requires-2 c =
    let s = start _ _ _ _ c.in_ok-judge.ensures c.in_ok-judge_load.ensures _ (c.fill.ensures.after (λ y e. search rules)) in
    record { may_fill = s.0; so_far = s.1; marked = s.2 }

pub returns : goal.returns
returns c =
    built _ _ _ _ c.in_ok-judge.ensures c.in_ok-judge_load.ensures _ (c.fill.ensures.after (λ y e. search rules)) _ _ _ (search (rules, c.fill-2.ensures.same)) c.fill-2.ensures.filled
