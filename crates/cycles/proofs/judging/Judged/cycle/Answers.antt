-- What the cycle took stands in the lent buffers.
use Rattle.std.proofs.Common.{rules, arith, ◌∙◌, ap, get_or-take}
use Rattle.answers.specs.Sums.{one}
use Rattle.cycles.specs.Cycle.{marked}
use Rattle.cycles.proofs.Stored.{front_written}
use Rattle.cycles.proofs.judging.Judged.cycle.Goals as goal

pub returns-clause-marked : goal.returns-clause-marked
returns-clause-marked c =
    let went = c.take_ready-taken.ensures (marked c.args.ready.now) (λ i b u p. search rules) in
    front_written _ _ _ _ _ c.messages.ensures (search rules) c.requires.bytes
    (λ k u. c.store_messages.ensures k (search rules) ∙ ap one (went.messages_taken k u))

pub returns-clause-loads : goal.returns-clause-loads
returns-clause-loads c =
    let went = c.take_ready-taken.ensures (marked c.args.ready.now) (λ i b u p. search rules) in
    front_written _ _ _ _ _ c.links-links.ensures (search rules) c.requires.room
    (λ k u. rw c.copy_from_slice.ensures.after (get_or-take _ _ k 0 (omega arith) ∙ went.loads k u))
