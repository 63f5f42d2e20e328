-- The responses stand in the lent buffer.
use Rattle.std.proofs.Common.{rules}
use Rattle.cycles.proofs.Stored.{front_written}
use Rattle.cycles.proofs.responses.Run.run_cycles.Goals as goal

pub returns : goal.returns
returns c = front_written _ _ _ _ _ c.args.self.now.as_many_releases (search rules) c.requires (λ k u. c.loop-place.invariant k (search rules))
