-- What it tells of a network that a call about it is done.
use mathlib.Core.Path.{◌≡◌, refl}
use mathlib.Core.Bool.{Bool, false, ◌||◌}
use borrow.Author.Tests.{eqb-true, ltb-false, not-false}
use lib.ListN.{length}
use lib.IntN.{pos}
use lib.Dec.{ltb}
use Rattle.answers.specs.Numbers.{DONE}
use Rattle.answers.specs.Limits.{max_cycle_links, max_messages}
use Rattle.answers.specs.Answers.{done_with}
use Rattle.answers.proofs.First.{NoneHolds, done_exactly}
use Rattle.answers.proofs.Ranges.{either_false}
use Rattle.cycles.specs.Cycle.{Network, links, messages}
use Rattle.cycles.specs.Judging.{network_missized, network_rules, network_answer}
use Rattle.cycles.specs.Refusals.{Sized}

module _ (w : Network) (other short : Bool) where
  pub sized : (network_missized w || other) ≡ false → Sized w other
  sized e =
      let a = either_false (network_missized w) other e in
      let b = either_false (ltb max_cycle_links (links w)) _ a.0 in
      let d = either_false (ltb max_messages (messages w)) _ b.1 in
      record {
        few_links = ltb-false max_cycle_links (links w) b.0;
        few_messages = ltb-false max_messages (messages w) d.0;
        as_many_sets = eqb-true (length w.paths) (messages w) (not-false _ d.1);
        others_sized = a.1;
      }

  pub none_due : (network_answer w other short).number ≡ DONE → NoneHolds (network_rules w other short)
  unfolding network_answer
  none_due e = (done_exactly DONE (network_rules w other short) (done_with (pos 0)) refl tt).0 e

  pub done_sized : (network_answer w other short).number ≡ DONE → Sized w other
  done_sized e = sized (none_due e).0

  pub done_room : (network_answer w other short).number ≡ DONE → short ≡ false
  done_room e = (none_due e).1.1.1.0
