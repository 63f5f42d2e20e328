-- No room with nothing taken is a size above a window.
use Rattle.std.proofs.Common.{◌∙◌}
use Rattle.cycles.proofs.Messages.{nothing_loaded}
use Rattle.cycles.proofs.judging.Judged.above_window.Goals as goal

pub returns : goal.returns
returns c = c.no_room.ensures ∙ nothing_loaded _ _ _ _ c.args.self.now.few_links
