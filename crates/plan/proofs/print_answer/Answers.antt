-- `plan::print_answer` is safe: the line has room.
use Rattle.std.proofs.Common.{arith, length, ap, ◌∙◌, ◌≡◌, ℕ}
use lib.ListN.{length-replicate}
use Rattle.plan_text.proofs.RowLines.{answer_short}
use Rattle.plan.proofs.print_answer.Goals as goal

pub put_answer-requires : goal.put_answer-requires
put_answer-requires g c =
    let long : length c.new-writer.result.out.now ≡ 32 = ap length c.new-writer.ensures.held ∙ length-replicate {A = ℕ} 32 0 in
    let fits = c.well_formed.1.0.1.1 in
    omega (arith, c.new-writer.ensures.at_front, long, answer_short c.args.answer.number c.args.answer.detail fits.0.1 (record { sfits = fits.1.0.1 }))
