-- `plan::print_row` is safe: the line has room.
use Rattle.std.proofs.Common.{arith, length, ap, ◌∙◌, ◌≡◌, ◌+◌, ◌*◌, ℕ}
use lib.ListN.{length-replicate}
use Rattle.answers.specs.Limits.{max_frame}
use Rattle.plan.proofs.RowRoom.{row_line}
use Rattle.plan.proofs.print_row.Goals as goal

pub put_row-requires : goal.put_row-requires
put_row-requires g c =
    let long : length c.new-writer.result.out.now ≡ 4 * max_frame + 5 = ap length c.new-writer.ensures.held ∙ length-replicate {A = ℕ} (4 * max_frame + 5) 0 in
    let heading = c.args.heading in
    omega (
      arith,
      c.new-writer.ensures.at_front,
      long,
      row_line c.row-row.result.now heading.frame heading.ports c.args.table.now c.args.output c.row-row.ensures.bytes c.requires (λ i. omega (arith, c.type_inv.table i)),
    )
