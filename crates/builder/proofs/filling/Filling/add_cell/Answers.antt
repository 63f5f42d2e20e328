-- Where both ends have a slot free, the run and the store add the cell; else nothing is touched.
use Rattle.std.proofs.Common.{◌-◌, refl, sym, ◌∙◌, arith}
use Rattle.answers.specs.Limits.{max_ports}
use Rattle.answers.proofs.Lowest.{found_some}
use Rattle.builder.proofs.Placing.{none_seen_at}
use Rattle.builder.proofs.Adding.{row_full, input_full, added_by_run, marked_by_run}
use Rattle.builder.proofs.Remarking.{remarked_for}
use Rattle.builder.proofs.filling.Filling.add_cell.Goals as goal

pub output_side-requires : goal.output_side-requires
output_side-requires c =
    let asked = c.requires.0 in
    let output = asked.ports.outputs c.args.flow asked.flow in
    let first = (found_some _ _ _ _ c.in-Some.ensures).high in
    let second = (found_some _ _ _ _ c.in-Some-free_of_input.ensures).high in (
      record { table = asked.table; first_in = omega (arith, first); second_in = omega (arith, second) },
      record { row_in = omega (arith, c.output_of-row.ensures, output.at_least, output.at_most); not_seen = none_seen_at max_ports (c.output_of-row.result - 1) },
    )

pub returns-in_default-clause-added : goal.returns-in_default-clause-added
returns-in_default-clause-added c = row_full c.requires.0 c.output_of-row.ensures refl c.in_default.ensures

pub returns-in_default-free_of_input-clause-added : goal.returns-in_default-free_of_input-clause-added
returns-in_default-free_of_input-clause-added c =
    input_full c.requires.0 c.output_of-row.ensures c.input_of.ensures c.in_default-free_of_input.ensures

pub returns-clause-added : goal.returns-clause-added
returns-clause-added c =
    added_by_run c.requires.0 c.output_of-row.ensures c.input_of.ensures c.in-Some.ensures c.in-Some-free_of_input.ensures c.output_side.ensures
    (c.mark_slot-2.ensures.table ∙ c.mark_slot.ensures.table)

pub returns-clause-marked : goal.returns-clause-marked
returns-clause-marked c =
    let one = c.mark_slot.ensures in
    let other = c.mark_slot-2.ensures in
    marked_by_run c.requires.0 c.output_of-row.ensures c.input_of.ensures c.in-Some.ensures c.in-Some-free_of_input.ensures c.output_side.ensures
    (other.table ∙ one.table) c.requires.1 (remarked_for {p = c.args.self.now.plan.now} refl (other.table ∙ one.table) one.marked)
    (remarked_for (sym one.same.same_plan) other.table other.marked)
