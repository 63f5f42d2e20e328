-- The cycle of calls of `input_side` and `output_side`: what each side asks of the other, and that together they are the run.
use Rattle.std.proofs.Common.{arith}
use Rattle.builder.proofs.Places.{holds_same, in_table}
use Rattle.builder.proofs.Alternation.{unseen_mark}
use Rattle.builder.proofs.Sides.{row_next, led_on, led_nowhere, run_followed, run_ended}
use Rattle.builder.proofs.run.+input_side_output_side.Goals as goal

pub input_side-output_side-requires : goal.input_side-output_side-requires
input_side-output_side-requires t c =
    let a = c.args in
    let plan = a.plan.now in (
      omega (arith, c.decreases),
      (
        record { table = c.requires.table; first_in = omega (arith, c.requires); second_in = omega (arith, c.requires) },
        row_next plan.frame plan.ports plan.list.now a.first a.second a.seen a.table.now a.input _ c.in-Some.ensures,
      ),
    )

pub input_side-returns-in-Some : goal.input_side-returns-in-Some
input_side-returns-in-Some t c =
    let a = c.args in
    let plan = a.plan.now in
    led_on plan.frame plan.ports plan.list.now a.first a.second a.seen a.table.now a.input _ _ c.in-Some.ensures c.output_side.ensures

pub input_side-returns-in_default : goal.input_side-returns-in_default
input_side-returns-in_default t c =
    let a = c.args in
    let plan = a.plan.now in
    led_nowhere plan.frame plan.ports plan.list.now a.first a.second a.seen a.table.now a.input c.in_default.ensures

pub output_side-input_side-requires : goal.output_side-input_side-requires
output_side-input_side-requires t c =
    let a = c.args in
    let ports = a.plan.now.ports in
    let h = c.requires.0.table in (
      omega (arith, c.decreases, unseen_mark ports a.seen a.row c.requires.1.row_in (omega (arith, h.ports_in_range.at_most, c.requires.1.row_in)) c.requires.1.not_seen),
      record {
        table = holds_same _ h c.swap.auto.self;
        first_in = omega (arith, c.requires.0);
        second_in = omega (arith, c.requires.0);
      },
    )

pub output_side-returns-then-input-ne0 : goal.output_side-returns-then-input-ne0
output_side-returns-then-input-ne0 t c =
    let a = c.args in
    let plan = a.plan.now in
    let h = c.requires.0.table.long_enough in
    run_followed plan.frame plan.ports plan.list.now a.first a.second a.row a.seen a.table.now c.swap.new.self c.input_at-input.result
    c.requires.1.row_in (omega (arith, c.requires.0.table.ports_in_range.at_most, c.requires.1.row_in)) c.requires.1.not_seen
    (in_table a.table.now h c.requires.1.row_in c.requires.0.first_in) (in_table a.table.now h c.requires.1.row_in c.requires.0.second_in)
    c.swap.ensures.after c.input_at-input.ensures c.input_side.new.table c.if-input-ne0.true c.input_side.ensures

pub output_side-returns-else-input-ne0 : goal.output_side-returns-else-input-ne0
output_side-returns-else-input-ne0 t c =
    let a = c.args in
    let plan = a.plan.now in
    let h = c.requires.0.table.long_enough in
    run_ended plan.frame plan.ports plan.list.now a.first a.second a.row a.seen a.table.now c.swap.new.self c.input_at-input.result
    c.requires.1.row_in (omega (arith, c.requires.0.table.ports_in_range.at_most, c.requires.1.row_in)) c.requires.1.not_seen
    (in_table a.table.now h c.requires.1.row_in c.requires.0.first_in) (in_table a.table.now h c.requires.1.row_in c.requires.0.second_in)
    c.swap.ensures.after c.input_at-input.ensures c.if-input-ne0.false
