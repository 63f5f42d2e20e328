-- The closure tests what `holds_next` says of a row.
use Rattle.std.proofs.Common.{rules}
use native.Mathlib.Numerals.{unary_clauses}
use Rattle.builder.specs.Exchange.{holds_next}
use Rattle.builder.proofs.run.row_holding.Goals as goal

pub returns : goal.returns
returns c =
    let a = c.args in
    simp unary_clauses at (c.first_where.ensures (holds_next a.plan.now.frame a.plan.now.list.now a.seen.now a.slot a.input a.table.now) (λ _ _ _ _ says. search rules))
