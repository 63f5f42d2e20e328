-- After each entry, the counts are those of the places passed.
use Rattle.std.proofs.Common.{refl, arith}
use Rattle.std.proofs.lemmas.Grind.{common_steps}
use lib.ListN.{length-set}
use Rattle.tables.proofs.Counts.{count_none, count_one_more, count_bound}
use Rattle.tables.proofs.Places.{size_bound}
use Rattle.tables.proofs.check.Whole.count_entries.Goals as goal

pub loop-entry-init : goal.loop-entry-init
loop-entry-init c = record { full = refl; counted = count_none c.args.self.now.table.now }

pub overflow_add-counts : goal.overflow_add-counts
overflow_add-counts c =
    grind (arith, common_steps, c.loop-entry.invariant.counted c.from.result, count_bound c.args.self.now.table.now c.loop-entry.entry-index c.from.result, size_bound c.args.self.now.holds)

pub loop-entry-preserved : goal.loop-entry-preserved
loop-entry-preserved c =
    record {
      full = simp length-set c.loop-entry.invariant.full;
      counted = λ k u. grind (arith, common_steps, count_one_more c.args.self.now.table.now c.loop-entry.entry-index k, c.loop-entry.invariant.counted k u);
    }
