-- After each entry, the counts are those of the places passed.
use Rattle.std.proofs.Common.{◌≡◌, length}
use Rattle.tables.specs.Check.{Counted}
use Rattle.tables.proofs.check.Whole.count_entries.Given as goal

abbrev pub invariant-loop-entry : goal.invariant-loop-entry
invariant-loop-entry l = record { full : length l.counts ≡ 256; counted : Counted l.self.table.now l.entry-index l.counts }
