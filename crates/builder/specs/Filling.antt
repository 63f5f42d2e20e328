-- How far a build has come: its table is accepted, for the list with the cells that are placed so far.
use Rattle.std.specs.Prelude.{ℕ, ◌*◌, ◌<◌, ◌≡◌, Bool, List, ◌++◌, drop, replicate}
use Rattle.flows.specs.Flows.{IsFlow, cells_of, GoodList, Fitting}
use Rattle.tables.specs.Accepted.{Accepted}
use Rattle.tables.specs.Check.{Holds}
use Rattle.builder.specs.AddCell.{SameFlows}
use Rattle.builder.specs.InputMarks.{Marked}
use Rattle.builder.specs.declared.filling.Filling.{Filling}

-- the table with its first bytes, end of them, empty
abbrev pub emptied : List ℕ → ℕ → List ℕ
emptied T end = replicate {A = ℕ} end 0 ++ drop end T

-- all cells of the flows before k are placed, c of flow k's, and none of a later flow's
pub record SoFar (M N : ℕ) (L : List ℕ) (k c : ℕ) (T : List ℕ) : Type 0 where
  pub held : List ℕ
  pub same_flows : SameFlows L held
  pub accepted : Accepted M N held T
  pub earlier : (x : ℕ) → IsFlow L x → x < k → cells_of held x ≡ cells_of L x
  pub this : IsFlow L k → cells_of held k ≡ c
  pub later : (x : ℕ) → IsFlow L x → k < x → cells_of held x ≡ 0

-- a table can be filled: it is large enough, the list is good, and the loads fit
pub record MayFill (M N : ℕ) (L T : List ℕ) : Type 0 where
  pub table : Holds M N T
  pub good : GoodList M N L
  pub fitting : Fitting M N L

-- a table was filled up to c cells of flow k, the marks of its inputs are right, and the bytes past it are as they were
pub record FilledTo (M N : ℕ) (L : List ℕ) (k c : ℕ) (before after : List ℕ) (used : List Bool) : Type 0 where
  pub so_far : SoFar M N L k c after
  pub marked : Marked M N L after used
  pub beyond : drop (N * M) after ≡ drop (N * M) before

-- a filling is still that of the same plan, in the same table, with the same room for marks
pub record SameFilling (before after : Filling) : Type 0 where
  pub same_plan : after.plan.now ≡ before.plan.now
  pub same_table : after.table.ghost_name ≡ before.table.ghost_name
  pub same_marks : after.used.ghost_name ≡ before.used.ghost_name

-- its marks are right
abbrev pub MarksRight : Filling → Type 0
MarksRight f = Marked f.plan.now.frame f.plan.now.ports f.plan.now.list.now f.table.now f.used.now

-- it may go on with flow k: its table can be filled, the flows before k are placed, and its marks are right
pub record MayGoOn (f : Filling) (k : ℕ) : Type 0 where
  pub may_fill : MayFill f.plan.now.frame f.plan.now.ports f.plan.now.list.now f.table.now
  pub so_far : SoFar f.plan.now.frame f.plan.now.ports f.plan.now.list.now k 0 f.table.now
  pub marked : MarksRight f

-- it went on, up to c cells of flow k
pub record WentOn (before after : Filling) (k c : ℕ) : Type 0 where
  pub filled : FilledTo before.plan.now.frame before.plan.now.ports before.plan.now.list.now k c before.table.now after.table.now after.used.now
  pub same : SameFilling before after
