-- `margins::floor_div` meets its contract: the bits read back as the numbers, and the quotient rounds down.
use Rattle.margins.proofs.Rounding.{read_one_off, read_none_off}
use mir.ValLaws.{to_z_pos, to_z-of_z}
use mir.Syntax.{w32}
use native.Mathlib.Omega.{arith}
use Rattle.margins.proofs.floor_div.Goals as goal

pub returns-then-n-d-lt0 : goal.returns-then-n-d-lt0
returns-then-n-d-lt0 c = read_one_off c.args.n c.args.d c.ranges.n c.requires.0 _ (to_z-of_z w32 c.args.n c.ranges.n) _ (to_z_pos w32 c.args.d (omega arith)) c.if-n-d-lt0.true

pub returns : goal.returns
returns c = read_none_off c.args.n c.args.d c.ranges.n c.requires.0 _ (to_z-of_z w32 c.args.n c.ranges.n) _ (to_z_pos w32 c.args.d (omega arith)) c.if-n-d-lt0.false
