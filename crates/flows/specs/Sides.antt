-- The two sides of the switch, as the definitions of loads tell them apart.
use Rattle.std.specs.Prelude.{Bool, true, false}
use Rattle.flows.specs.declared.Side.{Side}
use Rattle.flows.specs.declared.Side.TheVariants.{Input, Output}

-- ports of this side are taken as inputs
abbrev pub as_input : Side → Bool
as_input Input = true
as_input Output = false
