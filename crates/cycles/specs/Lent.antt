-- What the lent lists of a network are in the statements.
use Rattle.cycles.specs.declared.Network.{Network as Lists}
use Rattle.cycles.specs.Cycle.{Network, network}

abbrev pub of_network : Lists → Network
of_network n = network n.windows.now n.sizes.now n.paths.now
