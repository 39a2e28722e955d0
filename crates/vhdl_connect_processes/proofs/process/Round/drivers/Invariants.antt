use Rattle.std.proofs.Common.{◌≡◌, map, take}
use Rattle.rtl_net.specs.Nets.{driver_view}
use Rattle.vhdl_connect_processes.specs.Located.{driver_in}
use Rattle.vhdl_connect_processes.proofs.process.Round.drivers.Given as goal

-- the drivers of the elements so far
abbrev pub invariant-loop-element : goal.invariant-loop-element
invariant-loop-element l =
    map driver_view l.drivers.items ≡ map (driver_in l.self.nets.now l.self.defaults.now) (take l.element-index l.elements)
