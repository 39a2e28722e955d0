use Rattle.std.proofs.Common.{◌≡◌, map, take}
use Rattle.rtl_stim_lines.specs.View.{element_view}
use Rattle.rtl_stim.specs.Ports.{element_on}
use Rattle.rtl_stim.proofs.ports.elements_of.Given as goal

abbrev pub invariant-loop-number : goal.invariant-loop-number
invariant-loop-number l = map element_view l.elements.items ≡ map (element_on l.net) (take l.number-index l.nets)
