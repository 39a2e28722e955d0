use Rattle.std.proofs.Common.{◌≡◌, length, map}
use Rattle.std.specs.Prelude.{find}
use Rattle.vhdl_slips.specs.Words.{read_of}
use Rattle.vhdl_places.specs.Maps.{drives, driving_port, name_or_first}
use Rattle.vhdl_places.proofs.maps.driving_port.Given as goal

-- the names that are left decide
abbrev pub invariant-loop-left : goal.invariant-loop-left
invariant-loop-left l =
    name_or_first (map (λ n. n.now) l.names) (find (drives l.source.text.now l.ports) (map (λ n. n.now) l.left))
    ≡ driving_port (read_of l.source) l.instance (map (λ n. n.now) l.names)

abbrev pub decreases-loop-left : goal.decreases-loop-left
decreases-loop-left l = length l.left
