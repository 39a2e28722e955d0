use Rattle.std.proofs.Common.{◌≡◌, ◌++◌, map, drop}
use Rattle.vhdl_elab_rules.specs.Bodies.{place_in}
use Rattle.vhdl_connect_processes.proofs.connection.Connection.places_of_list.Given as goal

-- the places so far, and those of the elements that are left
abbrev pub invariant-loop-element : goal.invariant-loop-element
invariant-loop-element l =
    map (place_in l.self.drives.now) l.elements ≡ l.places.items ++ map (place_in l.self.drives.now) (drop l.element-index l.elements)
