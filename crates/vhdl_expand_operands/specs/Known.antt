-- Values where nothing is seen.
use Rattle.std.specs.Prelude.{ℕ, List, Option, Some, None}
use Rattle.vhdl_values.specs.declared.scalar.Nine.{Nine}
use Rattle.rtl_model.specs.bodies.Body as bodies
use Rattle.rtl_model.specs.bodies.Values.{elements_of}
use Rattle.vhdl_expand_rules.specs.Declarations.{nothing_seen}

-- of the nine, if it has elements of them
abbrev pub known_elements : bodies.Value → Option (List Nine)
known_elements (bodies.elements e) = Some (elements_of nothing_seen e)
known_elements _ = None

-- the position, if it is a literal of an enumeration
abbrev pub known_position : bodies.Value → Option ℕ
known_position (bodies.position n) = Some n
known_position _ = None
