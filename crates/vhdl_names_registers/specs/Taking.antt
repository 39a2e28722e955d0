-- A condition, taken apart.
use Rattle.std.specs.Prelude.{Bool, true, false, List, [], ◌∷◌, Option, Some, None, option_map}
use Rattle.vhdl_names_rules.specs.units.Expressions as u
use Rattle.vhdl_names_rules.specs.units.Expressions.{Test}
use Rattle.vhdl_names_rules.specs.Rules.{◌>>=◌}
use Rattle.vhdl_names_rules.specs.Edges.{Edge, joined, taken, start_of, begun}

abbrev pub is_start : Test → Bool
is_start (u.edge kind p) = true
is_start (u.event p) = true
is_start _ = false

-- the first edge, whatever stands beside it, and the others
abbrev pub edge_taken : List Test → Option (Edge × List Test)
edge_taken ts = taken start_of ts >>= λ first. begun first.0 first.1

abbrev pub all_joined : List Test → Option Test
all_joined [] = None
all_joined (t ∷ ts) = Some (joined t ts)

-- the first edge, and those beside it as one
abbrev pub gated_taken : List Test → Option (Edge × Test)
gated_taken ts = edge_taken ts >>= λ g. option_map (λ t. (g.0, t)) (all_joined g.1)
