-- What the driver of a net looks at.
use Rattle.std.specs.Prelude.{ℕ, Bool, nat_lt, if◌then◌else◌, List, [], ◌∷◌, length, map, slice_get, Option, Some, None}
use Rattle.std.specs.List.{range_with_len}
use Rattle.rtl_model.specs.bodies.Looks.{looked_nets}
use Rattle.rtl_model.specs.nets.FlatNetlist.{flat_sources}
use Rattle.rtl_model.specs.simulation.Netlist.{Source, Driver}
use Rattle.rtl_net.specs.declared.process.Process.{Process}
use Rattle.rtl_net.specs.Nets.{NetlistView, flat, body_of}
use Rattle.rtl_seen_nets.specs.Lowest.{lowest}

abbrev pub looked_in : Option Process → (place : ℕ) → List ℕ
looked_in None place = []
looked_in (Some p) place = looked_nets (body_of p) place

-- the first of its sources; another than a driver looks at nothing
abbrev pub looked_by : NetlistView → List Source → List ℕ
looked_by net (Driver process place ∷ sources) = looked_in (slice_get net.processes process) place
looked_by net _ = []

abbrev pub looked_from : NetlistView → (n : ℕ) → List ℕ
looked_from net n = if nat_lt n (length net.types) then looked_by net (flat_sources (flat net) n) else []

-- the lowest of these nets that is wanted
abbrev pub seen_among : NetlistView → (wanted : List Bool) → (n : ℕ) → Option ℕ
seen_among net wanted n = lowest wanted (looked_from net n)

-- the same of each net
abbrev pub seen_nets : NetlistView → (wanted : List Bool) → List (Option ℕ)
seen_nets net wanted = map (seen_among net wanted) (range_with_len 0 (length net.types))
