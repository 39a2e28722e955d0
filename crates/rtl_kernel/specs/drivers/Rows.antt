-- The values of all drivers, a row for each process.
use Rattle.std.specs.Prelude.{ℕ, ◌<◌, ⊤, List, [], length, map, slice_index_or, Vec}
use Rattle.std.specs.Global.{Global}
use Rattle.rtl_model.specs.simulation.Netlist.{Source, Driver, Idle}

-- the rows as lists
abbrev pub rows : {X : Type 0} → List (Vec X Global) → List (List X)
rows {X} vs = map (λ (v : Vec X Global). v.items) vs

-- the source is an idle port, or a driver that stands in the rows
abbrev pub IsSourceThere : List (List ℕ) → Source → Type 0
IsSourceThere drivers (Idle value) = ⊤
IsSourceThere drivers (Driver process place) = place < length (slice_index_or drivers process [])
