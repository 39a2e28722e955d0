-- The lowest wanted net behind a look, by those behind hubs; and that of a driver, by those of all drivers.
use Rattle.std.specs.Prelude.{ℕ, Bool, List, ◌∷◌, slice_get, slice_index_or, Option, Some, None, Vec}
use Rattle.std.specs.Global.{Global}
use Rattle.rtl_looks.specs.declared.hubs.Look.{Look}
use Rattle.rtl_looks.specs.declared.hubs.Look.TheVariants as l
use Rattle.rtl_model.specs.simulation.Netlist.{Source, Driver}
use Rattle.rtl_seen_nets.specs.Lowest.{if_wanted}

-- what is past the end is none
abbrev pub lowest_at : (found : List (Option ℕ)) → (place : ℕ) → Option ℕ
lowest_at found place = slice_index_or found place None

-- ---- looks

abbrev pub lowest_behind : (wanted : List Bool) → (found : List (Option ℕ)) → Look → Option ℕ
lowest_behind wanted found (l.Net net) = if_wanted wanted net
lowest_behind wanted found (l.Hub hub) = lowest_at found hub

abbrev pub lowest_seen : (wanted : List Bool) → (found : List (Option ℕ)) → Option Look → Option ℕ
lowest_seen wanted found None = None
lowest_seen wanted found (Some look) = lowest_behind wanted found look

-- ---- drivers, by what was found of each process' places

abbrev pub found_in : Option (Vec (Option ℕ) Global) → (place : ℕ) → Option ℕ
found_in None place = None
found_in (Some found) place = lowest_at found.items place

abbrev pub found_by : (found : List (Vec (Option ℕ) Global)) → List Source → Option ℕ
found_by found (Driver process place ∷ sources) = found_in (slice_get found process) place
found_by found _ = None
