-- Which looks have nets from outside alone behind them.
use Rattle.std.specs.Prelude.{ℕ, Bool, true, false, List, slice_index_or, Option, Some, None}
use Rattle.std.specs.List.{list_all}
use Rattle.rtl_looks.specs.declared.hubs.Look.{Look}
use Rattle.rtl_looks.specs.declared.hubs.Look.TheVariants as l

-- where this says of each net whether it comes from outside
abbrev pub are_outside : (outside : List Bool) → (nets : List ℕ) → Bool
are_outside outside nets = list_all (λ n. slice_index_or outside n false) nets

-- and this of each hub whether all nets behind it do; there are none behind one past the end
abbrev pub looks_outside : (outside marks : List Bool) → Look → Bool
looks_outside outside marks (l.Net net) = slice_index_or outside net false
looks_outside outside marks (l.Hub hub) = slice_index_or marks hub true

-- what looks at nothing has no look
abbrev pub place_outside : (outside marks : List Bool) → Option Look → Bool
place_outside outside marks None = true
place_outside outside marks (Some look) = looks_outside outside marks look
