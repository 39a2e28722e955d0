-- What a body drives and reads by the longest static prefixes of its names, before its loops are unrolled.
use Rattle.std.specs.Prelude.{ℕ, ◌+◌, ◌-◌, ◌<◌, ◌≤◌, List, length, slice_index, Ok}
use Rattle.vhdl_names_rules.specs.units.Statements.{Statements}
use Rattle.vhdl_expand_rules.specs.Elab.{Elab, ◌>>=◌}
use Rattle.vhdl_expand_rules.specs.Site.{Site, elements_count}
use Rattle.vhdl_expand_rules.specs.Prefixes.{targets, names, prefixes_elements, in_order}

-- the elements that a process with this body has drivers for, in order
abbrev pub drives_of : Site → Statements → Elab (List ℕ)
drives_of here body = do
  ds ← prefixes_elements here (targets body)
  Ok (in_order (elements_count here.ports + elements_count here.signals) ds)

-- the elements that `process (all)` is sensitive to, in order of the names
abbrev pub read_by : Site → Statements → Elab (List ℕ)
read_by here body = prefixes_elements here (names body)

-- each number is above the one before it
abbrev pub IsRising : List ℕ → Type 0
IsRising ns = (i j : ℕ) → i ≤ j → j < length ns → slice_index ns i + (j - i) ≤ slice_index ns j
