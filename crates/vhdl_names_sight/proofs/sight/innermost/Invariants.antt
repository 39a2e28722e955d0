use Rattle.std.proofs.Common.{◌≡◌, map, reverse, option_map, option_copied, take}
use Rattle.vhdl_names_sight.specs.Views.{declared_view, entry_of}
use Rattle.vhdl_names_sight.specs.Sights.{found}
use Rattle.vhdl_names_sight.proofs.sight.innermost.Given as goal

-- what the name is declared to be among the parameters so far
abbrev pub invariant-loop-parameter : goal.invariant-loop-parameter
invariant-loop-parameter l =
    found (reverse (map declared_view (take l.parameter-index l.parameters))) l.name ≡ option_map (entry_of l.name) (option_copied l.last)
