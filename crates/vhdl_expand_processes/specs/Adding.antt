-- What a walk over a body puts behind the names so far.
use Rattle.std.specs.Prelude.{◌≡◌, false, List, ◌++◌}
use Rattle.vhdl_names_rules.specs.units.Expressions as u
use Rattle.vhdl_expand_processes.specs.declared.name.Gathered.{Gathered}
use Rattle.vhdl_expand_processes.specs.Named.{named_by}

-- where memory isn't wanting, it wasn't before, and these names stand behind those that were there
abbrev pub Adds : (old new : Gathered) → List u.SignalPart → Type 0
Adds old new xs = new.failed ≡ false → (old.failed ≡ false) × (named_by new.found ≡ named_by old.found ++ xs)
