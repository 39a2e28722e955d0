-- What expansion refuses of units is told at one of their bytes, or at 0.
use Rattle.std.specs.Prelude.{◌≡◌, ◌∷◌, Err, Contains}
use Rattle.vhdl_names_rules.specs.units.Units as u
use Rattle.vhdl_names_rules.specs.units.Units.{Units}
use Rattle.vhdl_names_rules.specs.units.Statements.{Statements}
use Rattle.vhdl_names_rules.specs.units.Bytes.{statements_bytes, process_bytes, units_bytes}
use Rattle.vhdl_expand_rules.specs.Elab.{Told}
use Rattle.vhdl_expand_rules.specs.Site.{Site}
use Rattle.vhdl_expand_rules.specs.Statements.{statements}
use Rattle.vhdl_expand_rules.specs.Expansion.{Spot, process, expanded_design}
use Rattle.vhdl_expand_rules.specs.Tops.{Top}

-- Of a body at a byte of the body,
abbrev pub EachBodyIsToldAtItsBytes : Type 0
EachBodyIsToldAtItsBytes =
    (here : Site) (body : Statements) (told : Told)
    → statements here body ≡ Err told → Contains (0 ∷ statements_bytes body) told.1

-- of a process at a byte of the process,
abbrev pub EachProcessIsToldAtItsBytes : Type 0
EachProcessIsToldAtItsBytes =
    (here : Spot) (p : u.Process) (told : Told) → process here p ≡ Err told → Contains (0 ∷ process_bytes p) told.1

-- and of a design at a byte of its units.
abbrev pub EachDesignIsToldAtBytesOfUnits : Type 0
EachDesignIsToldAtBytesOfUnits =
    (units : Units) (top : Top) (told : Told)
    → expanded_design units top ≡ Err told → Contains (0 ∷ units_bytes units) told.1
