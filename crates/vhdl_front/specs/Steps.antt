-- What the code's own calls say.
use Rattle.std.specs.Prelude.{◌≡◌, None, Some, Result, Ok, Err, IsTrue}
use Rattle.rtl_net.specs.Nets.{NetlistView, flat}
use Rattle.vhdl_elab_rules.specs.Elaboration.{Elaborated, elaborated_net}
use Rattle.vhdl_expand_rules.specs.Tops.{Top}
use Rattle.vhdl_expand_rules.specs.declared.fault.ElabFault.TheVariants as elab
use Rattle.vhdl_expand_rules.specs.declared.fault.ElabProblem.TheVariants.{TooMany}
use Rattle.vhdl_names_rules.specs.problems.Files as breaks
use Rattle.vhdl_lexer.specs.declared.language.Language.{Language}
use Rattle.vhdl_names_rules.specs.Registers.{units_in}
use Rattle.vhdl_names_rules.specs.declared.fault.NameFault.TheVariants as names
use Rattle.vhdl_names_rules.specs.sound.Named.{are_named}
use Rattle.vhdl_names_rules.specs.sound.Units.{are_sound}
use Rattle.vhdl_names_rules.specs.units.Units as u
use Rattle.vhdl_names_laws.specs.Laws.{small_ports_are_distinct}
use Rattle.vhdl_elab_rules.specs.Shown.{Shows}
use Rattle.vhdl_tree.specs.Tree.{File}
use Rattle.vhdl_names_units.specs.declared.unit.Units.{Units}
use Rattle.vhdl_names_units.specs.views.Units.{units_view}
use Rattle.vhdl_front_rules.specs.Designs.{HasRoom, IsReadIn}
use Rattle.vhdl_front_rules.specs.Refusals.{IsUndesigned}
use Rattle.vhdl_front_rules.specs.declared.fault.SourceFault.{SourceFault}
use Rattle.vhdl_front_rules.specs.declared.fault.SourceFault.TheVariants.{Name, Elab, NoMemory}

-- only a fault of names, only where the file has no units, and that of the first rule that it breaks
abbrev pub HasNameFault : Language → File → SourceFault → Type 0
HasNameFault language file (Name names.NoMemory) = ⊥
HasNameFault language file (Name (names.At problem at)) =
    (units_in language file ≡ None) × (breaks.file language file ≡ Some (problem, at))
HasNameFault language file NoMemory = Unit {0}
HasNameFault language file _ = ⊥

abbrev pub GivesUnits : Language → File → Result Units SourceFault → Type 0
GivesUnits language file (Ok units) = units_in language file ≡ Some (units_view units)
GivesUnits language file (Err fault) = HasNameFault language file fault

-- elaboration can take them, and a stimulus can speak of the ports of each entity
pub record AreReady (units : u.Units) : Type 0 where
  pub sound : IsTrue (are_sound units)
  pub named : IsTrue (are_named units)
  pub ports : IsTrue (small_ports_are_distinct units)

-- A netlist is had of this one by itself, whose source was read in a language, or its kept variables have no room.
abbrev pub ReadsIn : Language → (plain : NetlistView) → Result NetlistView SourceFault → Type 0
ReadsIn language plain (Ok net) = IsReadIn language plain net × HasRoom language (flat plain)
ReadsIn language plain (Err (Elab fault)) = (HasRoom language (flat plain) → ⊥) × (fault ≡ elab.At TooMany 0)
ReadsIn language plain (Err NoMemory) = Unit {0}
ReadsIn language plain (Err _) = ⊥

-- the units, read in this language, have this netlist
pub record ShowsTop (language : Language) (units : u.Units) (top : Top) (net : NetlistView) : Type 0 where
  pub design : Elaborated
  pub is : elaborated_net units top ≡ Ok design
  pub room : HasRoom language design.flat
  pub plain : NetlistView
  pub shows : Shows design plain
  pub read : IsReadIn language plain net

-- only a fault of elaboration, only where the units have no design, and with the problem and the byte that may be told
abbrev pub HasElabFault : Language → u.Units → Top → SourceFault → Type 0
HasElabFault language units top (Elab elab.NoMemory) = ⊥
HasElabFault language units top (Elab (elab.At problem at)) = IsUndesigned language units top (problem, at)
HasElabFault language units top NoMemory = Unit {0}
HasElabFault language units top _ = ⊥

abbrev pub GivesNet : Language → u.Units → Top → Result NetlistView SourceFault → Type 0
GivesNet language units top (Ok net) = ShowsTop language units top net
GivesNet language units top (Err fault) = HasElabFault language units top fault
