-- The design of a source under a top, and the netlist that shows it (IEEE 1076-2008, clauses 3, 13 and 14).
use Rattle.std.specs.Prelude.{◌≡◌, ℕ, true, List, Some, Ok}
use Rattle.rtl_keeping.specs.Kept.{HasRoomForKept, KeepsVariables}
use Rattle.rtl_model.specs.nets.FlatNetlist.{FlatNetlist}
use Rattle.rtl_net.specs.Nets.{NetlistView}
use Rattle.vhdl_elab_rules.specs.Elaboration.{Elaborated, elaborated_net}
use Rattle.vhdl_lexer.specs.declared.language.Language.{Language}
use Rattle.vhdl_lexer.specs.declared.language.Language.TheVariants.{Profile, Wide}
use Rattle.vhdl_names_rules.specs.Registers.{units_in}
use Rattle.vhdl_names_rules.specs.units.Units.{Units}
use Rattle.vhdl_elab_rules.specs.Named.{IsNamedAlike}
use Rattle.vhdl_elab_rules.specs.Shown.{Shows}
use Rattle.vhdl_tree.specs.Tree.{File}
use Rattle.vhdl_front_rules.specs.Asking.{Asked}
use Rattle.vhdl_front_rules.specs.Sources.{IsFileOf}

-- the source's one tree is a well-typed file with these units
pub record HasUnits (language : Language) (source : List ℕ) (units : Units) : Type 0 where
  pub file : File
  pub read : IsFileOf language source file
  pub well_typed : units_in language file ≡ Some units

-- The wider language keeps the variables of clocked processes by nets, for which there has to be room.
abbrev pub HasRoom : Language → FlatNetlist → Type 0
HasRoom Profile net = Unit {0}
HasRoom Wide net = HasRoomForKept net

-- of which the top is elaborated to this design
pub record HasDesign (asked : Asked) (design : Elaborated) : Type 0 where
  pub units : Units
  pub analysed : HasUnits asked.language asked.source units
  pub is : elaborated_net units asked.top ≡ Ok design
  pub room : HasRoom asked.language design.flat

-- A design knows no language: this is the netlist of one whose source was read in a language, where it has this netlist
-- by itself.
abbrev pub IsReadIn : Language → (plain net : NetlistView) → Type 0
IsReadIn Profile plain net = net ≡ plain
IsReadIn Wide plain net = KeepsVariables (record plain { wide = true }) net

-- The netlist shows the source's design: its nets, sources, starts and bodies, the bytes at which its processes start,
-- its scopes and signals are the design's, and so are the names of its nets and processes. In the wider language its
-- variables are kept.
pub record IsNetOf (asked : Asked) (net : NetlistView) : Type 0 where
  pub design : Elaborated
  pub has : HasDesign asked design
  pub plain : NetlistView
  pub shows : Shows design plain
  pub named : IsNamedAlike design plain
  pub read : IsReadIn asked.language plain net
