-- Why a source has no netlist under a top: the first layer that refuses, each where its own definition does.
use Rattle.std.specs.Prelude.{◌≡◌, ◌⊎◌, ℕ, List, Some, None, Ok}
use Rattle.vhdl_elab_rules.specs.Elaboration.{Elaborated, elaborated_net}
use Rattle.vhdl_elab_rules.specs.Refused.{MayRefuse}
use Rattle.vhdl_expand_rules.specs.declared.fault.ElabFault.TheVariants as elab
use Rattle.vhdl_expand_rules.specs.declared.fault.ElabProblem.{ElabProblem}
use Rattle.vhdl_expand_rules.specs.declared.fault.ElabProblem.TheVariants.{TooMany}
use Rattle.vhdl_expand_rules.specs.Elab.{Told}
use Rattle.vhdl_expand_rules.specs.Tops.{Top}
use Rattle.vhdl_lexer.specs.Fault.{HasFault}
use Rattle.vhdl_lexer.specs.declared.fault.LexFault.TheVariants as lex
use Rattle.vhdl_lexer.specs.declared.language.Language.{Language}
use Rattle.vhdl_names_rules.specs.problems.Files as breaks
use Rattle.vhdl_names_rules.specs.Registers.{units_in}
use Rattle.vhdl_names_rules.specs.declared.fault.NameFault.TheVariants as names
use Rattle.vhdl_names_rules.specs.declared.fault.NameProblem.{NameProblem}
use Rattle.vhdl_names_rules.specs.units.Units.{Units}
use Rattle.vhdl_parser_rules.specs.declared.fault.SyntaxFault.TheVariants as syntax
use Rattle.vhdl_tree.specs.Tree.{File}
use Rattle.vhdl_front_rules.specs.Asking.{Asked}
use Rattle.vhdl_front_rules.specs.Designs.{HasUnits, HasRoom}
use Rattle.vhdl_front_rules.specs.Sources.{IsFileOf, HasSyntaxFault}
use Rattle.vhdl_front_rules.specs.declared.fault.SourceFault.{SourceFault}
use Rattle.vhdl_front_rules.specs.declared.fault.SourceFault.TheVariants.{Lex, Syntax, Name, Elab, NoMemory}

-- the source's one tree is a file that isn't well typed: the first rule that it breaks, as it is read, bears this
-- problem, and is told at this byte
pub record HasNoUnits (language : Language) (source : List ℕ) (problem : NameProblem) (at : ℕ) : Type 0 where
  pub file : File
  pub read : IsFileOf language source file
  pub ill_typed : units_in language file ≡ None
  pub broken : breaks.file language file ≡ Some (problem, at)

-- The units have a design, but its kept variables have no room.
pub record IsOverfull (language : Language) (units : Units) (top : Top) (told : Told) : Type 0 where
  pub design : Elaborated
  pub is : elaborated_net units top ≡ Ok design
  pub over : HasRoom language design.flat → ⊥
  pub as_too_many : told ≡ (TooMany, 0)

abbrev pub IsUndesigned : Language → Units → Top → Told → Type 0
IsUndesigned language units top told = MayRefuse units top told ⊎ IsOverfull language units top told

-- The source's units have no design with the top, and this problem may be told at this byte: that of the first broken
-- rule, or TooMany where the growth of the design may be cut off before, or where its kept variables have no room.
pub record HasNoDesign (asked : Asked) (problem : ElabProblem) (at : ℕ) : Type 0 where
  pub units : Units
  pub analysed : HasUnits asked.language asked.source units
  pub refused : IsUndesigned asked.language units asked.top (problem, at)

-- A layer's want of memory is told as NoMemory alone. No definition says whether TooDeep or Unexpected is told of a
-- source that has both.
abbrev pub Refuses : Asked → SourceFault → Type 0
Refuses asked (Lex lex.NoMemory) = ⊥
Refuses asked (Lex fault) = HasFault fault asked.source
Refuses asked (Syntax syntax.NoMemory) = ⊥
Refuses asked (Syntax fault) = HasSyntaxFault asked.language fault asked.source
Refuses asked (Name names.NoMemory) = ⊥
Refuses asked (Name (names.At problem at)) = HasNoUnits asked.language asked.source problem at
Refuses asked (Elab elab.NoMemory) = ⊥
Refuses asked (Elab (elab.At problem at)) = HasNoDesign asked problem at
Refuses asked NoMemory = Unit {0}
