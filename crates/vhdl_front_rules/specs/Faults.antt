-- What a layer's fault is to the caller of the whole, and the byte at which it is told.
use Rattle.std.specs.Prelude.{ℕ, ◌≤◌, Option, Some, None, IfSome}
use Rattle.rtl_kept_bodies.specs.declared.keeping.KeepFault.{KeepFault}
use Rattle.rtl_kept_bodies.specs.declared.keeping.KeepFault.TheVariants as keep
use Rattle.vhdl_expand_rules.specs.declared.fault.ElabFault.{ElabFault}
use Rattle.vhdl_expand_rules.specs.declared.fault.ElabFault.TheVariants as elab
use Rattle.vhdl_expand_rules.specs.declared.fault.ElabProblem.TheVariants.{TooMany}
use Rattle.vhdl_lexer.specs.Fault as lexer
use Rattle.vhdl_lexer.specs.declared.fault.LexFault.{LexFault}
use Rattle.vhdl_lexer.specs.declared.fault.LexFault.TheVariants as lex
use Rattle.vhdl_names_rules.specs.declared.fault.NameFault.{NameFault}
use Rattle.vhdl_names_rules.specs.declared.fault.NameFault.TheVariants as names
use Rattle.vhdl_parser_rules.specs.Fault as parser
use Rattle.vhdl_parser_rules.specs.declared.fault.SyntaxFault.{SyntaxFault}
use Rattle.vhdl_parser_rules.specs.declared.fault.SyntaxFault.TheVariants as syntax
use Rattle.vhdl_front_rules.specs.declared.fault.SourceFault.{SourceFault}
use Rattle.vhdl_front_rules.specs.declared.fault.SourceFault.TheVariants.{Lex, Syntax, Name, Elab, NoMemory}

abbrev pub of_lex : LexFault → SourceFault
of_lex lex.NoMemory = NoMemory
of_lex fault = Lex fault

abbrev pub of_syntax : SyntaxFault → SourceFault
of_syntax syntax.NoMemory = NoMemory
of_syntax fault = Syntax fault

abbrev pub of_name : NameFault → SourceFault
of_name names.NoMemory = NoMemory
of_name fault = Name fault

abbrev pub of_elab : ElabFault → SourceFault
of_elab elab.NoMemory = NoMemory
of_elab fault = Elab fault

abbrev pub of_keep : KeepFault → SourceFault
of_keep keep.TooMany = Elab (elab.At TooMany 0)
of_keep keep.NoMemory = NoMemory

-- ---- the byte

abbrev pub name_byte : NameFault → Option ℕ
name_byte (names.At problem at) = Some at
name_byte names.NoMemory = None

abbrev pub elab_byte : ElabFault → Option ℕ
elab_byte (elab.At problem at) = Some at
elab_byte elab.NoMemory = None

abbrev pub fault_byte : SourceFault → Option ℕ
fault_byte (Lex fault) = lexer.fault_byte fault
fault_byte (Syntax fault) = parser.fault_byte fault
fault_byte (Name fault) = name_byte fault
fault_byte (Elab fault) = elab_byte fault
fault_byte NoMemory = None

-- a byte of a source of this length, or its end
abbrev pub LiesIn : (size : ℕ) → SourceFault → Type 0
LiesIn size fault = IfSome (fault_byte fault) (λ at. at ≤ size)
