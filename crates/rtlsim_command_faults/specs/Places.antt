-- Where a fault of a source is told.
use Rattle.std.specs.Prelude.{ℕ, ◌≤◌, IfSome, Option, None}
use Rattle.rtlsim_command_faults.specs.declared.faults.Fault.{Fault}
use Rattle.rtlsim_command_faults.specs.declared.faults.Fault.TheVariants.{Lex, Syntax, Name, Elab}
use Rattle.vhdl_lexer.specs.Fault as lexer
use Rattle.vhdl_parser_rules.specs.Fault as parser
use Rattle.vhdl_front_rules.specs.Faults.{name_byte, elab_byte}

-- the byte at which a fault of a source is told
abbrev pub byte_of : Fault → Option ℕ
byte_of (Lex fault) = lexer.fault_byte fault
byte_of (Syntax fault) = parser.fault_byte fault
byte_of (Name fault) = name_byte fault
byte_of (Elab fault) = elab_byte fault
byte_of _ = None

-- a byte of a source of this length, or its end
abbrev pub IsTold : (size : ℕ) → Fault → Type 0
IsTold size fault = IfSome (byte_of fault) (λ at. at ≤ size)
