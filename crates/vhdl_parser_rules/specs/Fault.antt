-- What a fault says.
use Rattle.std.specs.Prelude.{◌≡◌, ℕ, ◌⊎◌, Option, Some, None, List, length, map, Contains}
use Rattle.vhdl_lexer.specs.declared.token.Token.{Token}
use Rattle.vhdl_parser_rules.specs.declared.fault.SyntaxFault.{SyntaxFault}
use Rattle.vhdl_parser_rules.specs.declared.fault.SyntaxFault.TheVariants.{Unexpected, EndOfFile, TooDeep, NoMemory}

-- the tokens are no file
abbrev pub IsRefusal : SyntaxFault → Type 0
IsRefusal (Unexpected at) = Unit {0}
IsRefusal (EndOfFile at) = Unit {0}
IsRefusal (TooDeep at) = ⊥
IsRefusal NoMemory = ⊥

abbrev pub IsTooDeep : SyntaxFault → Type 0
IsTooDeep (Unexpected at) = ⊥
IsTooDeep (EndOfFile at) = ⊥
IsTooDeep (TooDeep at) = Unit {0}
IsTooDeep NoMemory = ⊥

abbrev pub fault_number : SyntaxFault → ℕ
fault_number (Unexpected at) = 1
fault_number (EndOfFile at) = 2
fault_number (TooDeep at) = 3
fault_number NoMemory = 4

-- the byte of the source at which a fault is reported
abbrev pub fault_byte : SyntaxFault → Option ℕ
fault_byte (Unexpected at) = Some at
fault_byte (EndOfFile at) = Some at
fault_byte (TooDeep at) = Some at
fault_byte NoMemory = None

-- a token starts at this byte
abbrev pub IsStart : List Token → ℕ → Type 0
IsStart tokens at = Contains (map (λ t. t.start) tokens) at

-- Unexpected is said of a token, and EndOfFile of the source's end.
abbrev pub IsPlaced : List ℕ → List Token → SyntaxFault → Type 0
IsPlaced source tokens (Unexpected at) = IsStart tokens at
IsPlaced source tokens (EndOfFile at) = at ≡ length source
IsPlaced source tokens (TooDeep at) = IsStart tokens at ⊎ (at ≡ length source)
IsPlaced source tokens NoMemory = Unit {0}
