-- What is wrong with a text that no tokens cut.
use Rattle.std.specs.Prelude.{◌≡◌, ℕ, ◌+◌, ◌-◌, ◌<◌, ◌≤◌, ◌==◌, true, false, List, [], ◌∷◌, ◌++◌, length, Option, Some, None, ◌⊎◌}
use Rattle.std.specs.List.{list_all}
use Rattle.vhdl_lexer.specs.declared.byte.ByteClass.{ByteClass}
use Rattle.vhdl_lexer.specs.declared.fault.LexFault.{LexFault}
use Rattle.vhdl_lexer.specs.declared.fault.LexFault.TheVariants.{BadByte, OpenComment, OpenString, BadIdentifier, BadNumber, TooLong, NoMemory}
use Rattle.vhdl_lexer.specs.declared.token.TokenKind.{TokenKind}
use Rattle.vhdl_lexer.specs.declared.token.Token.{Token}
use Rattle.vhdl_lexer.specs.Bytes.{quote, star, slash, is_separator, is_printable, is_word_byte, begins_word, begins}
use Rattle.vhdl_lexer.specs.Separators.{has_close, LeadsTo}
use Rattle.vhdl_lexer.specs.Words.{is_joined, opened_class, IsWord}
use Rattle.vhdl_lexer.specs.Literals.{begins_digit, IsInteger, IsClosedString, IsClosedBitString}
use Rattle.vhdl_lexer.specs.Delimiters.{single}
use Rattle.vhdl_lexer.specs.Cut.{CutsTo}

-- ---- how a fault is reported

-- the number
abbrev pub fault_number : LexFault → ℕ
fault_number (BadByte at) = 1
fault_number (OpenComment at) = 2
fault_number (OpenString at) = 3
fault_number (BadIdentifier at) = 4
fault_number (BadNumber at) = 5
fault_number (TooLong at) = 6
fault_number NoMemory = 7

-- the byte
abbrev pub fault_byte : LexFault → Option ℕ
fault_byte (BadByte at) = Some at
fault_byte (OpenComment at) = Some at
fault_byte (OpenString at) = Some at
fault_byte (BadIdentifier at) = Some at
fault_byte (BadNumber at) = Some at
fault_byte (TooLong at) = Some at
fault_byte NoMemory = None

-- ---- the conditions

-- no such slice stands at the front of the text
abbrev pub Absent : (TokenKind → List ℕ → List ℕ → Type 0) → List ℕ → Type 0
Absent Form text = (kind : TokenKind) (slice rest : List ℕ) → text ≡ slice ++ rest → Form kind slice rest → ⊥

-- a byte that is no separator and begins no token
abbrev pub IsStray : ℕ → Type 0
IsStray b = (is_separator b ≡ false) × (is_word_byte b ≡ false) × ((b == quote) ≡ false) × (single b ≡ None)

-- a stray byte, or a string that is closed on its line and has a byte that isn't printable
abbrev pub IsBadByte : List ℕ → Type 0
IsBadByte text =
    ((b : ℕ) × (after : List ℕ) × (text ≡ b ∷ after) × IsStray b)
    ⊎ ((body : List ℕ) × (rest : List ℕ) × IsClosedString text body rest × (list_all is_printable body ≡ false))

-- `/*` with no `*/` behind it
abbrev pub IsOpenComment : List ℕ → Type 0
IsOpenComment text = (body : List ℕ) × (text ≡ slash ∷ star ∷ body) × (has_close body ≡ false)

-- a string or a bit string opens, and isn't closed on its line
abbrev pub IsOpenString : List ℕ → Type 0
IsOpenString text =
    ((begins quote text ≡ true) × ((body rest : List ℕ) → IsClosedString text body rest → ⊥))
    ⊎ ((class : ByteClass) × (opened_class text ≡ Some class)
    × ((body rest : List ℕ) → IsClosedBitString class text body rest → ⊥))

abbrev pub BeginsWord : List ℕ → Type 0
BeginsWord [] = ⊥
BeginsWord (b ∷ text) = begins_word b ≡ true

-- a letter that opens no bit string, or an underscore, where no word stands
abbrev pub IsBadIdentifier : List ℕ → Type 0
IsBadIdentifier text = BeginsWord text × (opened_class text ≡ None) × Absent IsWord text

-- a digit where no integer stands, or a bit string that is closed on its line and has other than digits of its base
-- with single underscores between them
abbrev pub IsBadNumber : List ℕ → Type 0
IsBadNumber text =
    ((begins_digit text ≡ true) × Absent IsInteger text)
    ⊎ ((class : ByteClass) × (body : List ℕ) × (rest : List ℕ)
    × IsClosedBitString class text body rest × (is_joined class body ≡ false))

-- what stands at the front of the text, where the fault is one of a token
abbrev pub Faulty : LexFault → List ℕ → Type 0
Faulty (BadByte at) text = IsBadByte text
Faulty (OpenComment at) text = IsOpenComment text
Faulty (OpenString at) text = IsOpenString text
Faulty (BadIdentifier at) text = IsBadIdentifier text
Faulty (BadNumber at) text = IsBadNumber text
Faulty (TooLong at) text = ⊥
Faulty NoMemory text = ⊥

-- tokens cut the source up to the fault's byte, separators and comments aside, and there it is
pub record StartsFirst (fault : LexFault) (source : List ℕ) : Type 0 where
  pub tokens : List Token
  pub last : Option TokenKind
  pub place : ℕ
  pub left : List ℕ
  pub cut : CutsTo None 0 source tokens last place left
  pub pieces : List (List ℕ)
  pub ahead : List ℕ
  pub led : LeadsTo pieces left ahead
  pub starts : fault_byte fault ≡ Some (place + (length left - length ahead))
  pub faulty : Faulty fault ahead

-- ---- the faults

-- the greatest length of a source, in bytes
abbrev pub greatest_length : ℕ
greatest_length = 4194304

-- the text has no tokens
abbrev pub IsRefusal : LexFault → Type 0
IsRefusal (TooLong at) = ⊥
IsRefusal NoMemory = ⊥
IsRefusal fault = Unit {0}

-- what each fault says of the text
abbrev pub HasFault : LexFault → List ℕ → Type 0
HasFault (TooLong at) source = (greatest_length < length source) × (at ≡ greatest_length)
HasFault NoMemory source = length source ≤ greatest_length
HasFault fault source = StartsFirst fault source
