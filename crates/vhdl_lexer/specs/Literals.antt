-- Literals: decimal (IEEE 1076-2008, 15.5.2), character (15.6), string (15.7) and bit string literals (15.8).
use Rattle.std.specs.Prelude.{◌≡◌, ℕ, ◌+◌, ◌-◌, ◌*◌, ◌≤◌, ◌&&◌, ◌||◌, ◌==◌, not, Bool, true, false, if◌then◌else◌, List, [], ◌∷◌, ◌++◌, Option, Some, None}
use Rattle.std.specs.Char.{is_ascii_digit}
use Rattle.std.specs.List.{list_all}
use Rattle.vhdl_lexer.specs.declared.byte.ByteClass.{ByteClass}
use Rattle.vhdl_lexer.specs.declared.byte.ByteClass.TheVariants.{Decimal}
use Rattle.vhdl_lexer.specs.declared.token.TokenKind.{TokenKind}
use Rattle.vhdl_lexer.specs.declared.token.TokenKind.TheVariants as k
use Rattle.vhdl_lexer.specs.Bytes.{quote, hash, tick, point, is_word_byte, is_printable, ends_line, begins}
use Rattle.vhdl_lexer.specs.Words.{is_joined, base_class}

-- ---- integers

-- the number that digits write behind others that write n; underscores count for nothing
abbrev pub value_after : ℕ → List ℕ → ℕ
value_after n [] = n
value_after n (b ∷ text) = if is_ascii_digit b then value_after (10 * n + (b - 48)) text else value_after n text

-- the number that an integer writes
abbrev pub integer_of : List ℕ → ℕ
integer_of text = value_after 0 text

-- the greatest integer that is read, as the standard's smallest range of integers has it (IEEE 1076-2008, 5.2.3.2)
abbrev pub greatest_integer : ℕ
greatest_integer = 2147483647

abbrev pub begins_digit : List ℕ → Bool
begins_digit [] = false
begins_digit (b ∷ text) = is_ascii_digit b

-- directly after an integer none of these may stand: a letter, a digit, an underscore, `#`, or a point with a digit
abbrev pub goes_on_number : List ℕ → Bool
goes_on_number [] = false
goes_on_number (b ∷ text) = is_word_byte b || b == hash || b == point && begins_digit text

abbrev pub IsInteger : TokenKind → List ℕ → List ℕ → Type 0
IsInteger kind slice rest =
    (is_joined Decimal slice ≡ true) × (goes_on_number rest ≡ false)
    × (integer_of slice ≤ greatest_integer) × (kind ≡ k.Integer)

-- ---- characters

-- a tick behind this token may open a character literal: behind an identifier and `)` it begins an attribute's name
abbrev pub may_open : Option TokenKind → Bool
may_open None = true
may_open (Some k.Identifier) = false
may_open (Some k.RightParen) = false
may_open (Some kind) = true

-- a byte to print, and then a tick
abbrev pub closes : List ℕ → Bool
closes [] = false
closes (c ∷ text) = is_printable c && begins tick text

abbrev pub IsCharacter : Option TokenKind → TokenKind → List ℕ → Type 0
IsCharacter before kind slice =
    (c : ℕ) × (slice ≡ tick ∷ c ∷ tick ∷ []) × (is_printable c ≡ true) × (may_open before ≡ true) × (kind ≡ k.Character)

-- ---- strings

-- between the quotation marks of a string: no end of the line, and quotation marks in pairs
abbrev mutual
  pub is_quoted : List ℕ → Bool
  is_quoted [] = true
  is_quoted (b ∷ text) = if b == quote then is_doubled text else not (ends_line b) && is_quoted text

  -- behind the first of a pair of quotation marks
  pub is_doubled : List ℕ → Bool
  is_doubled [] = false
  is_doubled (b ∷ text) = b == quote && is_quoted text

-- a quotation mark opens the text, and the next that is none of a pair stands on its line: body is between them
abbrev pub IsClosedString : List ℕ → List ℕ → List ℕ → Type 0
IsClosedString text body rest =
    (text ≡ quote ∷ (body ++ quote ∷ rest)) × (is_quoted body ≡ true) × (begins quote rest ≡ false)

abbrev pub IsString : TokenKind → List ℕ → List ℕ → Type 0
IsString kind slice rest =
    (body : List ℕ) × (slice ≡ quote ∷ (body ++ quote ∷ [])) × (is_quoted body ≡ true) × (begins quote rest ≡ false)
    × (list_all is_printable body ≡ true) × (kind ≡ k.String)

-- ---- bit strings

-- no end of the line, and no quotation mark
abbrev pub is_unquoted : List ℕ → Bool
is_unquoted text = list_all (λ b. not (ends_line b) && not (b == quote)) text

-- a base specifier and a quotation mark open the text, and the next one stands on its line: body is between them
abbrev pub IsClosedBitString : ByteClass → List ℕ → List ℕ → List ℕ → Type 0
IsClosedBitString class text body rest =
    (base : ℕ) × (text ≡ base ∷ quote ∷ (body ++ quote ∷ rest))
    × (base_class base ≡ Some class) × (is_unquoted body ≡ true)

abbrev pub IsBitString : TokenKind → List ℕ → Type 0
IsBitString kind slice =
    (base : ℕ) × (class : ByteClass) × (digits : List ℕ) × (slice ≡ base ∷ quote ∷ (digits ++ quote ∷ []))
    × (base_class base ≡ Some class) × (is_joined class digits ≡ true) × (kind ≡ k.BitString)
