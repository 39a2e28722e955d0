-- What each byte of a source is (IEEE 1076-2008, 15.2).
use Rattle.std.specs.Prelude.{◌≡◌, ℕ, ◌&&◌, ◌||◌, ◌==◌, nat_le, Bool, false, List, [], ◌∷◌}
use Rattle.std.specs.Char.{is_ascii_digit, is_ascii_hexdigit, is_ascii_alphabetic, is_ascii_alphanumeric}
use Rattle.std.specs.Int.{is_in_range}
use Rattle.vhdl_lexer.specs.declared.byte.ByteClass.{ByteClass}
use Rattle.vhdl_lexer.specs.declared.byte.ByteClass.TheVariants.{LetterOrDigit, Decimal, Hexadecimal, Octal, Binary}

-- the bytes that have a name here
abbrev pub quote : ℕ
quote = 34

abbrev pub hash : ℕ
hash = 35

abbrev pub tick : ℕ
tick = 39

abbrev pub star : ℕ
star = 42

abbrev pub dash : ℕ
dash = 45

abbrev pub point : ℕ
point = 46

abbrev pub slash : ℕ
slash = 47

abbrev pub underscore : ℕ
underscore = 95

-- a format effector that ends a line: LF, VT, FF or CR
abbrev pub ends_line : ℕ → Bool
ends_line b = nat_le 10 b && nat_le b 13

-- a space, a tab or the end of a line
abbrev pub is_separator : ℕ → Bool
is_separator b = b == 32 || b == 9 || ends_line b

-- a graphic character of ASCII, or the space
abbrev pub is_printable : ℕ → Bool
is_printable b = nat_le 32 b && nat_le b 126

-- a letter, a digit or an underscore
abbrev pub is_word_byte : ℕ → Bool
is_word_byte b = is_ascii_alphanumeric b || b == underscore

-- a letter or an underscore
abbrev pub begins_word : ℕ → Bool
begins_word b = is_ascii_alphabetic b || b == underscore

-- the bytes of a class: letters and digits, or the digits of base 10, 16, 8 or 2
abbrev pub has_class : ByteClass → ℕ → Bool
has_class LetterOrDigit b = is_ascii_alphanumeric b
has_class Decimal b = is_ascii_digit b
has_class Hexadecimal b = is_ascii_hexdigit b
has_class Octal b = is_in_range 48 55 b
has_class Binary b = is_in_range 48 49 b

-- whether the text begins with this byte
abbrev pub begins : ℕ → List ℕ → Bool
begins b [] = false
begins b (c ∷ text) = c == b

-- the text doesn't go on with such a byte
abbrev pub Stops : (ℕ → Bool) → List ℕ → Type 0
Stops p [] = Unit {0}
Stops p (b ∷ text) = p b ≡ false
