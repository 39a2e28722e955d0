-- What literals stand for (IEEE 1076-2008, 9.3.2 and 15.5 to 15.8).
use Rattle.std.specs.Prelude.{ℕ, ◌==◌, nat_le, ◌-◌, ◌/◌, ◌%◌, if◌then◌else◌, not, List, [], ◌∷◌, flat_map, filter, find, Option, Some, None}
use Rattle.std.specs.Char.{to_ascii_uppercase, is_ascii_digit}
use Rattle.std.specs.List.{after_first}
use Rattle.vhdl_values.specs.declared.scalar.Nine.{Nine}
use Rattle.vhdl_values.specs.declared.scalar.Nine.TheVariants.{Zero, One}
use Rattle.vhdl_values.specs.Scalar.{nines, letter_of}
use Rattle.vhdl_lexer.specs.declared.byte.ByteClass.{ByteClass}
use Rattle.vhdl_lexer.specs.declared.byte.ByteClass.TheVariants as c
use Rattle.vhdl_lexer.specs.Bytes.{quote, underscore}
use Rattle.vhdl_lexer.specs.Literals.{integer_of, greatest_integer}
use Rattle.vhdl_lexer.specs.Words.{base_class}
use Rattle.vhdl_names_rules.specs.declared.fault.NameProblem.TheVariants.{LeftOut}
use Rattle.vhdl_names_rules.specs.Rules.{◌>>=◌, each, given_that}

-- the number that an integer writes, which the type's range has (5.2.3.2)
abbrev pub number_of : List ℕ → Option ℕ
number_of text = given_that LeftOut (nat_le (integer_of text) greatest_integer) (integer_of text)

-- the value of a character: one of the nine, letters in capitals (16.7)
abbrev pub nine_of : ℕ → Option Nine
nine_of character = find (λ v. letter_of v == character) nines

abbrev pub but_last : List ℕ → List ℕ
but_last [] = []
but_last (b ∷ []) = []
but_last (b ∷ d ∷ text) = b ∷ but_last (d ∷ text)

-- what stands between the quotation marks of a string or bit string
abbrev pub quoted : List ℕ → List ℕ
quoted text = but_last (after_first (λ b. b == quote) text)

-- a literal has at least one element
abbrev pub at_least_one : List Nine → Option (List Nine)
at_least_one [] = None
at_least_one (v ∷ vs) = Some (v ∷ vs)

-- the values of a string (15.7)
abbrev pub values_of_string : List ℕ → Option (List Nine)
values_of_string text = each nine_of (quoted text) >>= at_least_one

-- the lowest bit of a number
abbrev pub bit : ℕ → Nine
bit n = if n % 2 == 1 then One else Zero

abbrev pub digit_value : ℕ → ℕ
digit_value b = if is_ascii_digit b then b - 48 else to_ascii_uppercase b - 55

-- the bits of a digit, the leftmost first: four for X, three for O, one for B
abbrev pub bits_of : ByteClass → ℕ → List Nine
bits_of c.Hexadecimal d = bit (d / 8) ∷ bit (d / 4) ∷ bit (d / 2) ∷ bit d ∷ []
bits_of c.Octal d = bit (d / 4) ∷ bit (d / 2) ∷ bit d ∷ []
bits_of _ d = bit d ∷ []

abbrev pub values_by : Option ByteClass → List ℕ → Option (List Nine)
values_by None digits = None
values_by (Some class) digits = Some (flat_map (λ b. bits_of class (digit_value b)) digits)

-- the values of a bit string (15.8): its digits, underscores counting for nothing
abbrev pub values_of_bits : List ℕ → Option (List Nine)
values_of_bits [] = None
values_of_bits (base ∷ text) =
    values_by (base_class base) (filter (λ b. not (b == underscore)) (quoted text)) >>= at_least_one
