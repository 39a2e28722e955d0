-- What is expected: of a signal, at a time, the value of each element. A scalar's or a vector's is told by one letter
-- of the nine values for each element from the left, a vector's also by the digits of x"1F"; an enumeration's by the
-- position of its literal, from 0, or by its name; an integer's in base 10, or by `x` where it is none; a boolean's by
-- `true` or `false`. `-` and `?` stand for any value.
use Rattle.std.specs.Prelude.{ℕ, ◌+◌, ◌-◌, ◌/◌, ◌%◌, ◌^◌, ◌==◌, ◌&&◌, ◌||◌, nat_le, nat_lt, Bool, List, [], ◌∷◌, ◌++◌, length, map, flat_map, take, drop, Option, Some, None, option_map, option_and_then, bytes_eq, codes, slice_index, slice_index_or, if◌then◌else◌, ℤ}
use Rattle.std.specs.List.{list_all}
use Rattle.vhdl_values.specs.declared.scalar.Nine.{Nine}
use Rattle.vhdl_values.specs.declared.scalar.Nine.TheVariants.{X, Dash}
use Rattle.vhdl_values.specs.Scalar.{code_of, value_of_letter, value_of_truth}
use Rattle.rtl_net.specs.declared.signal.SignalKind.{SignalKind}
use Rattle.rtl_net.specs.declared.signal.SignalKind.TheVariants.{One, Vector, Enumeration, Integer, Boolean}
use Rattle.rtl_net.specs.Nets.{SignalView}
use Rattle.rtl_stim_lines.specs.Lines.{Word}
use Rattle.rtl_stim_lines.specs.Forms.{number_of}
use Rattle.rtl_stim_lines.specs.Inputs.{small, integer_for, truth_for}
use Rattle.vhdl_numbers.specs.TwosComplement.{signed_digits_of}
use Rattle.rtl_expect.specs.declared.expected.Wanted.{Wanted}

-- an expectation: the line that says it, the time, the signal's number, and what is wanted of each of its nets
pub record Expectation : Type 0 where
  pub line : ℕ
  pub time : ℕ
  pub signal : ℕ
  pub wanted : List Wanted

-- this code of a value, or any
abbrev pub wants : (net : ℕ) → (code : Option ℕ) → Wanted
wants net code = record { net = net; code = code }

-- ---- letters

abbrev pub code_wanted : Nine → Option ℕ
code_wanted Dash = None
code_wanted value = Some (code_of value)

-- what a letter stands for: a value's code, or any, as `?` does
abbrev pub code_wanted_of : (letter : ℕ) → Option (Option ℕ)
code_wanted_of letter = if letter == 63 then Some None else option_map code_wanted (value_of_letter letter)

abbrev pub before_wanted : (net : ℕ) → Option (Option ℕ) → Option (List Wanted) → Option (List Wanted)
before_wanted net None rest = None
before_wanted net (Some code) None = None
before_wanted net (Some code) (Some rest) = Some (wants net code ∷ rest)

-- one letter for each net
abbrev pub letters_wanted : (nets : List ℕ) → (text : Word) → Option (List Wanted)
letters_wanted [] [] = Some []
letters_wanted [] (letter ∷ letters) = None
letters_wanted (net ∷ nets) [] = None
letters_wanted (net ∷ nets) (letter ∷ letters) =
    before_wanted net (code_wanted_of letter) (letters_wanted nets letters)

-- ---- bit strings (IEEE 1076-2008, 15.8), without `_` between digits

abbrev pub hex_of : (byte : ℕ) → Option ℕ
hex_of byte =
    if nat_le 48 byte && nat_le byte 57 then Some (byte - 48)
    else (if nat_le 65 byte && nat_le byte 70 then Some (byte - 55)
    else (if nat_le 97 byte && nat_le byte 102 then Some (byte - 87) else None))

-- the bits of a digit from the left
abbrev pub bits_of : (digit : ℕ) → Word
bits_of digit = map (λ place. 48 + digit / 2 ^ place % 2) (3 ∷ 2 ∷ 1 ∷ 0 ∷ [])

abbrev pub four_times : (letter : ℕ) → Word
four_times letter = letter ∷ letter ∷ letter ∷ letter ∷ []

-- what is no digit stands for itself, four times
abbrev pub four_letters : (byte : ℕ) → (digit : Option ℕ) → Word
four_letters byte None = four_times byte
four_letters byte (Some digit) = bits_of digit

-- the letters of digits
abbrev pub letters_of_digits : Word → Word
letters_of_digits digits = flat_map (λ byte. four_letters byte (hex_of byte)) digits

-- the letters of so many elements, in as few digits as hold them, whose surplus is 0
abbrev pub cut_letters : (count : ℕ) → Word → Option Word
cut_letters count letters =
    if nat_le count (length letters) && nat_lt (length letters) (count + 4)
    && list_all (λ letter. letter == 48) (take (length letters - count) letters)
    then Some (drop (length letters - count) letters) else None

-- what stands between x" and "
abbrev pub quoted_digits : Word → Option Word
quoted_digits (x ∷ quote ∷ rest) =
    if (x == 120 || x == 88) && quote == 34 && slice_index_or rest (length rest - 1) 0 == 34
    then Some (take (length rest - 1) rest) else None
quoted_digits word = None

abbrev pub string_wanted : (nets : List ℕ) → (text : Word) → (digits : Option Word) → Option (List Wanted)
string_wanted nets text None = letters_wanted nets text
string_wanted nets text (Some digits) =
    option_and_then (letters_wanted nets) (cut_letters (length nets) (letters_of_digits digits))

-- letters, or a bit string
abbrev pub elements_wanted : (nets : List ℕ) → (text : Word) → Option (List Wanted)
elements_wanted nets text = string_wanted nets text (quoted_digits text)

-- ---- positions

-- the position of the literal with a name in the type of a signal
abbrev pub Positions : Type 0
Positions = SignalView → (name : Word) → Option ℕ

abbrev pub number_wanted : (net count : ℕ) → Option ℕ → Option (List Wanted)
number_wanted net count None = None
number_wanted net count (Some position) = if nat_lt position count then Some (wants net (Some position) ∷ []) else None

-- a number, or else a literal
abbrev pub position_of : Option ℕ → (literal : Option ℕ) → Option ℕ
position_of None literal = literal
position_of (Some number) literal = Some number

abbrev pub is_any : Word → Bool
is_any text = bytes_eq text (codes "-") || bytes_eq text (codes "?")

-- what the position or the name of a literal wants, of so many literals
abbrev pub position_wanted : (net count : ℕ) → (literal : Option ℕ) → (text : Word) → Option (List Wanted)
position_wanted net count literal text =
    if is_any text then Some (wants net None ∷ []) else number_wanted net count (position_of (number_of text) literal)

-- ---- integers and booleans

abbrev pub any_wanted : (nets : List ℕ) → List Wanted
any_wanted nets = map (λ net. wants net None) nets

-- the last digit of what is no number is X, whatever stands before it
abbrev pub no_number_wanted : (nets : List ℕ) → List Wanted
no_number_wanted [] = []
no_number_wanted (net ∷ []) = wants net (Some (code_of X)) ∷ []
no_number_wanted (net ∷ next ∷ nets) = wants net None ∷ no_number_wanted (next ∷ nets)

-- each net has the value at its place
abbrev pub values_wanted : (nets : List ℕ) → List Nine → List Wanted
values_wanted [] values = []
values_wanted (net ∷ nets) [] = []
values_wanted (net ∷ nets) (value ∷ values) = wants net (Some (code_of value)) ∷ values_wanted nets values

abbrev pub digits_wanted : (nets : List ℕ) → Option ℤ → Option (List Wanted)
digits_wanted nets number = option_map (λ n. values_wanted nets (signed_digits_of (length nets) n)) number

abbrev pub integer_wanted : (least greatest : ℤ) → (nets : List ℕ) → (text : Word) → Option (List Wanted)
integer_wanted least greatest nets text =
    if is_any text then Some (any_wanted nets)
    else if bytes_eq (small text) (codes "x") then Some (no_number_wanted nets)
    else digits_wanted nets (integer_for least greatest text)

abbrev pub truth_wanted : (nets : List ℕ) → (text : Word) → Option (List Wanted)
truth_wanted nets text =
    if is_any text then Some (any_wanted nets)
    else option_map (λ b. values_wanted nets (value_of_truth b ∷ [])) (truth_for text)

-- ---- signals

abbrev pub kind_wanted : SignalKind → (nets : List ℕ) → (literal : Option ℕ) → (text : Word) → Option (List Wanted)
kind_wanted One nets literal text = letters_wanted nets text
kind_wanted (Vector left right) nets literal text = elements_wanted nets text
kind_wanted (Integer least greatest) nets literal text = integer_wanted least greatest nets text
kind_wanted Boolean nets literal text = truth_wanted nets text
kind_wanted (Enumeration count) nets literal text = position_wanted (slice_index nets 0) count literal text

unfoldable pub value_wanted : Positions → SignalView → (text : Word) → Option (List Wanted)
value_wanted positions s text = kind_wanted s.kind s.nets (positions s text) text
