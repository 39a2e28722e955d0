-- The inputs that a stimulus speaks of: the top's in ports.
use Rattle.std.specs.Prelude.{ℕ, ◌==◌, ◌&&◌, Bool, true, false, List, [], ◌∷◌, length, map, Option, Some, None, option_map, position, slice_index_or, bytes_eq, codes, if◌then◌else◌, ℤ, pos, neg_ℤ, int_le}
use Rattle.std.specs.Char.{to_ascii_lowercase}
use Rattle.vhdl_values.specs.declared.scalar.Nine.{Nine}
use Rattle.vhdl_values.specs.Scalar.{value_of_letter, value_of_truth}
use Rattle.vhdl_numbers.specs.TwosComplement.{signed_digits_of}
use Rattle.rtl_stim_lines.specs.Forms.{number_of}
use Rattle.rtl_stim_lines.specs.Lines.{Word}

-- an element of a port: its net, and the value of its default
pub record Element : Type 0 where
  pub net : ℕ
  pub start : Nine

-- what the values of an in port are: of the nine, whole numbers of these bounds, or truths
pub data ValueType : Type 0 where
  nines : ValueType
  integers : (least greatest : ℤ) → ValueType
  truths : ValueType

-- an in port: its name in small letters, whether it is a scalar of the nine values, what its values are, and its
-- elements from the left
pub record Input : Type 0 where
  pub name : Word
  pub is_scalar : Bool
  pub values : ValueType
  pub elements : List Element

abbrev pub small : Word → Word
small name = map to_ascii_lowercase name

-- what stands at a place that no input has
abbrev pub no_input : Input
no_input = record { name = []; is_scalar = false; values = nines; elements = [] }

abbrev pub input_at : List Input → (place : ℕ) → Input
input_at inputs place = slice_index_or inputs place no_input

-- the place of the input with this name, in letters of either case
abbrev pub input_named : List Input → Word → Option ℕ
input_named inputs name = position (λ input. bytes_eq (small name) input.name) inputs

abbrev pub before_values : Option Nine → Option (List Nine) → Option (List Nine)
before_values None values = None
before_values (Some value) None = None
before_values (Some value) (Some values) = Some (value ∷ values)

-- the values that letters name, in either case
abbrev pub values_named : Word → Option (List Nine)
values_named [] = Some []
values_named (letter ∷ letters) = before_values (value_of_letter letter) (values_named letters)

-- of a text that has one letter for each of so many elements, from the left
abbrev pub letters_for : (count : ℕ) → Word → Option (List Nine)
letters_for count text = if length text == count then values_named text else None

-- ---- whole numbers, in base 10

abbrev pub negative_of : Option ℕ → Option ℤ
negative_of number = option_map (λ n. neg_ℤ (pos n)) number

-- with this sign
abbrev pub signed : (negative : Bool) → Option ℕ → Option ℤ
signed false number = option_map (λ n. pos n) number
signed true number = negative_of number

-- of a word of digits, which a `-` may precede
abbrev pub integer_of : Word → Option ℤ
integer_of [] = None
integer_of (byte ∷ bytes) =
    if byte == 45 then negative_of (number_of bytes) else option_map (λ n. pos n) (number_of (byte ∷ bytes))

-- within these bounds
abbrev pub integer_within : (least greatest : ℤ) → Option ℤ → Option ℤ
integer_within least greatest None = None
integer_within least greatest (Some n) = if int_le least n && int_le n greatest then Some n else None

abbrev pub integer_for : (least greatest : ℤ) → Word → Option ℤ
integer_for least greatest text = integer_within least greatest (integer_of text)

-- ---- truths

-- of a word `true` or `false`, in letters of either case
abbrev pub truth_for : Word → Option Bool
truth_for text =
    if bytes_eq (small text) (codes "true") then Some true
    else if bytes_eq (small text) (codes "false") then Some false
    else None

-- ---- all values

-- the values that a text gives so many elements of an input, from the left
abbrev pub values_by : ValueType → (count : ℕ) → Word → Option (List Nine)
values_by nines count text = letters_for count text
values_by (integers least greatest) count text = option_map (signed_digits_of count) (integer_for least greatest text)
values_by truths count text = option_map (λ b. value_of_truth b ∷ []) (truth_for text)

abbrev pub values_for : Input → Word → Option (List Nine)
values_for input text = values_by input.values (length input.elements) text
