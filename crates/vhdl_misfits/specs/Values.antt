-- The characters of literals, the calls whose second argument is a length, and names of types (IEEE 1076-2008, 15.6,
-- 15.7, 16.3, 16.7, 16.8.4 and 16.8.5).
use Rattle.std.specs.Prelude.{ℕ, ◌==◌, ◌||◌, Bool, false, List, [], ◌∷◌, codes}
use Rattle.std.specs.List.{list_all}
use Rattle.std.specs.Str.{str_eq_ignore_ascii_case}

-- the character of one of the nine values
abbrev pub is_value : ℕ → Bool
is_value byte =
    byte == 85 || byte == 88 || byte == 48 || byte == 49 || byte == 90
    || byte == 87 || byte == 76 || byte == 72 || byte == 45

-- or a quotation mark
abbrev pub is_element : ℕ → Bool
is_element byte = byte == 34 || is_value byte

abbrev pub are_elements : (written : List ℕ) → Bool
are_elements written = list_all is_element written

-- of three characters the second is that of one of the nine values
abbrev pub is_one_value : (written : List ℕ) → Bool
is_one_value (tick ∷ value ∷ last ∷ []) = is_value value
is_one_value _ = false

-- ---- calls

-- its second argument is a length
abbrev pub is_sized : (word : List ℕ) → Bool
is_sized word = str_eq_ignore_ascii_case word (codes "resize") || str_eq_ignore_ascii_case word (codes "to_unsigned")

-- ---- types

-- the name of a type of one element, of whole numbers, or of truths
abbrev pub names_element : (word : List ℕ) → Bool
names_element word =
    str_eq_ignore_ascii_case word (codes "std_logic") || str_eq_ignore_ascii_case word (codes "std_ulogic")
    || str_eq_ignore_ascii_case word (codes "integer") || str_eq_ignore_ascii_case word (codes "natural")
    || str_eq_ignore_ascii_case word (codes "positive") || str_eq_ignore_ascii_case word (codes "boolean")
