-- Strings and arrays of JSON (RFC 8259, sections 5 and 7). Bytes above 127 stand in a string as they are.
use Rattle.std.specs.Prelude.{ℕ, ◌+◌, ◌-◌, ◌==◌, nat_lt, if◌then◌else◌, List, [], ◌∷◌, ◌++◌, flat_map, codes}

-- ---- strings

-- the digit of a number below 16
abbrev pub hex_digit : (n : ℕ) → ℕ
hex_digit n = if nat_lt n 10 then 48 + n else 87 + n

-- a control byte, by its number in four such digits
abbrev pub control_text : (byte : ℕ) → List ℕ
control_text byte =
    if nat_lt byte 16 then codes "\\u000" ++ hex_digit byte ∷ [] else codes "\\u001" ++ hex_digit (byte - 16) ∷ []

-- a byte as it stands in a string: a quote and a backslash behind a backslash
abbrev pub byte_text : (byte : ℕ) → List ℕ
byte_text byte =
    if byte == 34 then codes "\\\""
    else (if byte == 92 then codes "\\\\" else (if nat_lt byte 32 then control_text byte else byte ∷ []))

unfoldable pub string_text : (bytes : List ℕ) → List ℕ
string_text bytes = codes "\"" ++ flat_map byte_text bytes ++ codes "\""

-- ---- arrays

-- an item behind another
abbrev pub next_text : {A : Type 0} → (text : A → List ℕ) → A → List ℕ
next_text text item = codes "," ++ text item

abbrev pub items_text : {A : Type 0} → (text : A → List ℕ) → List A → List ℕ
items_text text [] = []
items_text text (item ∷ items) = text item ++ flat_map (next_text text) items

unfoldable pub array_text : {A : Type 0} → (text : A → List ℕ) → List A → List ℕ
array_text text items = codes "[" ++ items_text text items ++ codes "]"
