-- The nine values (IEEE 1076-2008, 16.7: package std_logic_1164, type std_ulogic).
use Rattle.std.specs.Prelude.{ℕ, Bool, true, false, Option, ◌==◌, codes, List, [], ◌∷◌, slice_get, slice_index, find, map, unwrap_or}
use Rattle.std.specs.Str.{bytes_eq}
use Rattle.std.specs.Char.{to_ascii_uppercase}
use Rattle.vhdl_values.specs.declared.scalar.Nine.{Nine}
use Rattle.vhdl_values.specs.declared.scalar.Nine.TheVariants.{U, X, Zero, One, Z, W, L, H, Dash}

-- the nine values in the order of the package
abbrev pub nines : List Nine
nines = U ∷ X ∷ Zero ∷ One ∷ Z ∷ W ∷ L ∷ H ∷ Dash ∷ []

-- the place of a value in that order
abbrev pub code_of : Nine → ℕ
code_of U = 0
code_of X = 1
code_of Zero = 2
code_of One = 3
code_of Z = 4
code_of W = 5
code_of L = 6
code_of H = 7
code_of Dash = 8

-- the value at a place in that order, X where the place is none of the nine
abbrev pub value_of_code : ℕ → Nine
value_of_code code = unwrap_or (slice_get nines code) X

-- whether two values are one and the same
abbrev pub is_same : Nine → Nine → Bool
is_same a b = code_of a == code_of b

-- whether two vectors are as long as each other and equal element by element: `=` on std_logic_vector
-- (IEEE 1076-2008, 9.2.3)
abbrev pub are_same : List Nine → List Nine → Bool
are_same as' bs = bytes_eq (map code_of as') (map code_of bs)

-- the character of a value
abbrev pub letter_of : Nine → ℕ
letter_of v = slice_index (codes "UX01ZWLH-") (code_of v)

-- the value of a character, letters in either case
abbrev pub value_of_letter : ℕ → Option Nine
value_of_letter c = find (λ v. letter_of v == to_ascii_uppercase c) nines

-- the value as one of X, 0 and 1 (To_X01, table cvt_to_x01)
abbrev pub x01_of : Nine → Nine
x01_of Zero = Zero
x01_of L = Zero
x01_of One = One
x01_of H = One
x01_of _ = X

-- the value that stands for a truth
abbrev pub value_of_truth : Bool → Nine
value_of_truth true = One
value_of_truth false = Zero

-- whether a condition of this value holds: 1 and H alone do (9.2.9, and the package's function "??")
abbrev pub is_true : Nine → Bool
is_true One = true
is_true H = true
is_true _ = false
