-- The logical operators (std_logic_1164: and_table, or_table, xor_table, not_table, and the operators on
-- vectors; numeric_std L.1 to L.7).
use Rattle.std.specs.Prelude.{◌||◌, if◌then◌else◌, List, [], ◌∷◌, find, map, unwrap_or}
use Rattle.vhdl_values.specs.declared.kinds.Logic.{Logic}
use Rattle.vhdl_values.specs.declared.kinds.Logic.TheVariants.{And, Or, Nand, Nor, Xor, Xnor}
use Rattle.vhdl_values.specs.declared.scalar.Nine.{Nine}
use Rattle.vhdl_values.specs.declared.scalar.Nine.TheVariants.{U, X, Zero, One, L, H}
use Rattle.vhdl_values.specs.Scalar.{is_same}

-- the value as one of U, X, 0 and 1 (To_UX01): the operators look at no more of it
abbrev pub strip : Nine → Nine
strip U = U
strip Zero = Zero
strip L = Zero
strip One = One
strip H = One
strip _ = X

-- the first of these values that one of two operands is, or another
abbrev pub winner : List Nine → (other : Nine) → (a b : Nine) → Nine
winner values other a b = unwrap_or (find (λ v. is_same v a || is_same v b) values) other

-- `and` of two stripped values: 0 wins, then U, then X
abbrev pub and_stripped : Nine → Nine → Nine
and_stripped = winner (Zero ∷ U ∷ X ∷ []) One

-- `or` of two stripped values: 1 wins, then U, then X
abbrev pub or_stripped : Nine → Nine → Nine
or_stripped = winner (One ∷ U ∷ X ∷ []) Zero

-- `xor` of two stripped values: U wins, then X, and of digits 1 where they differ
abbrev pub xor_stripped : Nine → Nine → Nine
xor_stripped a b = winner (U ∷ X ∷ []) (if is_same a b then Zero else One) a b

-- `not` of a stripped value
abbrev pub not_stripped : Nine → Nine
not_stripped U = U
not_stripped Zero = One
not_stripped One = Zero
not_stripped _ = X

abbrev pub and_of : Nine → Nine → Nine
and_of a b = and_stripped (strip a) (strip b)

abbrev pub or_of : Nine → Nine → Nine
or_of a b = or_stripped (strip a) (strip b)

abbrev pub xor_of : Nine → Nine → Nine
xor_of a b = xor_stripped (strip a) (strip b)

abbrev pub not_of : Nine → Nine
not_of a = not_stripped (strip a)

-- an operator of two values
abbrev pub logic_of : Logic → Nine → Nine → Nine
logic_of And a b = and_of a b
logic_of Or a b = or_of a b
logic_of Nand a b = not_of (and_of a b)
logic_of Nor a b = not_of (or_of a b)
logic_of Xor a b = xor_of a b
logic_of Xnor a b = not_of (xor_of a b)

-- an operator of two vectors of one length: element by element, from the left
abbrev pub zip_with : {A : Type 0} → (A → A → A) → List A → List A → List A
zip_with f (a ∷ as') (b ∷ bs) = f a b ∷ zip_with f as' bs
zip_with f _ _ = []

abbrev pub logic_of_all : Logic → List Nine → List Nine → List Nine
logic_of_all kind as' bs = zip_with (logic_of kind) as' bs

-- `not` of each element
abbrev pub not_of_all : List Nine → List Nine
not_of_all vs = map not_of vs
