-- Resolution of the values that drive one net (std_logic_1164, resolution_table and function resolved).
use Rattle.std.specs.Prelude.{ℕ, codes, List, [], ◌∷◌, slice_index, fold, unwrap_or}
use Rattle.vhdl_values.specs.declared.scalar.Nine.{Nine}
use Rattle.vhdl_values.specs.declared.scalar.Nine.TheVariants.{U, X, Zero, One, Z, W, L, H, Dash}
use Rattle.vhdl_values.specs.Scalar.{code_of, value_of_letter}

-- the row of the table for a value; its columns are in the order U X 0 1 Z W L H -
abbrev pub resolution_row : Nine → List ℕ
resolution_row U = codes "UUUUUUUUU"
resolution_row X = codes "UXXXXXXXX"
resolution_row Zero = codes "UX0X0000X"
resolution_row One = codes "UXX11111X"
resolution_row Z = codes "UX01ZWLHX"
resolution_row W = codes "UX01WWWWX"
resolution_row L = codes "UX01LWLWX"
resolution_row H = codes "UX01HWWHX"
resolution_row Dash = codes "UXXXXXXXX"

-- the value in the row of `a` and the column of `b`
abbrev pub resolution_table : Nine → Nine → Nine
resolution_table a b = unwrap_or (value_of_letter (slice_index (resolution_row a) (code_of b))) X

-- one driver gives its value unchanged, several are folded from Z
abbrev pub resolved : List Nine → Nine
resolved (v ∷ []) = v
resolved vs = fold resolution_table Z vs
