-- Relations of unsigned vectors (numeric_std C.1 to C.36) compare the numbers, whatever the lengths. Where an
-- element isn't good, `/=` holds and no other relation does.
use Rattle.std.specs.Prelude.{ℕ, Bool, true, false, not, ◌&&◌, ◌==◌, nat_lt, nat_le, if◌then◌else◌, List}
use Rattle.vhdl_values.specs.declared.kinds.Cmp.{Cmp}
use Rattle.vhdl_values.specs.declared.kinds.Cmp.TheVariants.{Eq, Ne, Lt, Le, Gt, Ge}
use Rattle.vhdl_values.specs.declared.scalar.Nine.{Nine}
use Rattle.vhdl_values.specs.Numbers.{all_good, number_of}

-- whether two numbers have a relation
abbrev pub holds : Cmp → ℕ → ℕ → Bool
holds Eq m n = m == n
holds Ne m n = not (m == n)
holds Lt m n = nat_lt m n
holds Le m n = nat_le m n
holds Gt m n = nat_lt n m
holds Ge m n = nat_le n m

-- whether a relation holds where there is no number
abbrev pub holds_of_unknowns : Cmp → Bool
holds_of_unknowns Eq = false
holds_of_unknowns Ne = true
holds_of_unknowns Lt = false
holds_of_unknowns Le = false
holds_of_unknowns Gt = false
holds_of_unknowns Ge = false

-- whether two vectors have a relation
abbrev pub compares : Cmp → List Nine → List Nine → Bool
compares kind a b =
    if all_good a && all_good b then holds kind (number_of a) (number_of b) else holds_of_unknowns kind

-- whether a vector has a relation to a natural number
abbrev pub compares_number : Cmp → List Nine → ℕ → Bool
compares_number kind vs n = if all_good vs then holds kind (number_of vs) n else holds_of_unknowns kind
