-- The sets of values that are asked for: of a reset's net the one value that its test has, '0' or '1', and of a net
-- that it copies those whose copy is asked for.
use Rattle.std.specs.Prelude.{ℕ, Bool, true, false, ◌||◌, ◌==◌, if◌then◌else◌}
use Rattle.rtl_process_kinds.specs.declared.asked.Asked.{Asked}
use Rattle.rtl_process_kinds.specs.declared.asked.Asked.TheVariants as a

-- whether a value, by its code, is in the set: '0', '1', '0' and 'L', or '1' and 'H'
abbrev pub is_asked : Asked → (value : ℕ) → Bool
is_asked a.Zero value = value == 2
is_asked a.One value = value == 3
is_asked a.Low value = value == 2 || value == 6
is_asked a.High value = value == 3 || value == 7

-- the values whose copy, as it is or by `not`, is in the set
abbrev pub asked_through : Asked → (inverted : Bool) → Asked
asked_through set false = set
asked_through a.Zero true = a.High
asked_through a.One true = a.Low
asked_through a.Low true = a.High
asked_through a.High true = a.Low

-- the sets are numbered
abbrev pub number_of : Asked → ℕ
number_of a.Zero = 0
number_of a.One = 1
number_of a.Low = 2
number_of a.High = 3

abbrev pub numbered : ℕ → Asked
numbered k = if k == 0 then a.Zero else (if k == 1 then a.One else (if k == 2 then a.Low else a.High))
