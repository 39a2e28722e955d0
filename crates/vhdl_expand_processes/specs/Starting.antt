-- What elements start with.
use Rattle.std.specs.Prelude.{ℕ, List, map, Ok}
use Rattle.vhdl_values.specs.declared.scalar.Nine.{Nine}
use Rattle.vhdl_values.specs.Numbers.{digits_of}
use Rattle.vhdl_values.specs.Scalar.{code_of}
use Rattle.vhdl_names_rules.specs.units.Expressions.{Static}
use Rattle.vhdl_names_rules.specs.units.Units.{Fixed}
use Rattle.vhdl_expand_rules.specs.Declarations.{as_long_as, fixed_values}
use Rattle.vhdl_expand_rules.specs.Elab.{Elab, ◌>>=◌}
use Rattle.vhdl_expand_rules.specs.Integers.{natural}
use Rattle.vhdl_expand_rules.specs.Kinds.{size_of}
use Rattle.vhdl_expand_rules.specs.Site.{Site}

-- a number's digits, of this size, which has to be as long
abbrev pub encoded_as : Site → (at : ℕ) → (len : ℕ) → Static → Static → Elab (List Nine)
encoded_as here at len s t = do
  n ← natural here.integers at s
  m ← size_of here.integers at t
  as_long_as at len (digits_of m n)

-- the codes of a constant's or default's values, of so many elements
abbrev pub codes_given : Site → (at : ℕ) → (len : ℕ) → Fixed → Elab (List ℕ)
codes_given here at len f = do
  vs ← fixed_values here at len f
  Ok (map code_of vs)
