-- What contracts see of an evaluated value.
use Rattle.std.specs.Prelude.{ℕ, List, [], ◌∷◌, map}
use Rattle.vhdl_values.specs.Scalar.{code_of}
use Rattle.rtl_eval.specs.declared.evaluated.Evaluated.{Evaluated}
use Rattle.rtl_eval.specs.declared.evaluated.Evaluated.TheVariants as e

-- the numbers of its elements from the left, or its one position
abbrev pub codes_of : Evaluated → List ℕ
codes_of (e.Elements values) = map code_of values
codes_of (e.Position at) = at ∷ []
