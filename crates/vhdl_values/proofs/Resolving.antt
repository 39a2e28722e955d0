-- Resolution by the number of values.
use Rattle.std.proofs.Common.{◌≡◌, ◌≢◌, List, [], ◌∷◌, length, refl}
use Rattle.std.specs.Prelude.{fold}
use Rattle.vhdl_values.specs.declared.scalar.Nine.{Nine}
use Rattle.vhdl_values.specs.declared.scalar.Nine.TheVariants.{Z}
use Rattle.vhdl_values.specs.Resolution.{resolution_table, resolved}

pub resolved-several : (vs : List Nine) → length vs ≢ 1 → fold resolution_table Z vs ≡ resolved vs
resolved-several (v ∷ []) ne = absurd (ne refl)
resolved-several _ ne = refl
