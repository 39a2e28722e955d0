-- A chain of operators, as the code comes to it.
use Rattle.std.specs.Prelude.{List, [], ◌∷◌, Ok}
use Rattle.vhdl_expand_rules.specs.Elab.{Elab, ◌>>=◌}

-- operators with their right operands, one after another behind what stands there
abbrev pub chained : {D K : Type 0} → (D → K → Elab D) → D → List K → Elab D
chained linked d [] = Ok d
chained linked d (k ∷ ks) = do
  e ← linked d k
  chained linked e ks
