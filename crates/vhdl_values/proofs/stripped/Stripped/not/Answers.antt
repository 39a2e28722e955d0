use Rattle.vhdl_values.proofs.Stripping.{IsMarked-not}
use Rattle.vhdl_values.proofs.stripped.Stripped.not.Goals as goal

pub returns : goal.returns
returns c = λ vs marked. IsMarked-not vs _ _ _ marked
