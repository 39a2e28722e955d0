use Rattle.vhdl_values.proofs.Stripping.{IsMarked-xor}
use Rattle.vhdl_values.proofs.stripped.Stripped.xor.Goals as goal

pub returns : goal.returns
returns c = λ vs ws left right same. IsMarked-xor vs ws _ _ _ _ _ _ left right same
