use Rattle.vhdl_values.proofs.Stripping.{IsMarked-and}
use Rattle.vhdl_values.proofs.stripped.Stripped.and.Goals as goal

pub returns : goal.returns
returns c = λ vs ws left right same. IsMarked-and vs ws _ _ _ _ _ _ left right same
