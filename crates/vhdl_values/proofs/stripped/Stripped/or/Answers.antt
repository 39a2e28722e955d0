use Rattle.vhdl_values.proofs.Stripping.{IsMarked-or}
use Rattle.vhdl_values.proofs.stripped.Stripped.or.Goals as goal

pub returns : goal.returns
returns c = λ vs ws left right same. IsMarked-or vs ws _ _ _ _ _ _ left right same
