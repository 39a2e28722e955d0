use Rattle.std.proofs.Common.{refl}
use Rattle.vhdl_expected.specs.Told.{words}
use Rattle.vhdl_expected.proofs.word.words.Goals as goal

pub returns : goal.returns
unfolding words
returns c = refl
