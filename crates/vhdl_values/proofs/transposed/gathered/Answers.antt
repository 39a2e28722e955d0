use Rattle.vhdl_values.proofs.Transposing.{gathered}
use Rattle.vhdl_values.proofs.transposed.gathered.Goals as goal

pub returns : goal.returns
returns c = λ codes room below is. gathered c.args.plane codes c.args.word c.requires room below is
