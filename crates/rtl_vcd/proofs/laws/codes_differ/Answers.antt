use Rattle.rtl_vcd.proofs.Codes.{codes_differ}
use Rattle.rtl_vcd.proofs.laws.codes_differ.Goals as goal

pub returns : goal.returns
returns c = codes_differ
