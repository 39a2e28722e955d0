use Rattle.vhdl_names_declarations.proofs.Settling.{finished_at}
use Rattle.vhdl_names_declarations.proofs.region.finish.Goals as goal

pub returns : goal.returns
returns c = finished_at c.args.place c.args.region.now.entries c.args.entry c.requires
