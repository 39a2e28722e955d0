use Rattle.vhdl_connect_processes.proofs.Taking.{dotless}
use Rattle.vhdl_connect_processes.proofs.process.without_dot.Goals as goal

pub returns : goal.returns
returns c = dotless c.args.prefix.items c.requires.labels _ c.args.prefix.len c.requires.is c.args.prefix.ok.0 c.pop-dot.ensures.rest
