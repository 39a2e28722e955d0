use Rattle.vhdl_expand_processes.proofs.Statements.{each_name}
use Rattle.vhdl_expand_processes.proofs.Gathering.{gathered}
use Rattle.vhdl_expand_processes.proofs.bodies.sought_in.Goals as goal

pub returns : goal.returns
returns c =
    gathered c.whole.result c.new-found.result c.of_statements.new.found _ _ c.new-found.ensures.names (each_name c.args.sought c.args.list.now) c.of_statements.ensures c.whole.ensures.failed c.whole.ensures.names
