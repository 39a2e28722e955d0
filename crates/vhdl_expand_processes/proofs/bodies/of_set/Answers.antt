use Rattle.vhdl_expand_processes.proofs.Statements.{is_read, none_read}
use Rattle.vhdl_expand_processes.proofs.bodies.of_set.Goals as goal

pub returns-in-Read : goal.returns-in-Read
returns-in-Read c = is_read c.args.sought _ c.args.found.now c.of_given.new.found c.in-Read.is c.of_given.ensures

pub returns-in-Assigned : goal.returns-in-Assigned
returns-in-Assigned c = none_read c.args.sought _ c.args.found.now c.in-Assigned.is
