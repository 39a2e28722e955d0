use Rattle.std.proofs.Common.{refl}
use Rattle.vhdl_expand_processes.proofs.Gathering.{adds_both}
use Rattle.vhdl_expand_processes.proofs.Statements.{is_read, none_read}
use Rattle.vhdl_expand_processes.proofs.bodies.of_chosen_set.Goals as goal

pub returns-in-Read : goal.returns-in-Read
returns-in-Read c =
    is_read c.args.sought _ c.args.found.now c.of_given.new.found c.in-Read.is
    (adds_both c.args.found.now c.of_chosen.new.found c.of_given.new.found _ _ _ refl c.of_chosen.ensures c.of_given.ensures)

pub returns-in-Assigned : goal.returns-in-Assigned
returns-in-Assigned c = none_read c.args.sought _ c.args.found.now c.in-Assigned.is
