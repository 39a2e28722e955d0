use Rattle.std.proofs.Common.{refl}
use Rattle.vhdl_expand_processes.proofs.Gathering.{adds_both}
use Rattle.vhdl_expand_processes.proofs.names.of_values.Goals as goal

pub returns : goal.returns
returns c =
    adds_both c.args.found.now c.of_value.new.found c.of_value-2.new.found _ _ _ refl c.of_value.ensures c.of_value-2.ensures
