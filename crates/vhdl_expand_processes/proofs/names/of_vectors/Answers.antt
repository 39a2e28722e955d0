use Rattle.std.proofs.Common.{refl}
use Rattle.vhdl_expand_processes.proofs.Gathering.{adds_both}
use Rattle.vhdl_expand_processes.proofs.names.of_vectors.Goals as goal

pub returns : goal.returns
returns c =
    adds_both c.args.found.now c.of_vector.new.found c.of_vector-2.new.found _ _ _ refl c.of_vector.ensures c.of_vector-2.ensures
