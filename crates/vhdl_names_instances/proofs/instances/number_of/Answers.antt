use Rattle.std.proofs.Common.{sym}
use Rattle.vhdl_names_instances.proofs.Instancing.{named_place}
use Rattle.vhdl_names_instances.proofs.instances.number_of.Goals as goal

pub returns : goal.returns
returns c = sym (named_place c.args.name.now c.args.entities.now.names.keys c.get_index_of.result c.get_index_of.ensures.index)
