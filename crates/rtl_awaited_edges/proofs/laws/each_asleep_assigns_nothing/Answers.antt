use Rattle.rtl_awaited_edges.proofs.Edges.{each_asleep_assigns_nothing}
use Rattle.rtl_awaited_edges.proofs.laws.each_asleep_assigns_nothing.Goals as goal

pub returns : goal.returns
returns c = each_asleep_assigns_nothing
