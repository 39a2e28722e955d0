use Rattle.std.proofs.Common.{arith}
use Rattle.rtl_net_groups.proofs.Starts.{length-lists_of}
use Rattle.rtl_net_groups.proofs.lists.Lists.count.Goals as goal

pub returns : goal.returns
returns g c =
    let starts = c.self.inside.starts in
    let h = length-lists_of starts.items _ c.self.inside.items.items c.self.invariant in
    rw (← c.self.view_is) (omega (arith, h, starts.ok.0))
