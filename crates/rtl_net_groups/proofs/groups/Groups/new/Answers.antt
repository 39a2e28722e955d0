use Rattle.std.proofs.Common.{length, ap, ◌∙◌}
use Rattle.rtl_net_groups.proofs.Alike.{groups_are}
use Rattle.rtl_net_groups.proofs.groups.Groups.new.Goals as goal

pub returns : goal.returns
returns c =
    let runs = c.in_ok-runs.runs in
    groups_are c.args.declared.now c.args.nets_of.now c.deref.result.now runs.of_net.items runs.first.items
    c.in_ok-runs.ensures.numbered (rw (c.deref.ensures.value) c.in_ok-begins.ensures.apart) c.in_ok-listed.listed
    (c.in_ok-runs.ensures.as_many ∙ ap length c.deref.ensures.value ∙ c.in_ok-begins.ensures.as_many) c.in_ok-listed.ensures.as_many c.in_ok-listed.ensures.listed
