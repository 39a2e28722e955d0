use Rattle.std.proofs.Common.{◌<◌, length, map, All, ap, ◌∙◌}
use Rattle.rtl_net.specs.Nets.{flat}
use Rattle.rtl_net.specs.declared.process.Process.{Process}
use Rattle.rtl_kernel.proofs.Grouped.{alone_alike, groups_index}
use Rattle.rtl_kernel.proofs.Wiring.{lists_there}
use Rattle.rtl_kernel.proofs.wakes.wake_groups.Goals as goal

pub new-requires : goal.new-requires
new-requires c =
    let net = c.args.net.now in
    let wakes = c.in_ok-wakes.ensures ∙ ap (map (λ (p : Process). p.wakes.items)) c.processes.ensures in
    let many = ap length c.deref.ensures.value ∙ c.tell_apart.ensures.as_many ∙ c.in_ok-declared.ensures ∙ c.nets.ensures.count in
    rw (wakes, many) (lists_there net c.nets.ensures.elaborated.in_range)

pub returns-clause-as_many : goal.returns-clause-as_many
returns-clause-as_many c = c.in_ok-groups.ensures.each_net ∙ ap length c.deref.ensures.value ∙ c.tell_apart.ensures.as_many ∙ c.in_ok-declared.ensures ∙ c.nets.ensures.count

pub returns-clause-index : goal.returns-clause-index
returns-clause-index c =
    let net = c.args.net.now in
    let wakes = c.in_ok-wakes.ensures ∙ ap (map (λ (p : Process). p.wakes.items)) c.processes.ensures in
    let many = ap length c.deref.ensures.value ∙ c.tell_apart.ensures.as_many ∙ c.in_ok-declared.ensures ∙ c.nets.ensures.count in
    let there : All (λ nets. All (λ n. n < length c.deref.result.now) nets) c.in_ok-wakes.wakes = rw (wakes, many) (lists_there net c.nets.ensures.elaborated.in_range) in
    rw (← wakes) (groups_index c.in_ok-groups.groups c.deref.result.now c.in_ok-wakes.wakes there c.in_ok-groups.ensures)

pub returns-clause-alike : goal.returns-clause-alike
returns-clause-alike c =
    alone_alike c.in_ok-groups.groups (flat c.args.net.now) c.deref.result.now c.in_ok-wakes.wakes c.in_ok-groups.ensures (rw (c.deref.ensures.value) c.tell_apart.ensures.apart)
