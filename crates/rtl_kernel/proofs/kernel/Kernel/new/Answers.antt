use Rattle.std.proofs.Common.{List, true, length, map, replicate, ap, ◌∙◌}
use Rattle.rtl_net.specs.declared.process.Process.{Process}
use Rattle.rtl_kernel.specs.drivers.Starts.{start_row}
use Rattle.rtl_kernel.specs.kernel.Kept.{Parts}
use Rattle.rtl_kernel.specs.wakes.ToRun.{ToRun}
use Rattle.rtl_kernel.proofs.Started.{is_started, kept_started}
use Rattle.rtl_kernel.proofs.Wiring.{nets_there}
use Rattle.rtl_kernel.proofs.kernel.Kernel.new.Goals as goal

pub driver_cuts-cuts-requires : goal.driver_cuts-cuts-requires
driver_cuts-cuts-requires g c =
    rw (c.processes-processes.ensures, c.of_net.ensures.value, c.groups.ensures.value, c.values.ensures.grouped, c.in_ok-nets.ensures.net_is)
    (nets_there c.args.net.now c.is_elaborated.ensures.in_range)

pub invariant_of-result : goal.invariant_of-result
invariant_of-result g c =
    let net = c.args.net.now in
    let N = c.is_elaborated.ensures in
    let parts = rw (c.in_ok-cuts.ensures.0) at c.both-parts.ensures in
    let waits = rw (c.in_ok-cuts.ensures.1) at c.both-waits.ensures in
    let cuts = rw (parts.0) at c.driver_cuts-cuts.ensures in
    let drivers = rw (parts.1) at c.new-drivers.ensures.drivers in
    let outcomes = rw (parts.1) at c.new-drivers.ensures.outcomes in
    let resumed = rw (waits.0) at c.all-resumed.ensures in
    let awaits = rw (waits.1) at c.first_awaited.ensures in
    kept_started _ _ _ c.args.bodies.now net _ c.args.initial.now N.in_range N.connected c.requires.bodies c.in_ok-nets.ensures
    (drivers ∙ ap (map start_row) c.processes-processes.ensures)
    (rw (c.processes-processes.ensures) at outcomes)
    (ap (λ (r : ToRun). r.waiting) resumed ∙ ap (λ (ps : List Process). replicate (length ps) true) c.processes-processes.ensures)
    (rw (c.processes-processes.ensures, c.of_net.ensures.value, c.groups.ensures.value, c.values.ensures.value) at cuts)
    awaits

pub returns : goal.returns
returns g c =
    let net = c.args.net.now in
    let N = c.is_elaborated.ensures in
    let parts = rw (c.in_ok-cuts.ensures.0) at c.both-parts.ensures in
    let waits = rw (c.in_ok-cuts.ensures.1) at c.both-waits.ensures in
    let drivers = rw (parts.1) at c.new-drivers.ensures.drivers in
    let outcomes = rw (parts.1) at c.new-drivers.ensures.outcomes in
    let resumed = rw (waits.0) at c.all-resumed.ensures in
    let k : Parts = record {
      nets = c.in_ok-nets.nets;
      cuts = c.in_ok-cuts.cuts;
      drivers = c.in_ok-cuts.drivers;
      resumed = c.in_ok-cuts.resumed;
      awaited = c.in_ok-cuts.awaited;
      await_it = c.in_ok-cuts.await_it.items;
    } in
    let state = is_started g.E.Exec.process g.E.Exec.types g.E.Exec.most c.args.bodies.now net k c.args.initial.now
    N.in_range N.connected c.requires.bodies c.in_ok-nets.ensures
    (drivers ∙ ap (map start_row) c.processes-processes.ensures)
    (rw (c.processes-processes.ensures) at outcomes)
    (ap (λ (r : ToRun). r.waiting) resumed ∙ ap (λ (ps : List Process). replicate (length ps) true) c.processes-processes.ensures) in
    λ i. record { net = c.in_ok-nets.ensures.net_is i; state = state i }
