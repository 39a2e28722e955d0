use Rattle.std.proofs.Common.{◌≡◌, sym, ap, subst, ◌∙◌, vec_len}
use Rattle.rtl_model.specs.simulation.Netlist as m
use Rattle.rtl_net.specs.declared.process.Process.{Process}
use Rattle.rtl_net.specs.Core.{core}
use Rattle.rtl_process_kinds.specs.KindViews.{IsKind}
use Rattle.rtl_process_kinds.proofs.Processes.{listed_as}
use Rattle.rtl_calm_nets.specs.declared.origins.Origin.TheVariants as o
use Rattle.rtl_calm_nets.proofs.Giving.{all_alike, mixed_gives}
use Rattle.rtl_calm_nets.proofs.Ranges.{many_drivers}
use Rattle.rtl_calm_nets.proofs.drivers.given_by.Goals as goal

pub returns-in_ok-vec-in-Mixed-clause-given : goal.returns-in_ok-vec-in-Mixed-clause-given
returns-in_ok-vec-in-Mixed-clause-given c =
    let net = c.args.net.now in
    let x = c.index-processes-number.result in
    let at = listed_as c.args.number c.index-processes-number.is c.processes.ensures in
    let mixed : (m.process (core net) c.args.number).kind ≡ m.Mixed = subst (IsKind (m.process (core net) c.args.number)) c.in-Mixed.is c.requires.kind in
    all_alike (core net) c.args.number c.len-drivers.result o.Other c.in_ok-vec-in-Mixed.field-0.items (c.in_ok-vec-in-Mixed.ensures.items_if_clones_equal (λ y e. e))
    (many_drivers net c.is_elaborated.ensures c.args.number c.requires.there x at ∙ (sym x.drives.ok.0 ∙ (ap (λ (q : Process). vec_len q.drives) c.index-processes-number.is ∙ sym c.len-drivers.ensures)))
    (mixed_gives (core net) c.args.number mixed)
