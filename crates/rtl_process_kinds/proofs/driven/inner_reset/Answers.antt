use Rattle.std.proofs.Common.{◌≡◌, sym, subst, ◌∙◌}
use Rattle.rtl_model.specs.simulation.Netlist.{process, IsDriven}
use Rattle.rtl_net.specs.Core.{core}
use Rattle.rtl_process_kinds.proofs.Drivers.{kept_is, is_kept, reset_read, read_there, driven_is, is_driven_by}
use Rattle.rtl_process_kinds.proofs.driven.inner_reset.Goals as goal

pub is_driven-requires : goal.is_driven-requires
is_driven-requires c =
    let net = c.args.net.now in
    read_there net c.is_elaborated.ensures c.args.process c.in_ok-reset.reset c.requires
    (reset_read (process (core net) c.args.process) _ c.reset_at.ensures.1 c.in_ok-reset.reset (sym c.reset_at.ensures.2 ∙ c.in_ok-reset.was))

pub returns-then-is_driven : goal.returns-then-is_driven
returns-then-is_driven c =
    let net = c.args.net.now in
    let wired = (c.nets_meet_the_laws.ensures net c.is_elaborated.ensures).elaborated.wiring in (
      kept_is (process (core net) c.args.process) _ c.reset_at.ensures.1 c.in_ok-reset.reset (sym c.reset_at.ensures.2 ∙ c.in_ok-reset.was),
      is_driven_by (core net) wired c.in_ok-reset.reset (sym c.is_driven.ensures ∙ c.if-is_driven.true),
    )

pub returns-else-is_driven : goal.returns-else-is_driven
returns-else-is_driven c n ((reset, has, is), driven) =
    let net = c.args.net.now in
    let wired = (c.nets_meet_the_laws.ensures net c.is_elaborated.ensures).elaborated.wiring in
    let kept = sym (sym c.reset_at.ensures.2 ∙ c.in_ok-reset.was) ∙ is_kept (process (core net) c.args.process) _ c.reset_at.ensures.1 reset has in
    let same : c.in_ok-reset.reset ≡ n = (let e : c.in_ok-reset.reset ≡ reset.net = cc in e ∙ is) in
    let h = sym (driven_is (core net) wired c.in_ok-reset.reset (subst (IsDriven (core net)) (sym same) driven)) ∙ (sym c.is_driven.ensures ∙ c.if-is_driven.false) in
    absurd cc
