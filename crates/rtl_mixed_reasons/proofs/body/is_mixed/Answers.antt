use Rattle.std.proofs.Common.{sym, ◌∙◌}
use Rattle.rtl_model.specs.bodies.Kinds.{clocking}
use Rattle.rtl_model.specs.bodies.Reads.{events}
use Rattle.rtl_net.specs.Nets.{body_of}
use Rattle.rtl_mixed_reasons.proofs.MixedKinds.{of_combinational, of_clocked, of_mixed}
use Rattle.rtl_mixed_reasons.proofs.body.is_mixed.Goals as goal

pub returns-in-Combinational : goal.returns-in-Combinational
returns-in-Combinational c =
    let b = body_of c.args.process.now in
    of_combinational (clocking c.args.net.now.wide c.args.net.now.inputs b) (events b) (sym c.in-Combinational.is ∙ c.kind_in.ensures)

pub returns-in-Clocked : goal.returns-in-Clocked
returns-in-Clocked c =
    let b = body_of c.args.process.now in
    of_clocked (clocking c.args.net.now.wide c.args.net.now.inputs b) (events b) c.in-Clocked.field-0 (sym c.in-Clocked.is ∙ c.kind_in.ensures)

pub returns-in-Mixed : goal.returns-in-Mixed
returns-in-Mixed c =
    let b = body_of c.args.process.now in
    of_mixed (clocking c.args.net.now.wide c.args.net.now.inputs b) (events b) (sym c.in-Mixed.is ∙ c.kind_in.ensures)
