use Rattle.std.proofs.Common.{List, Some, ap, sym, ◌∙◌}
use Rattle.rtl_model.specs.bodies.Kinds.{clocking}
use Rattle.rtl_model.specs.bodies.Reads.{events}
use Rattle.rtl_net.specs.Bodies.{statements_of}
use Rattle.rtl_net.specs.Nets.{body_of}
use Rattle.rtl_net.specs.declared.body.Statement.{Statement}
use Rattle.rtl_body_facts.specs.Timing.{kind_view}
use Rattle.rtl_remarks.proofs.ResetBranches.{of_combinational, of_mixed, of_clocked}
use Rattle.rtl_remarks.proofs.branches.has_reset.Goals as goal

pub returns-in-Combinational : goal.returns-in-Combinational
returns-in-Combinational c =
    let b = body_of c.args.process.now in
    of_combinational (clocking c.args.wide c.args.inputs.now b) (events b) (sym c.in-Combinational.is ∙ c.kind_of.ensures
    ∙ ap (λ (xs : List Statement). kind_view (clocking c.args.wide c.args.inputs.now (statements_of xs)) (events (statements_of xs))) c.deref.ensures.value)

pub returns-in-Mixed : goal.returns-in-Mixed
returns-in-Mixed c =
    let b = body_of c.args.process.now in
    of_mixed (clocking c.args.wide c.args.inputs.now b) (events b) (sym c.in-Mixed.is ∙ c.kind_of.ensures
    ∙ ap (λ (xs : List Statement). kind_view (clocking c.args.wide c.args.inputs.now (statements_of xs)) (events (statements_of xs))) c.deref.ensures.value)

pub returns-in-Clocked : goal.returns-in-Clocked
returns-in-Clocked c =
    let b = body_of c.args.process.now in
    ap Some c.is_some.ensures
    ∙ of_clocked (clocking c.args.wide c.args.inputs.now b) (events b) c.in-Clocked.clocking (sym c.in-Clocked.is ∙ c.kind_of.ensures
    ∙ ap (λ (xs : List Statement). kind_view (clocking c.args.wide c.args.inputs.now (statements_of xs)) (events (statements_of xs))) c.deref.ensures.value)
