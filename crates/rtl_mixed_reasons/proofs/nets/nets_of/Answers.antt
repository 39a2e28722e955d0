use Rattle.std.proofs.Common.{List, ap, ◌∙◌}
use Rattle.std.proofs.lemmas.Result.{IfOk-weaker}
use Rattle.rtl_net.specs.declared.process.Driver.{Driver}
use Rattle.rtl_net.specs.Bodies.{statements_of}
use Rattle.rtl_body_facts.specs.Paths.{to_net}
use Rattle.rtl_model.specs.bodies.Assigns.{stmts_assign}
use Rattle.rtl_mixed_reasons.proofs.nets.nets_of.Goals as goal

pub returns : goal.returns
returns c = record {
  rise = c.assigned_on_some_path.ensures.rise;
  are = IfOk-weaker c.assigned_on_some_path.result _ _
      (λ nets found n. found n ∙ ap (λ (ds : List Driver). stmts_assign (to_net ds n) (statements_of c.args.statements.now)) c.deref.ensures.value) c.assigned_on_some_path.ensures.are;
}
