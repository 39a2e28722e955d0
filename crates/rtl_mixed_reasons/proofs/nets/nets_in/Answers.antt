use Rattle.std.proofs.Common.{List, ap, ◌∙◌}
use Rattle.std.proofs.lemmas.Result.{IfOk-weaker}
use Rattle.rtl_net.specs.declared.body.Statement.{Statement}
use Rattle.rtl_net.specs.Bodies.{statements_of}
use Rattle.rtl_mixed_reasons.specs.Reasons.{assigns}
use Rattle.rtl_mixed_reasons.proofs.nets.nets_in.Goals as goal

pub returns : goal.returns
returns c = record {
  rise = c.nets_of.ensures.rise;
  are = IfOk-weaker c.nets_of.result _ _
      (λ nets found n. found n ∙ ap (λ (xs : List Statement). assigns c.args.process.now (statements_of xs) n) c.from_ref.ensures.value) c.nets_of.ensures.are;
}
