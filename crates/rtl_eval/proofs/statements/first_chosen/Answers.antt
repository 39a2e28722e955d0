use Rattle.std.proofs.Common.{List, sym, ap, ◌∙◌, arith}
use Rattle.std.specs.List.{list_any}
use Rattle.rtl_model.specs.bodies.Tests.{same}
use Rattle.rtl_net.specs.declared.body.Choice.{Choice}
use Rattle.rtl_net.specs.Bodies.{choice_view}
use Rattle.rtl_eval.specs.Evaluations.{codes_of}
use Rattle.rtl_eval.specs.Running.{chosen_by}
use Rattle.rtl_eval.proofs.Found.{none_more}
use Rattle.rtl_eval.proofs.statements.first_chosen.Goals as goal

pub loop-at-preserved : goal.loop-at-preserved
loop-at-preserved c =
    let value = codes_of c.args.value.now in
    none_more (chosen_by value) c.args.alternatives.now c.loop-at.at c.index-alternatives-at.result (omega (arith, c.loop-at-test.true))
    (sym (c.is_chosen.ensures ∙ ap (λ (cs : List Choice). list_any (λ choice. same value (choice_view choice)) cs) c.deref.ensures.value) ∙ c.if-is_chosen.false) c.loop-at.invariant
