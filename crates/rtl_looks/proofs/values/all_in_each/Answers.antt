use Rattle.std.proofs.Common.{List, replicate, Option, sym, subst, ◌++◌}
use Rattle.std.proofs.lemmas.Result.{IfOk-weaker}
use Rattle.rtl_model.specs.bodies.Looks.{whole}
use Rattle.rtl_looks.specs.declared.hubs.Look.{Look}
use Rattle.rtl_looks.specs.Evaluating.{Combines}
use Rattle.rtl_looks.proofs.Operands.{all_in_each}
use Rattle.rtl_looks.proofs.values.all_in_each.Goals as goal

pub returns : goal.returns
returns c =
    IfOk-weaker c.repeated.result _ _
    (λ v h. subst (λ (xs : List (Option Look)). Combines (λ ls rs. replicate c.args.many (whole ls ++ whole rs)) c.args.hubs.now.hubs.items c.join.new.self.hubs.items c.args.left.now c.args.right.now xs) (sym h)
    (all_in_each c.args.many c.in_ok-left.ensures c.in_ok-right.ensures c.in_ok-both.ensures)) c.repeated.ensures
