use Rattle.std.proofs.Common.{List, Option, ap, ◌∙◌}
use Rattle.rtl_looks.specs.declared.hubs.Look.{Look}
use Rattle.rtl_looks.specs.Denoting.{look_at}
use Rattle.rtl_looks.proofs.Shifting.{look_push}
use Rattle.rtl_looks.proofs.table.Table.set.Goals as goal

pub loop-self-preserved : goal.loop-self-preserved
loop-self-preserved c = λ k. ap (λ (xs : List (Option Look)). look_at xs k) c.in_ok-push.ensures.items ∙ (look_push c.loop-self.self.looks.items k ∙ c.loop-self.invariant k)
