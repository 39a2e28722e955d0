use Rattle.std.proofs.lemmas.Result.{on_ok_weaker}
use Rattle.rtl_looks.proofs.Walking.{finished_both}
use Rattle.rtl_looks.proofs.ends.Ends.finish.Goals as goal

pub returns : goal.returns
returns c = on_ok_weaker c.finish_each-2.result (λ h. finished_both c.in_ok-finish_each.ensures h) c.finish_each-2.ensures
