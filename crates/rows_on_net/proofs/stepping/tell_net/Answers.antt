use Rattle.std.proofs.Common.{List, map, ap, ◌∙◌}
use Rattle.rtl_eval_code.specs.Codes.{CodeOf}
use Rattle.rows_on_net.proofs.Trees.{trees_run, codes_run}
use Rattle.rows_on_net.proofs.stepping.tell_net.Goals as goal

pub tell_bodies-requires : goal.tell_bodies-requires
tell_bodies-requires g c = trees_run c.args.net.now c.deref.result.now (c.deref.ensures.value ∙ c.in-Ok.ensures)

pub tell_bodies-requires-in-Ok-codes : goal.tell_bodies-requires-in-Ok-codes
tell_bodies-requires-in-Ok-codes g c =
    codes_run c.args.net.now c.deref-in-Ok-codes.result.now
    (ap (λ (cs : List CodeOf). map (λ (d : CodeOf). d.process) cs) c.deref-in-Ok-codes.ensures.value ∙ c.in-Ok-codes.ensures)
