use Rattle.std.proofs.Common.{ap, sym}
use Rattle.vhdl_names_units.specs.views.Concurrent as analysed
use Rattle.vhdl_expand_rules.specs.Expansion.{process}
use Rattle.vhdl_expand_bodies.specs.Sites.{site_view}
use Rattle.vhdl_expand_tree.specs.Costs.{charged, process_costs}
use Rattle.vhdl_expand_tree.specs.Views.{budget_view}
use Rattle.vhdl_expand_tree.proofs.Alike.{alike_after}
use Rattle.vhdl_expand.proofs.Made.{process_alike}
use Rattle.vhdl_expand.proofs.Paying.{charges_alike}
use Rattle.vhdl_expand.proofs.processes.process.Goals as goal

pub returns : goal.returns
returns c =
    let p = analysed.process_view c.args.process.now in
    let n = budget_view c.args.budget.now in
    charges_alike _ _ _ _ _
    (alike_after (ap (λ s. charged n process_costs (process (record { site = s; prefix = c.args.prefix.now }) p)) (sym c.site-site.ensures.seen))
    (process_alike n (site_view c.site-site.result) c.args.prefix.now p)) c.parts_of-made.ensures
