use Rattle.std.proofs.Common.{◌∷◌, map}
use Rattle.std.specs.Prelude.{◌≢◌}
use Rattle.vhdl_names_rules.specs.units.Bytes.{statements_bytes}
use Rattle.vhdl_names_units.specs.views.Sequential as analysed
use Rattle.vhdl_expand_rules.specs.declared.fault.ElabFault.TheVariants.{NoMemory}
use Rattle.vhdl_expand_bodies.specs.Sites.{site_view}
use Rattle.vhdl_expand_rules.specs.Elab.{fault_told, MayTell}
use Rattle.vhdl_expand_tree.specs.Views.{budget_view}
use Rattle.vhdl_expand.specs.Processes.{turns_paid}
use Rattle.vhdl_expand.specs.Unrolled.{statements_costs}
use Rattle.vhdl_expand.proofs.Made.{not_paid}
use Rattle.vhdl_expand.proofs.Passing.{passed_told}
use Rattle.vhdl_expand.proofs.processes.charge_turns.Goals as goal

pub returns-in_err-charge_body : goal.returns-in_err-charge_body
returns-in_err-charge_body c =
    let body = analysed.statements_of (map analysed.statement_view c.args.list.now) in
    let costs = statements_costs (site_view c.args.site.now) body in
    let stopped : c.in_err-charge_body.field-0.0 ≢ NoMemory → MayTell (c.args.at ∷ statements_bytes body) (turns_paid (budget_view c.args.budget.now) costs) (fault_told c.in_err-charge_body.field-0.0) =
    λ n. not_paid (budget_view c.args.budget.now) costs (c.in_err-charge_body.ensures n) in
    passed_told _ _ c.in_err-charge_body.field-0.0 _ c.from_residual.result c.from_residual.ensures.1 (λ e p. p) stopped
