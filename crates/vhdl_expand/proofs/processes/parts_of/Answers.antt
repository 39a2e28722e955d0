use Rattle.std.proofs.Common.{List, map, ap, ◌∙◌, sym}
use Rattle.std.specs.Prelude.{flat_map}
use Rattle.vhdl_names_rules.specs.units.Bytes.{process_bytes}
use Rattle.vhdl_names_units.specs.declared.declaration.Declaration.{Declaration}
use Rattle.vhdl_names_units.specs.views.Concurrent as analysed
use Rattle.vhdl_names_units.specs.views.Declarations.{declaration_view}
use Rattle.vhdl_expand_rules.specs.Elab.{Elab}
use Rattle.vhdl_expand_rules.specs.Site.{Site}
use Rattle.vhdl_expand_rules.specs.Declarations.{ProcessVariables, no_variables, process_declarations}
use Rattle.vhdl_expand_rules.proofs.Steps.{given}
use Rattle.vhdl_expand_bodies.specs.Sites.{site_view}
use Rattle.vhdl_expand_tree.specs.declared.tree.Variable.{Variable}
use Rattle.vhdl_expand_tree.specs.Costs.{spent, variables_costs}
use Rattle.vhdl_expand_tree.specs.Views.{budget_view, variable_view}
use Rattle.vhdl_expand_tree.proofs.Alike.{tells}
use Rattle.vhdl_expand.specs.Processes.{doing_steps}
use Rattle.vhdl_expand.proofs.Made.{process_made, not_started, not_declared}
use Rattle.vhdl_expand.proofs.Passing.{passed_told}
use Rattle.vhdl_expand.proofs.Spending.{told_where}
use Rattle.vhdl_expand.proofs.Standing.{process_starts, declared_places}
use Rattle.vhdl_expand.proofs.Telling.{told_there}
use Rattle.vhdl_expand.proofs.processes.parts_of.Goals as goal

-- what the call gives of a list
abbrev declared_in : Site → List Declaration → Elab ProcessVariables
declared_in at ds = process_declarations (no_variables at) (flat_map declaration_view ds)

pub returns-in_err-charge_process : goal.returns-in_err-charge_process
returns-in_err-charge_process c =
    let p = analysed.process_view c.args.process.now in
    passed_told _ _ c.in_err-charge_process.field-0.0 _ c.from_residual.result c.from_residual.ensures.1 (λ e p. p)
    (λ _. not_started _ _ _ _ (tells (λ _. told_where (process_bytes p) p.at c.in_err-charge_process.field-0.0 c.in_err-charge_process.ensures.fault (process_starts p)) c.in_err-charge_process.ensures.spent))

pub returns-in_err-declared : goal.returns-in_err-declared
returns-in_err-declared c =
    let p = analysed.process_view c.args.process.now in
    let at = site_view c.args.site.now in
    passed_told _ _ c.in_err-declared.field-0.0 _ c.from_residual-in_err-declared.result c.from_residual-in_err-declared.ensures.1 (λ e p. p)
    (λ n. not_declared _ _ _ _ _ c.in_ok-charge_process.ensures.spent (told_there _ (declared_places p (no_variables at)) (ap (declared_in at) (sym c.deref.ensures.value) ∙ c.in_err-declared.ensures n)))

pub returns : goal.returns
returns c =
    let p = analysed.process_view c.args.process.now in
    let at = site_view c.args.site.now in
    let n = budget_view c.charge_process.new.self in
    let held = ap (λ (vs : List Variable). spent p.at n (variables_costs (map variable_view vs))) (sym c.deref-2.ensures.value) ∙ c.in_ok-charge_variables.ensures in
    let does = ap (λ s. doing_steps (budget_view c.charge_variables.new.budget) s p) (sym c.within-inner.ensures.seen) ∙ c.in_ok-does.ensures in
    process_made (budget_view c.args.budget.now) at c.args.prefix.now p _ _ _ _ c.in_ok-charge_process.ensures.spent (ap (declared_in at) (sym c.deref.ensures.value) ∙ c.in_ok-declared.ensures) held does
    ∙ ap (λ q. given (q, budget_view c.doing-does.new.budget)) (sym c.in_ok-with_labels.ensures)
