use Rattle.std.proofs.Common.{ℕ, ◌∷◌, List, map, ap, ◌∙◌, sym}
use Rattle.vhdl_names_rules.specs.units.Bytes.{statements_bytes, process_bytes}
use Rattle.vhdl_names_units.specs.declared.sequential.Statement.{Statement}
use Rattle.vhdl_names_units.specs.views.Concurrent as analysed
use Rattle.vhdl_names_units.specs.views.Sequential as bodies
use Rattle.vhdl_expand_rules.specs.Elab.{Elab}
use Rattle.vhdl_expand_rules.specs.Site.{Site}
use Rattle.vhdl_expand_rules.specs.Statements.{statements}
use Rattle.vhdl_elab_rules.specs.Limits.{Counts}
use Rattle.vhdl_expand_bodies.specs.Sites.{site_view}
use Rattle.vhdl_expand_processes.specs.Driven.{drives_of}
use Rattle.vhdl_expand_tree.specs.Views.{budget_view}
use Rattle.vhdl_expand_tree.proofs.Alike.{tells_same, tells_among}
use Rattle.vhdl_expand.specs.Processes.{turns_paid}
use Rattle.vhdl_expand.specs.Unrolled.{statements_costs}
use Rattle.vhdl_expand.proofs.Among.{same_among, then_among}
use Rattle.vhdl_expand.proofs.Made.{not_driven, not_resumed, not_counted, not_expanded}
use Rattle.vhdl_expand.proofs.Passing.{passed_told}
use Rattle.vhdl_expand.proofs.Standing.{body_among, body_places}
use Rattle.vhdl_expand.proofs.Telling.{told_there, drives_places, sensitivity_places}
use Rattle.vhdl_expand.proofs.processes.doing.Goals as goal

-- what the calls give of lists
abbrev driven_in : Site → List Statement → Elab (List ℕ)
driven_in at ss = drives_of at (bodies.statements_of (map bodies.statement_view ss))

abbrev paid_in : Site → Counts → List Statement → Elab (ℕ × Counts)
paid_in at left ss = turns_paid left (statements_costs at (bodies.statements_of (map bodies.statement_view ss)))

pub returns-in_err-drives : goal.returns-in_err-drives
returns-in_err-drives c =
    let p = analysed.process_view c.args.process.now in
    let at = site_view c.args.site.now in
    passed_told _ _ c.in_err-drives.field-0.0 _ c.from_residual.result c.from_residual.ensures.1 (λ e p. p)
    (λ n. not_driven (budget_view c.args.budget.now) at p (told_there _ (drives_places (process_bytes p) at p.body) (ap (driven_in at) (sym c.deref.ensures.value) ∙ c.in_err-drives.ensures.given n)))

pub returns-in_err-sensitivity : goal.returns-in_err-sensitivity
returns-in_err-sensitivity c =
    let p = analysed.process_view c.args.process.now in
    let at = site_view c.args.site.now in
    passed_told _ _ c.in_err-sensitivity.field-0.0 _ c.from_residual-in_err-sensitivity.result c.from_residual-in_err-sensitivity.ensures.1 (λ e p. p)
    (λ n. not_resumed (budget_view c.args.budget.now) at p _ (ap (driven_in at) (sym c.deref.ensures.value) ∙ c.in_ok-drives.ensures.given)
    (told_there _ (sensitivity_places (process_bytes p) at p.sensitivity p.body) (c.in_err-sensitivity.ensures n)))

pub returns-in_err-turns : goal.returns-in_err-turns
returns-in_err-turns c =
    let p = analysed.process_view c.args.process.now in
    let at = site_view c.args.site.now in
    let counted = λ (ss : List Statement). p.at ∷ statements_bytes (bodies.statements_of (map bodies.statement_view ss)) in
    let there = then_among (counted c.deref-2.result.now) (p.at ∷ statements_bytes p.body) (process_bytes p) (same_among counted _ _ c.deref-2.ensures.value) (body_among p) in
    passed_told _ _ c.in_err-turns.field-0.0 _ c.from_residual-in_err-turns.result c.from_residual-in_err-turns.ensures.1 (λ e p. p)
    (λ n. not_counted (budget_view c.args.budget.now) at p _ (ap (driven_in at) (sym c.deref.ensures.value) ∙ c.in_ok-drives.ensures.given) _ c.in_ok-sensitivity.ensures
    (tells_among there (tells_same (ap (paid_in at (budget_view c.args.budget.now)) (sym c.deref-2.ensures.value)) (c.in_err-turns.ensures n))))

pub returns-in_err-body : goal.returns-in_err-body
returns-in_err-body c =
    let p = analysed.process_view c.args.process.now in
    let at = site_view c.args.site.now in
    let body = ap (λ ss. statements at (bodies.statements_of (map bodies.statement_view ss))) (sym c.deref-3.ensures.value) in
    passed_told _ _ c.in_err-body.field-0.0 _ c.from_residual-in_err-body.result c.from_residual-in_err-body.ensures.1 (λ e p. p)
    (λ n. not_expanded (budget_view c.args.budget.now) at p _ (ap (driven_in at) (sym c.deref.ensures.value) ∙ c.in_ok-drives.ensures.given) _ c.in_ok-sensitivity.ensures _
    (ap (paid_in at (budget_view c.args.budget.now)) (sym c.deref-2.ensures.value) ∙ c.in_ok-turns.ensures) (told_there _ (body_places p at) (body ∙ c.in_err-body.ensures n)))
