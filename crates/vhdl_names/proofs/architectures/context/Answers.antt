use Rattle.std.proofs.Common.{true, map, ap, sym, ◌∙◌}
use Rattle.vhdl_tree.specs.View as view
use Rattle.vhdl_names_rules.specs.Packages as packages
use Rattle.vhdl_names_rules.specs.Packages.{Context, no_context}
use Rattle.vhdl_names_rules.specs.problems.Declarations.{context}
use Rattle.vhdl_names_rules.proofs.Telling.{told_same}
use Rattle.vhdl_names_rules.proofs.kept.Declarations.{context_kept}
use Rattle.vhdl_names.proofs.Finding.{passed_told}
use Rattle.vhdl_names.proofs.architectures.context.Goals as goal

pub returns-in_err-_context : goal.returns-in_err-_context
returns-in_err-_context c =
    let items = map view.context_view c.args.items.now in
    let f = c.in_err-_context.field-0.0 in
    passed_told _ f _ c.from_residual.result c.from_residual.ensures.1 (λ e p. p)
    (told_same _ _ f (ap (λ (k : Context). context (record k { has_ieee = true }) items) c.none.ensures) c.in_err-_context.ensures.told)

pub returns : goal.returns
returns c =
    let items = map view.context_view c.args.items.now in
    context_kept items (record (no_context c.args.language) { has_ieee = true }) _
    (ap (λ (k : Context). packages.context (record k { has_ieee = true }) items) (sym c.none.ensures) ∙ c.in_ok-_context.ensures.given)
