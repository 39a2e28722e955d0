use Rattle.std.proofs.Common.{sym, subst, ◌∙◌}
use Rattle.vhdl_tree.specs.View.{selected_view}
use Rattle.vhdl_names_rules.proofs.laws.Rules.{not_true}
use Rattle.vhdl_names_rules.specs.problems.Broken.{Tells}
use Rattle.vhdl_names_rules.specs.problems.Declarations.{package_used}
use Rattle.vhdl_names_packages.specs.Contexts.{context_view}
use Rattle.vhdl_names_packages.proofs.Clauses.{not_ieee, no_library, not_offered, not_false}
use Rattle.vhdl_names_packages.proofs.context.use_fault.Goals as goal

pub returns-then-not-is_ieee-clause-told : goal.returns-then-not-is_ieee-clause-told
returns-then-not-is_ieee-clause-told c = λ h.
    let b = context_view c.args.before in
    let s = selected_view c.args.selected.now in
    subst (Tells (package_used b s)) (sym c.at.ensures) (not_ieee b s (sym c.is_ieee.ensures ∙ c.if-not-is_ieee.true))

pub returns-then-not-before-clause-told : goal.returns-then-not-before-clause-told
returns-then-not-before-clause-told c = λ h.
    let b = context_view c.args.before in
    let s = selected_view c.args.selected.now in
    subst (Tells (package_used b s)) (sym c.at-then-not-before.ensures)
    (no_library b s (sym c.is_ieee.ensures ∙ c.if-not-is_ieee.false) (not_true c.args.before.has_ieee c.if-not-before.true))

pub returns-clause-told : goal.returns-clause-told
returns-clause-told c = λ h.
    let b = context_view c.args.before in
    let s = selected_view c.args.selected.now in
    subst (Tells (package_used b s)) (sym c.at-2.ensures)
    (not_offered b s (sym c.is_ieee.ensures ∙ c.if-not-is_ieee.false) (not_false c.args.before.has_ieee c.if-not-before.false) h)
