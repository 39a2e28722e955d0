use Rattle.std.proofs.Common.{map, ap, sym, ◌∙◌}
use Rattle.vhdl_tree.specs.Tree as t
use Rattle.vhdl_tree.specs.View as view
use Rattle.vhdl_names_rules.specs.Rules.{◌>>=◌}
use Rattle.vhdl_names_rules.specs.Visibility.{with_declared}
use Rattle.vhdl_names_rules.specs.Declarations.{in_order}
use Rattle.vhdl_names_rules.specs.Files as rules
use Rattle.vhdl_names_units.specs.views.Declarations.{declarations_view}
use Rattle.vhdl_names_units.specs.views.Units.{architecture_view}
use Rattle.vhdl_names_declarations.specs.Entered.{entering}
use Rattle.vhdl_names_interfaces.specs.Views.{entities_view}
use Rattle.vhdl_names_rules.specs.problems.Broken.{◌▸◌}
use Rattle.vhdl_names_rules.specs.problems.Declarations.{in_order as in_turn, end_name}
use Rattle.vhdl_names_rules.specs.problems.Files as broken
use Rattle.vhdl_names_rules.proofs.Telling.{told_same, told_on}
use Rattle.vhdl_names_rules.proofs.Passing.{told_by}
use Rattle.vhdl_names.specs.steps.Architectures as steps
use Rattle.vhdl_names.proofs.Parts.{declarations_told, at_body}
use Rattle.vhdl_names.proofs.Finding.{ok_along}
use Rattle.vhdl_names.proofs.bodies.within.Goals as goal

pub declarations-requires : goal.declarations-requires
declarations-requires c = c.requires.outermost

pub returns-in_err-declarations-clause-told : goal.returns-in_err-declarations-clause-told
returns-in_err-declarations-clause-told c = λ e items h.
    let es = entities_view c.args.given.now.entities.now in
    let a = view.architecture_view c.args.tree.now in
    let s = c.args.sight.now in
    let f = c.in_err-declarations.field-0.0 in
    told_by (broken.architecture es e items a) f _ c.from_residual.result c.from_residual.ensures.1 (λ e p. p)
    (declarations_told es e items a f s h
    (told_same _ (in_turn with_declared (rules.declaration es) (broken.declaration es) s a.declarations) f
    (ap (λ l. in_turn with_declared (rules.declaration es) (broken.declaration es) s (map view.declaration_view l)) c.deref.ensures.value) c.in_err-declarations.ensures.told))

pub returns-clause-given : goal.returns-clause-given
returns-clause-given c =
    let es = entities_view c.args.given.now.entities.now in
    let s = c.args.sight.now in
    let a = view.architecture_view c.args.tree.now in
    ok_along architecture_view _ _ c.body.result
    (ap (λ o. o >>= λ w. steps.body es w.0 w.1 a)
    (ap (λ l. entering (in_order with_declared (rules.declaration es)) s (map view.declaration_view l)) (sym c.deref.ensures.value) ∙ c.in_ok-declarations.ensures.given))
    (c.body.ensures.given es c.requires.table)

pub returns-clause-told : goal.returns-clause-told
returns-clause-told c = λ e items h.
    let es = entities_view c.args.given.now.entities.now in
    let a = view.architecture_view c.args.tree.now in
    let s = c.args.sight.now in
    let w = c.declarations.new.sight in
    let ds = declarations_view c.in_ok-declarations.declarations in
    let entered = ap (λ l. entering (in_order with_declared (rules.declaration es)) s (map view.declaration_view l)) (sym c.deref.ensures.value) ∙ c.in_ok-declarations.ensures.given in
    let whole = broken.body es w (t.concurrents_of a.statements) ▸ end_name a.name a.end_name in
    told_on whole (broken.architecture es e items a) c.body.result (λ f t. told_same whole (broken.architecture es e items a) f (sym (at_body es e items a s w ds h entered)) t)
    (c.body.ensures.told es c.requires.table)
