use Rattle.std.proofs.Common.{sym, ap}
use Rattle.vhdl_tree.specs.View.{view}
use Rattle.vhdl_names_rules.specs.Expressions as expressions
use Rattle.vhdl_names_trees.specs.views.Expressions.{typed_view}
use Rattle.vhdl_names_rules.specs.problems.Broken.{where_given}
use Rattle.vhdl_names_rules.specs.problems.Expressions as broken
use Rattle.vhdl_names_rules.specs.problems.Places.{start}
use Rattle.vhdl_names_rules.specs.problems.Instances.{generic_actual, given_value}
use Rattle.vhdl_names_rules.proofs.Passing.{told_by}
use Rattle.vhdl_names_rules.proofs.Telling.{told_left}
use Rattle.vhdl_names_rules.proofs.kept.Expressions.{typed_kept}
use Rattle.vhdl_names_expressions.proofs.Breaking.{asked_told, told_as}
use Rattle.vhdl_names_instances.specs.steps.Generics.{formal}
use Rattle.vhdl_names_instances.proofs.Told.{told_along}
use Rattle.vhdl_names_instances.proofs.generics.generic_actual.Goals as goal

pub returns-in_err-operand-in-Elements-clause-told : goal.returns-in_err-operand-in-Elements-clause-told
returns-in_err-operand-in-Elements-clause-told c =
    let s = c.args.sight.now in
    let e = view c.args.e.now in
    let f = c.in_err-operand-in-Elements.field-0.0 in
    told_by _ f _ c.from_residual-in_err-operand-in-Elements.result c.from_residual-in_err-operand-in-Elements.ensures.1 (λ e p. p)
    (told_along (λ k. generic_actual s e (formal k)) _ c.args.kind (sym c.in-Elements.is) f
    (told_left (broken.typed s e) (where_given (expressions.typed s e) (given_value c.in-Elements.kind (start e))) f c.in_err-operand-in-Elements.ensures.told))

pub returns-in_ok-operand-in-Elements-clause-told : goal.returns-in_ok-operand-in-Elements-clause-told
returns-in_ok-operand-in-Elements-clause-told c =
    let s = c.args.sight.now in
    let e = view c.args.e.now in
    let x = typed_view c.in_ok-operand-in-Elements.operand in
    told_as _ _ _ (sym (ap (λ k. generic_actual s e (formal k)) c.in-Elements.is))
    (asked_told (broken.typed s e) (expressions.typed s e) (given_value c.in-Elements.kind (start e)) x c.as_actual.result
    (typed_kept e s x c.in_ok-operand-in-Elements.ensures.given) c.in_ok-operand-in-Elements.ensures.given
    (told_as _ _ _ (ap (λ at. given_value c.in-Elements.kind at x) c.start.ensures) c.as_actual.ensures.told))
