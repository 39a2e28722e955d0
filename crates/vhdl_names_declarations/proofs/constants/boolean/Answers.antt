use Rattle.std.proofs.Common.{arith, ◌≡◌, true, false, sym, subst, ◌∙◌}
use Rattle.std.proofs.lemmas.Grind.{common_steps}
use Rattle.std.specs.Prelude.{is_none, is_some}
use Rattle.vhdl_tree.specs.View as tree
use Rattle.vhdl_names_rules.specs.declared.fault.NameFault.TheVariants.{At}
use Rattle.vhdl_names_rules.specs.declared.fault.NameProblem.TheVariants.{LeftOut}
use Rattle.vhdl_names_rules.specs.problems.Broken.{Tells, unless}
use Rattle.vhdl_names_rules.specs.problems.Declarations as broken
use Rattle.vhdl_names_rules.specs.problems.Declarations.{of_single}
use Rattle.vhdl_names_rules.specs.problems.Expressions as expressions_broken
use Rattle.vhdl_names_rules.specs.problems.Subtypes as subtypes_broken
use Rattle.vhdl_names_rules.proofs.Passing.{told_second}
use Rattle.vhdl_names_rules.proofs.Telling.{told_same, told_left}
use Rattle.vhdl_names_declarations.proofs.Constancy.{constrained, unconstrained, of_single_is}
use Rattle.vhdl_names_declarations.proofs.Counting.{some_seen}
use Rattle.vhdl_names_declarations.proofs.constants.boolean.Goals as goal

pub returns-then-is_some-clause-told : goal.returns-then-is_some-clause-told
returns-then-is_some-clause-told c =
    let d = tree.constants_view c.args.declaration.now in
    let there : is_some c.args.declaration.now.subtype.constraint ≡ true = grind (arith, common_steps) in
    subst (Tells (broken.boolean_constants c.args.sight.now d)) (sym c.at.ensures)
    (told_left (unless LeftOut d.subtype.mark.at (is_none d.subtype.constraint)) (of_single (expressions_broken.static_condition c.args.sight.now) d.value) (At LeftOut d.subtype.mark.at)
    (constrained d.subtype.mark d.subtype.constraint (sym (some_seen tree.constraint_view c.args.declaration.now.subtype.constraint) ∙ there)))

pub returns-in_err-e-clause-told : goal.returns-in_err-e-clause-told
returns-in_err-e-clause-told c =
    let s = c.args.sight.now in
    let d = tree.constants_view c.args.declaration.now in
    let gone : is_some c.args.declaration.now.subtype.constraint ≡ false = grind (arith, common_steps) in
    told_second (subtypes_broken.boolean_subtype d.subtype) (of_single (expressions_broken.static_condition s) d.value) c.in_err-e.field-0.0 _ c.from_residual.result c.from_residual.ensures.1 (λ e p. p)
    (unconstrained d.subtype (sym (some_seen tree.constraint_view c.args.declaration.now.subtype.constraint) ∙ gone))
    (c.in_err-e.ensures.told (expressions_broken.static_condition s))

pub returns-in_err-value-clause-told : goal.returns-in_err-value-clause-told
returns-in_err-value-clause-told c =
    let s = c.args.sight.now in
    let d = tree.constants_view c.args.declaration.now in
    let gone : is_some c.args.declaration.now.subtype.constraint ≡ false = grind (arith, common_steps) in
    told_second (subtypes_broken.boolean_subtype d.subtype) (of_single (expressions_broken.static_condition s) d.value) c.in_err-value.field-0.0 _ c.from_residual-in_err-value.result c.from_residual-in_err-value.ensures.1 (λ e p. p)
    (unconstrained d.subtype (sym (some_seen tree.constraint_view c.args.declaration.now.subtype.constraint) ∙ gone))
    (told_same _ _ c.in_err-value.field-0.0 (of_single_is (expressions_broken.static_condition s) d.value (tree.view c.in_ok-e.e.now) c.in_ok-e.ensures.given) c.in_err-value.ensures.told)
