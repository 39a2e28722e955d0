use Rattle.std.proofs.Common.{arith, ◌≡◌, true, false, sym, subst, ◌∙◌}
use Rattle.std.proofs.lemmas.Grind.{common_steps}
use Rattle.std.specs.Prelude.{is_none, is_some}
use Rattle.vhdl_tree.specs.View as tree
use Rattle.vhdl_names_rules.specs.declared.fault.NameFault.TheVariants.{At}
use Rattle.vhdl_names_rules.specs.declared.fault.NameProblem.TheVariants.{LeftOut}
use Rattle.vhdl_names_rules.specs.problems.Broken.{Tells, unless, of_any}
use Rattle.vhdl_names_rules.specs.problems.Expressions as expressions_broken
use Rattle.vhdl_names_rules.specs.problems.Subtypes as subtypes_broken
use Rattle.vhdl_names_rules.proofs.Passing.{told_second}
use Rattle.vhdl_names_rules.proofs.Telling.{told_left}
use Rattle.vhdl_names_declarations.specs.Typed as typed
use Rattle.vhdl_names_declarations.proofs.Constancy.{constrained, unconstrained}
use Rattle.vhdl_names_declarations.proofs.Counting.{some_seen}
use Rattle.vhdl_names_declarations.proofs.generics.booleans.Goals as goal

pub returns-then-is_some-clause-told : goal.returns-then-is_some-clause-told
returns-then-is_some-clause-told c =
    let g = tree.generic_view c.args.generic.now in
    let there : is_some c.args.generic.now.subtype.constraint ≡ true = grind (arith, common_steps) in
    subst (Tells (typed.booleans_break c.args.sight.now g)) (sym c.at.ensures)
    (told_left (unless LeftOut g.subtype.mark.at (is_none g.subtype.constraint)) (of_any (expressions_broken.static_condition c.args.sight.now) g.default) (At LeftOut g.subtype.mark.at)
    (constrained g.subtype.mark g.subtype.constraint (sym (some_seen tree.constraint_view c.args.generic.now.subtype.constraint) ∙ there)))

pub returns-in_err-default-clause-told : goal.returns-in_err-default-clause-told
returns-in_err-default-clause-told c =
    let g = tree.generic_view c.args.generic.now in
    let gone : is_some c.args.generic.now.subtype.constraint ≡ false = grind (arith, common_steps) in
    told_second (subtypes_broken.boolean_subtype g.subtype) (of_any (expressions_broken.static_condition c.args.sight.now) g.default) c.in_err-default.field-0.0 _ c.from_residual.result c.from_residual.ensures.1 (λ e p. p)
    (unconstrained g.subtype (sym (some_seen tree.constraint_view c.args.generic.now.subtype.constraint) ∙ gone)) c.in_err-default.ensures.told
