use Rattle.std.proofs.Common.{refl, sym, subst}
use Rattle.vhdl_names_rules.specs.declared.fault.NameProblem.TheVariants.{Undeclared}
use Rattle.vhdl_names_rules.specs.problems.Broken.{Tells, refused}
use Rattle.vhdl_names_instances.proofs.Instanced.{unit_told, unseen_told, maps_told, of_each}
use Rattle.vhdl_tree.specs.View as tree
use Rattle.vhdl_names_rules.proofs.Along.{gives_along}
use Rattle.vhdl_names_rules.proofs.Passing.{told_by}
use Rattle.vhdl_names_units.specs.views.Concurrent.{instance_view}
use Rattle.vhdl_names_units.specs.Once.{names_view}
use Rattle.vhdl_names_instances.specs.Table.{seen_view, seens_view}
use Rattle.vhdl_names_instances.proofs.Instancing.{instance_seen}
use Rattle.vhdl_names_instances.proofs.instances.instance_in_turn.Goals as goal

pub returns-in-Some-clause-given : goal.returns-in-Some-clause-given
returns-in-Some-clause-given c =
    let e = c.args.entities.now in
    gives_along instance_view _ _ _
    (instance_seen (names_view e.names) (seens_view e.formals) c.args.sight.now (tree.ident_view c.args.label.now)
    (tree.instance_view c.args.instance.now) c.in_ok-unit.unit (seen_view c.in-Some.formals.now) c.in_ok-unit.ensures.given c.in-Some.ensures)
    c.with_formals.ensures.given

pub returns-in_err-unit-clause-told : goal.returns-in_err-unit-clause-told
returns-in_err-unit-clause-told c = λ es are.
    told_by _ _ _ c.from_residual.result c.from_residual.ensures.1 (λ e p. p)
    (unit_told c.args.entities.now es are c.args.sight.now (tree.ident_view c.args.label.now) (tree.instance_view c.args.instance.now) c.in_err-unit.field-0.0 (c.in_err-unit.ensures.told es are))

pub returns-in-None-clause-told : goal.returns-in-None-clause-told
returns-in-None-clause-told c = λ es are.
    unseen_told c.args.entities.now es are c.args.sight.now (tree.ident_view c.args.label.now) (tree.instance_view c.args.instance.now) c.at.result c.in_ok-unit.unit c.in_ok-unit.ensures.given (sym c.in-None.ensures) (subst (Tells (refused Undeclared c.args.label.now.at)) (sym c.at.ensures) refl)

pub returns-in-Some-clause-told : goal.returns-in-Some-clause-told
returns-in-Some-clause-told c = λ es are.
    of_each _ c.with_formals.result
    (λ f told. maps_told c.args.entities.now es are c.args.sight.now (tree.ident_view c.args.label.now) (tree.instance_view c.args.instance.now) f c.in_ok-unit.unit (seen_view c.in-Some.formals.now) c.in_ok-unit.ensures.given (sym c.in-Some.ensures) told)
    c.with_formals.ensures.told
