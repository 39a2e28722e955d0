use Rattle.std.proofs.Common.{refl, sym, ◌∙◌, subst}
use Rattle.std.specs.Prelude.{option_map, slice_get}
use Rattle.vhdl_tree.specs.View as tree
use Rattle.vhdl_names_rules.specs.declared.fault.NameProblem.TheVariants.{Undeclared, WrongKind}
use Rattle.vhdl_names_rules.specs.problems.Broken.{Tells, refused, lacking, where_given}
use Rattle.vhdl_names_rules.specs.problems.Instances.{architecture}
use Rattle.vhdl_names_rules.proofs.Telling.{lacking_kept, told_same, told_left, told_right, told_given, told_lacking}
use Rattle.vhdl_names_instances.specs.Table.{Seen, seen_view, seens_view}
use Rattle.vhdl_names_instances.proofs.instances.with_architecture.Goals as goal

pub returns-in-None-clause-told : goal.returns-in-None-clause-told
returns-in-None-clause-told c =
    let a = option_map tree.ident_view c.args.architecture.now in
    let o = slice_get (seens_view c.args.entities.now.formals) c.args.number in
    told_left (lacking Undeclared c.args.at o) (where_given o (λ (e : Seen). architecture a e.architecture)) c.at.result
    (told_lacking Undeclared c.args.at o c.at.result (λ m. sym c.in-None.ensures) (subst (Tells (refused Undeclared c.args.at)) (sym c.at.ensures) refl))

pub returns-else-is_architecture-clause-told : goal.returns-else-is_architecture-clause-told
returns-else-is_architecture-clause-told c =
    let a = option_map tree.ident_view c.args.architecture.now in
    let o = slice_get (seens_view c.args.entities.now.formals) c.args.number in
    let e = seen_view c.in-Some.formals.now in
    let f = c.at-else-is_architecture.result in
    told_right (lacking Undeclared c.args.at o) (where_given o (λ (e : Seen). architecture a e.architecture)) f (lacking_kept Undeclared c.args.at o e (sym c.in-Some.ensures))
    (told_given (λ (e : Seen). architecture a e.architecture) o e f (sym c.in-Some.ensures)
    (told_same (refused WrongKind c.architecture_place.result) (architecture a e.architecture) f
    (sym (c.architecture_place.ensures e.architecture (sym c.is_architecture.ensures ∙ c.if-is_architecture.false)))
    (subst (Tells (refused WrongKind c.architecture_place.result)) (sym c.at-else-is_architecture.ensures) refl)))
