use Rattle.std.proofs.Common.{arith, ◌≡◌, ◌<◌, true, false, map, length, refl, sym, ap, subst, ◌∙◌}
use Rattle.vhdl_tree.specs.View.{ident_view}
use Rattle.vhdl_names_rules.specs.declared.fault.NameFault.TheVariants.{At}
use Rattle.vhdl_names_rules.specs.declared.fault.NameProblem.TheVariants.{LeftOut}
use Rattle.vhdl_names_rules.specs.Packages.{is_library}
use Rattle.vhdl_names_rules.specs.problems.Broken.{Tells, any_of, unless}
use Rattle.vhdl_names_rules.specs.problems.Declarations.{library_named}
use Rattle.vhdl_names_rules.proofs.Telling.{unless_kept}
use Rattle.vhdl_names_packages.proofs.Clauses.{one_told, one_behind, one_passes}
use Rattle.vhdl_names_packages.proofs.context.libraries.Goals as goal

pub loop-name-init : goal.loop-name-init
loop-name-init c = (refl, refl)

pub loop-name-preserved : goal.loop-name-preserved
loop-name-preserved c =
    let ns = c.args.names.now in
    let i = c.loop-name.name-index in
    let n = c.name-item.result in
    let lt : c.loop-name.name-index < length c.args.names.now = omega arith in
    let is : is_library (ident_view c.name-item.result) ≡ true = sym c.is_library.ensures ∙ c.if-not-is_library.false in (
      c.loop-name.invariant.0 ∙ one_passes library_named ident_view ns i n lt c.name-item.is is_library is,
      c.loop-name.invariant.1 ∙ one_behind library_named ident_view ns i n lt c.name-item.is (unless_kept LeftOut n.at (is_library (ident_view n)) is),
    )

pub returns-then-not-is_library-clause-told : goal.returns-then-not-is_library-clause-told
returns-then-not-is_library-clause-told c =
    let lt : c.loop-name.name-index < length c.args.names.now = omega arith in
    let n = c.name-item.result in
    let is : is_library (ident_view c.name-item.result) ≡ false = sym c.is_library.ensures ∙ c.if-not-is_library.true in
    subst (Tells (any_of library_named (map ident_view c.args.names.now))) (sym c.at.ensures)
    (one_told library_named ident_view c.args.names.now c.loop-name.name-index n lt c.name-item.is (At LeftOut n.at) c.loop-name.invariant.1 (ap (unless LeftOut n.at) is))
