use Rattle.std.proofs.Common.{arith, ◌≡◌, ◌≢◌, ◌<◌, map, flat_map, length, None, ap, sym, ◌∙◌}
use Rattle.vhdl_names_rules.specs.declared.fault.NameFault.TheVariants.{NoMemory}
use Rattle.vhdl_names_rules.specs.Declarations.{in_order}
use Rattle.vhdl_names_rules.specs.Files.{declaration}
use Rattle.vhdl_names_rules.specs.Visibility.{with_declared}
use Rattle.vhdl_tree.specs.View as tree
use Rattle.vhdl_names_units.specs.views.Declarations.{declaration_view, declarations_view}
use Rattle.vhdl_names_interfaces.specs.Views.{entities_view}
use Rattle.vhdl_names_declarations.specs.Entered.{entering}
use Rattle.vhdl_names_declarations.specs.Subtyping.{analysed_view}
use Rattle.vhdl_names_rules.specs.problems.Broken.{Tells}
use Rattle.vhdl_names_rules.specs.problems.Declarations as declarations_broken
use Rattle.vhdl_names_rules.specs.problems.Files as broken
use Rattle.vhdl_names_declarations.proofs.Breaking.{told_at, told_behind}
use Rattle.vhdl_names_rules.proofs.kept.Architectures.{declaration_kept}
use Rattle.vhdl_names_declarations.proofs.Listed.{in_region, left, begins, fails, goes, ends, counts_after, place_after}
use Rattle.vhdl_names_declarations.proofs.Regions.{names_apart}
use Rattle.vhdl_names_rules.proofs.Passing.{passed_on, told_by}
use Rattle.vhdl_names_interfaces.proofs.architecture.declarations.Goals as goal

pub loop-one-init : goal.loop-one-init
loop-one-init c = (
  begins (declaration (entities_view c.args.entities.now)) tree.declaration_view c.args.sight.now c.args.all.now (rw (← c.sight.view_is) (names_apart c.sight.inside.region.entries c.names_are_apart.ensures))
      ∙ ap (λ l. left (declaration (entities_view c.args.entities.now)) tree.declaration_view c.args.sight.now (flat_map declaration_view l) c.args.all.now 0) (sym c.new-done.ensures.items),
  rw (← c.sight.view_is) c.of-counts.ensures,
  c.requires,
  λ f h. h,
)

pub returns-in_err-next-clause-given : goal.returns-in_err-next-clause-given
returns-in_err-next-clause-given c =
    let lt : c.loop-one.one-index < length c.args.all.now = omega arith in
    let f : c.in_err-next.field-0.0 ≢ NoMemory → entering (in_order with_declared (declaration (entities_view c.args.entities.now))) c.args.sight.now (map tree.declaration_view c.args.all.now) ≡ None =
    λ n. c.loop-one.invariant.0
    ∙ fails (declaration (entities_view c.args.entities.now)) tree.declaration_view c.loop-one.sight (declarations_view c.loop-one.done) c.args.all.now c.loop-one.one-index c.one-item.result lt c.one-item.is (c.in_err-next.ensures.given n) in
    passed_on _ _ c.in_err-next.field-0.0 _ c.from_residual.result c.from_residual.ensures.1 (λ e p. p) f

pub of-counts-requires-in-loop-one-clause-place : goal.of-counts-requires-in-loop-one-clause-place
of-counts-requires-in-loop-one-clause-place c = place_after (declaration (entities_view c.args.entities.now)) c.loop-one.sight c.declaration.new.sight (tree.declaration_view c.one-item.result) (analysed_view c.in_ok-next.next) c.sight-in-loop-one.inside c.sight-in-loop-one-2.inside c.len-first.result c.in_ok-next.ensures.given c.sight-in-loop-one.view_is c.sight-in-loop-one-2.view_is c.len-first.ensures.len

pub of-counts-requires-in-loop-one-clause-before : goal.of-counts-requires-in-loop-one-clause-before
of-counts-requires-in-loop-one-clause-before c =
    counts_after (declaration (entities_view c.args.entities.now)) c.loop-one.counts c.loop-one.sight c.declaration.new.sight (tree.declaration_view c.one-item.result) (analysed_view c.in_ok-next.next) c.sight-in-loop-one.inside c.sight-in-loop-one-2.inside c.len-first.result c.in_ok-next.ensures.given c.sight-in-loop-one.view_is c.sight-in-loop-one-2.view_is c.len-first.ensures.len c.loop-one.invariant.1

pub loop-one-preserved : goal.loop-one-preserved
loop-one-preserved c =
    let lt : c.loop-one.one-index < length c.args.all.now = omega arith in (
      c.loop-one.invariant.0
          ∙ goes (declaration (entities_view c.args.entities.now)) tree.declaration_view c.loop-one.sight c.declaration.new.sight (declarations_view c.loop-one.done) (analysed_view c.in_ok-next.next) (declarations_view c.push_if_any.new.done)
          c.args.all.now c.loop-one.one-index c.one-item.result lt c.one-item.is c.in_ok-next.ensures.given
          c.in_ok-push_if_any.ensures,
      rw (← c.sight-in-loop-one-2.view_is) c.of-counts-in-loop-one.ensures,
      c.in_ok-next.ensures.outermost,
      λ f h. c.loop-one.invariant.3 f
          (told_behind in_region with_declared (declaration (entities_view c.args.entities.now)) (broken.declaration (entities_view c.args.entities.now)) (declaration_kept (entities_view c.args.entities.now)) tree.declaration_view c.loop-one.sight c.declaration.new.sight c.args.all.now c.loop-one.one-index c.one-item.result (analysed_view c.in_ok-next.next) f lt c.one-item.is c.in_ok-next.ensures.given h),
    )

pub returns-clause-outermost : goal.returns-clause-outermost
returns-clause-outermost c = c.loop-one.invariant.2

pub returns-clause-given : goal.returns-clause-given
returns-clause-given c =
    c.loop-one.invariant.0 ∙ ends (declaration (entities_view c.args.entities.now)) tree.declaration_view c.loop-one.sight (declarations_view c.loop-one.done) c.args.all.now c.loop-one.one-index (omega arith)

pub returns-in_err-next-clause-told : goal.returns-in_err-next-clause-told
returns-in_err-next-clause-told c =
    let lt : c.loop-one.one-index < length c.args.all.now = omega arith in
    let f : Tells (declarations_broken.in_order with_declared (declaration (entities_view c.args.entities.now)) (broken.declaration (entities_view c.args.entities.now)) c.args.sight.now (map tree.declaration_view c.args.all.now)) c.in_err-next.field-0.0 =
    c.loop-one.invariant.3 c.in_err-next.field-0.0 (told_at in_region with_declared (declaration (entities_view c.args.entities.now)) (broken.declaration (entities_view c.args.entities.now)) (declaration_kept (entities_view c.args.entities.now)) tree.declaration_view c.loop-one.sight c.args.all.now c.loop-one.one-index c.one-item.result c.in_err-next.field-0.0 lt c.one-item.is c.in_err-next.ensures.told) in
    told_by _ c.in_err-next.field-0.0 _ c.from_residual.result c.from_residual.ensures.1 (λ e p. p) f
