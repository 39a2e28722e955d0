use Rattle.std.proofs.Common.{arith, ◌≡◌, ◌≢◌, ◌<◌, map, flat_map, length, None, refl, ap, sym, ◌∙◌}
use Rattle.vhdl_names_rules.specs.declared.fault.NameFault.TheVariants.{NoMemory}
use Rattle.vhdl_names_rules.specs.Declarations.{in_order, port}
use Rattle.vhdl_names_rules.specs.Visibility.{Sight, with_declared}
use Rattle.vhdl_tree.specs.View.{port_view}
use Rattle.vhdl_names_units.specs.views.Declarations.{ports_view, all_ports_view}
use Rattle.vhdl_names_declarations.specs.Entered.{entering}
use Rattle.vhdl_names_rules.specs.problems.Broken.{Tells}
use Rattle.vhdl_names_rules.specs.problems.Declarations as broken
use Rattle.vhdl_names_rules.specs.problems.Interfaces as interfaces_broken
use Rattle.vhdl_names_declarations.proofs.Breaking.{told_at, told_behind}
use Rattle.vhdl_names_rules.proofs.kept.Declarations.{port_kept}
use Rattle.vhdl_names_declarations.proofs.Listed.{in_region, left, begins, fails, goes, ends, counts_after, place_after, all_more}
use Rattle.vhdl_names_declarations.proofs.Regions.{names_apart}
use Rattle.vhdl_names_rules.proofs.Passing.{passed_on, told_by}
use Rattle.vhdl_names_declarations.proofs.ports.narrow_ports.Goals as goal

pub loop-one-init : goal.loop-one-init
loop-one-init c = (
  begins port port_view c.args.sight.now c.args.all.now (rw (← c.sight.view_is) (names_apart c.sight.inside.region.entries c.names_are_apart.ensures))
      ∙ ap (λ l. left port port_view c.args.sight.now (flat_map ports_view l) c.args.all.now 0) (sym c.new-done.ensures.items),
  rw (← c.sight.view_is) c.of-counts.ensures,
  refl,
  λ f h. h,
)

pub returns-in_err-next-clause-given : goal.returns-in_err-next-clause-given
returns-in_err-next-clause-given c =
    let lt : c.loop-one.one-index < length c.args.all.now = omega arith in
    let f : c.in_err-next.field-0.0 ≢ NoMemory → entering (in_order with_declared port) c.args.sight.now (map port_view c.args.all.now) ≡ None =
    λ n. c.loop-one.invariant.0
    ∙ fails port port_view c.loop-one.sight (all_ports_view c.loop-one.done) c.args.all.now c.loop-one.one-index c.one-item.result lt c.one-item.is (c.in_err-next.ensures.given n) in
    passed_on _ _ c.in_err-next.field-0.0 _ c.from_residual.result c.from_residual.ensures.1 (λ e p. p) f

pub of-counts-requires-in-loop-one-clause-place : goal.of-counts-requires-in-loop-one-clause-place
of-counts-requires-in-loop-one-clause-place c = place_after port c.loop-one.sight c.narrow_port.new.sight (port_view c.one-item.result) (ports_view c.in_ok-next.next) c.sight-in-loop-one.inside c.sight-in-loop-one-2.inside c.len-first.result c.in_ok-next.ensures.given c.sight-in-loop-one.view_is c.sight-in-loop-one-2.view_is c.len-first.ensures.len

pub of-counts-requires-in-loop-one-clause-before : goal.of-counts-requires-in-loop-one-clause-before
of-counts-requires-in-loop-one-clause-before c =
    counts_after port c.loop-one.counts c.loop-one.sight c.narrow_port.new.sight (port_view c.one-item.result) (ports_view c.in_ok-next.next) c.sight-in-loop-one.inside c.sight-in-loop-one-2.inside c.len-first.result c.in_ok-next.ensures.given c.sight-in-loop-one.view_is c.sight-in-loop-one-2.view_is c.len-first.ensures.len c.loop-one.invariant.1

pub loop-one-preserved : goal.loop-one-preserved
loop-one-preserved c =
    let lt : c.loop-one.one-index < length c.args.all.now = omega arith in (
      c.loop-one.invariant.0
          ∙ goes port port_view c.loop-one.sight c.narrow_port.new.sight (all_ports_view c.loop-one.done) (ports_view c.in_ok-next.next) (all_ports_view c.push.new.self)
          c.args.all.now c.loop-one.one-index c.one-item.result lt c.one-item.is c.in_ok-next.ensures.given
          (ap (flat_map ports_view) c.in_ok-push.ensures.items ∙ all_more ports_view c.loop-one.done.items c.in_ok-next.next),
      rw (← c.sight-in-loop-one-2.view_is) c.of-counts-in-loop-one.ensures,
      c.in_ok-next.ensures.kept ∙ ap (λ (s : Sight). record s { region = c.narrow_port.new.sight.region }) c.loop-one.invariant.2,
      λ f h. c.loop-one.invariant.3 f
          (told_behind in_region with_declared port broken.port port_kept port_view c.loop-one.sight c.narrow_port.new.sight c.args.all.now c.loop-one.one-index c.one-item.result (ports_view c.in_ok-next.next) f lt c.one-item.is c.in_ok-next.ensures.given h),
    )

pub returns-clause-kept : goal.returns-clause-kept
returns-clause-kept c = c.loop-one.invariant.2

pub returns-clause-given : goal.returns-clause-given
returns-clause-given c =
    c.loop-one.invariant.0 ∙ ends port port_view c.loop-one.sight (all_ports_view c.loop-one.done) c.args.all.now c.loop-one.one-index (omega arith)

pub returns-in_err-next-clause-told : goal.returns-in_err-next-clause-told
returns-in_err-next-clause-told c =
    let lt : c.loop-one.one-index < length c.args.all.now = omega arith in
    let f : Tells (interfaces_broken.ports c.args.sight.now (map port_view c.args.all.now)) c.in_err-next.field-0.0 =
    c.loop-one.invariant.3 c.in_err-next.field-0.0 (told_at in_region with_declared port broken.port port_kept port_view c.loop-one.sight c.args.all.now c.loop-one.one-index c.one-item.result c.in_err-next.field-0.0 lt c.one-item.is c.in_err-next.ensures.told) in
    told_by _ c.in_err-next.field-0.0 _ c.from_residual.result c.from_residual.ensures.1 (λ e p. p) f
