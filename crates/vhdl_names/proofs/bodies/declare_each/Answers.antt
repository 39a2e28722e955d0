use Rattle.std.proofs.Common.{arith, length, drop, ◌<◌, ◌+◌, ap, sym, subst}
use Rattle.vhdl_tree.specs.View.{concurrent_view}
use Rattle.vhdl_names_rules.specs.Files.{labelled}
use Rattle.vhdl_names_rules.specs.problems.Labels.{label_of}
use Rattle.vhdl_names_sight.specs.Views.{region_view}
use Rattle.vhdl_names_declarations.specs.Entered.{more}
use Rattle.vhdl_names_declarations.proofs.Regions.{names_apart}
use Rattle.vhdl_names_rules.proofs.Along.{gives_along}
use Rattle.vhdl_names_declarations.proofs.Labelling.{labels_in, names_of_label}
use Rattle.vhdl_names.proofs.Labels.{Labelled, none_labelled, one_more, one_label, next_left, all_told, all_past, all_given}
use Rattle.vhdl_names.proofs.bodies.declare_each.Goals as goal

pub loop-statement-init : goal.loop-statement-init
loop-statement-init c = none_labelled (region_view c.args.region.now) (labels_in c.args.statements.now) (names_apart c.args.region.now.entries c.names_are_apart.ensures)

pub loop-statement-preserved : goal.loop-statement-preserved
loop-statement-preserved c =
    let cs = c.args.statements.now in
    let i = c.loop-statement.statement-index in
    let lt : c.loop-statement.statement-index < length c.args.statements.now = omega arith in
    let s = concurrent_view c.statement-item.result in
    let is = label_of (concurrent_view c.statement-item.result) in
    let left = labels_in (drop (i + 1) cs) in
    let begun = region_view c.args.region.now in
    let before = region_view c.loop-statement.region in
    let region = region_view c.declare_label.new.region in
    subst (λ t. Labelled begun (labels_in cs) region t left) (sym c.first_of-told.ensures)
    (one_more begun (labels_in cs) before is left (one_label s) c.loop-statement.told
    (subst (Labelled begun (labels_in cs) before c.loop-statement.told) (next_left cs i c.statement-item.result lt c.statement-item.is) c.loop-statement.invariant)
    c.declare_label.result region
    (gives_along (λ _. region) _ _ c.declare_label.result (ap (λ ns. more before (labelled ns)) (names_of_label s)) c.declare_label.ensures.given)
    c.declare_label.ensures.told c.declare_label.ensures.kept)

pub returns-clause-told : goal.returns-clause-told
returns-clause-told c =
    all_told (region_view c.args.region.now) c.args.statements.now (region_view c.loop-statement.region) c.loop-statement.statement-index (omega arith) c.loop-statement.told c.loop-statement.invariant

pub returns-clause-past : goal.returns-clause-past
returns-clause-past c =
    all_past (region_view c.args.region.now) c.args.statements.now (region_view c.loop-statement.region) c.loop-statement.statement-index (omega arith) c.loop-statement.told c.loop-statement.invariant

pub returns-clause-given : goal.returns-clause-given
returns-clause-given c =
    all_given (region_view c.args.region.now) c.args.statements.now (region_view c.loop-statement.region) c.loop-statement.statement-index (omega arith) c.loop-statement.told c.loop-statement.invariant
