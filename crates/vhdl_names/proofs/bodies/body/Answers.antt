use Rattle.std.proofs.Common.{map, sym, ◌∙◌}
use Rattle.vhdl_tree.specs.Tree as t
use Rattle.vhdl_tree.specs.View as view
use Rattle.vhdl_names_rules.specs.problems.Concurrent.{concurrents}
use Rattle.vhdl_names_rules.specs.problems.Declarations.{standing_twice}
use Rattle.vhdl_names_rules.specs.problems.Labels.{labels_of}
use Rattle.vhdl_names_rules.proofs.Telling.{told_left, told_right, told_same}
use Rattle.vhdl_names_rules.proofs.kept.Keeping.{among_kept}
use Rattle.vhdl_names_rules.proofs.kept.Concurrent.{concurrents_kept}
use Rattle.vhdl_names_sight.specs.Seen.{sight_view}
use Rattle.vhdl_names_sight.specs.Views.{region_view}
use Rattle.vhdl_names_rules.proofs.Passing.{told_by}
use Rattle.vhdl_names.specs.steps.Concurrents.{body_view}
use Rattle.vhdl_names.specs.steps.Architectures.{with_region}
use Rattle.vhdl_names.proofs.Finding.{or_memory, gives_finds, given_ok, found_ok}
use Rattle.vhdl_names.proofs.Standing.{body_same, ok_memory}
use Rattle.vhdl_names.proofs.bodies.body.Goals as goal

pub returns-in_err-statements-clause-told : goal.returns-in_err-statements-clause-told
returns-in_err-statements-clause-told c = λ all are. rw (← c.sight.view_is) (
    let s = sight_view c.sight.inside in
    let r = region_view c.declare_each-labels.new.region in
    let labelled = standing_twice s.region (labels_of (t.concurrents_of (map view.concurrent_view c.deref.result.now))) in
    let stated = concurrents all (with_region s r) (t.concurrents_of (map view.concurrent_view c.deref-2.result.now)) in
    told_by _ _ _ c.from_residual.result c.from_residual.ensures.1 (λ e p. p)
    (or_memory _ _ (λ n.
    told_left _ _ _
    (told_same _ _ _
    (body_same all s r c.args.tree.now.statements.items c.deref.result.now c.deref-2.result.now c.deref.ensures.value c.deref-2.ensures.value
    (c.declare_each-labels.ensures.past (c.in_err-statements.ensures.memory n).0))
    (c.in_err-statements.ensures.told labelled stated c.declare_each-labels.ensures.told
    (gives_finds body_view _ stated c.concurrents-statements.result
    (λ xs g. concurrents_kept (t.concurrents_of (map view.concurrent_view c.deref-2.result.now)) all (with_region s r) xs (rw (← c.sight.view_is) at c.requires.outside) g)
    (c.concurrents-statements.ensures.given all are) (c.concurrents-statements.ensures.told all are)))))))

pub returns-in_err-ends-clause-told : goal.returns-in_err-ends-clause-told
returns-in_err-ends-clause-told c = λ all are. rw (← c.sight.view_is) (
    let s = sight_view c.sight.inside in
    let r = region_view c.declare_each-labels.new.region in
    let both = c.in_ok-statements.ensures.both in
    let same = body_same all s r c.args.tree.now.statements.items c.deref.result.now c.deref-2.result.now c.deref.ensures.value c.deref-2.ensures.value
    (c.declare_each-labels.ensures.past (ok_memory c.declare_each-labels.result tt both.0)) in
    told_by _ _ _ c.from_residual-in_err-ends.result c.from_residual-in_err-ends.ensures.1 (λ e p. p)
    (told_right _ _ _
    (sym same
    ∙ among_kept _ _ (found_ok _ c.declare_each-labels.result tt both.0 c.declare_each-labels.ensures.told)
    (concurrents_kept (t.concurrents_of (map view.concurrent_view c.deref-2.result.now)) all (with_region s r) _ (rw (← c.sight.view_is) at c.requires.outside)
    (given_ok body_view _ c.concurrents-statements.result _ both.1 (c.concurrents-statements.ensures.given all are))))
    c.in_err-ends.ensures.told))
