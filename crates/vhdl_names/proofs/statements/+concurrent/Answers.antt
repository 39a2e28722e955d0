use Rattle.std.proofs.Common.{arith, rules, ◌<◌, ◌∷◌, length, map, [], Some, None, refl, ap, sym, subst, ◌∙◌, append-nil}
use Rattle.std.specs.Prelude.{option_map}
use Rattle.std.proofs.lemmas.List.{map-append}
use Rattle.vhdl_tree.specs.Tree as t
use Rattle.vhdl_tree.specs.View as tree
use Rattle.vhdl_tree.specs.declared.concurrent.Concurrent.{the_lemmas}
use Rattle.vhdl_names_rules.specs.units.Units as u
use Rattle.vhdl_names_rules.specs.Visibility.{Sight, are_distinct}
use Rattle.vhdl_names_rules.specs.Concurrent.{concurrent_labels}
use Rattle.vhdl_names_rules.proofs.Memory.{memory_gives, memory_told}
use Rattle.vhdl_names_expressions.proofs.Each.{behind, none_behind}
use Rattle.vhdl_names_declarations.specs.Counts.{AreCounts}
use Rattle.vhdl_names_interfaces.proofs.Interfacing.{told_nothing}
use Rattle.vhdl_names_units.specs.views.Concurrent as views
use Rattle.vhdl_names_rules.specs.problems.Broken.{Tells}
use Rattle.vhdl_names_rules.specs.problems.Twice.{twice}
use Rattle.vhdl_names_rules.specs.problems.Labels.{labels_of}
use Rattle.vhdl_names_rules.specs.problems.Concurrent as broken
use Rattle.vhdl_names_rules.proofs.Telling.{told_on, told_same}
use Rattle.vhdl_names_rules.proofs.kept.Keeping.{among_second}
use Rattle.vhdl_names_rules.proofs.kept.Concurrent.{labels_kept}
use Rattle.vhdl_names_units.specs.Once.{names_view}
use Rattle.vhdl_names_units.proofs.Behind.{next_told, next_left}
use Rattle.vhdl_names_instances.specs.Table.{seens_view}
use Rattle.vhdl_names_instances.specs.steps.Instances.{instance}
use Rattle.vhdl_names_instances.proofs.Instancing.{instance_gives}
use Rattle.vhdl_names.specs.steps.Concurrents as steps
use Rattle.vhdl_names.specs.steps.Told as told
use Rattle.vhdl_names.proofs.Generating.{generate_gives, no_scheme, no_body, no_end}
use Rattle.vhdl_names.proofs.Dropping.{no_view, one_fails, one_goes, none_left}
use Rattle.vhdl_names.proofs.Told as by
use Rattle.vhdl_names.proofs.Finding.{some_none}
use Rattle.vhdl_names_rules.proofs.Passing.{passed_on, told_by}
use Rattle.vhdl_names.proofs.statements.+concurrent.Goals as goal

pub statements-statement-requires : goal.statements-statement-requires
statements-statement-requires m c = (
  search (rules, the_lemmas),
  (
    subst (λ (s : Sight). AreCounts c.args.counts s.region) (sym c.loop-item.invariant.0) c.requires.counts,
    ap (λ (s : Sight). s.variables) c.loop-item.invariant.0 ∙ c.requires.outside,
  ),
)

pub generate-labelled-requires : goal.generate-labelled-requires
generate-labelled-requires m c =
    let s = c.args.sight.now in
    let k = tree.scheme_view c.args.written.now.scheme in (
      search (rules, the_lemmas),
      (by.counts_within c.args.counts s _ k c.requires.counts c.in_ok-enter_generate.ensures.given, by.within_is s _ k c.requires.outside c.in_ok-enter_generate.ensures.given),
    )

pub generate-returns-in_err-by-clause-given : goal.generate-returns-in_err-by-clause-given
generate-returns-in_err-by-clause-given m c =
    passed_on _ _ _ _ c.from_residual.result c.from_residual.ensures.1 (λ e p. p)
    (λ n. no_scheme (instance (names_view c.args.entities.now.names) (seens_view c.args.entities.now.formals)) c.args.sight.now (tree.ident_view c.args.written.now.label) c.args.written.now.at (tree.scheme_view c.args.written.now.scheme) (tree.concurrents_view c.args.written.now.statements) (tree.option_ident_view c.args.written.now.end_label) (λ b. c.in_err-by.ensures.given (tree.ident_view c.args.written.now.label).text c.args.written.now.at b n))

pub statement-returns-in_ok-generate-in-Generate-clause-given : goal.statement-returns-in_ok-generate-in-Generate-clause-given
statement-returns-in_ok-generate-in-Generate-clause-given m c =
    let f = instance (names_view c.args.entities.now.names) (seens_view c.args.entities.now.formals) in
    let s = c.args.sight.now in
    ap (λ x. steps.kept f s (tree.concurrent_view x)) c.in-Generate.is
    ∙ ap (option_map Some) (generate_gives f s c.in-Generate.written ∙ c.in_ok-generate-in-Generate.ensures.given)

pub statement-returns-in_err-generate-in-Generate-clause-given : goal.statement-returns-in_err-generate-in-Generate-clause-given
statement-returns-in_err-generate-in-Generate-clause-given m c =
    let f = instance (names_view c.args.entities.now.names) (seens_view c.args.entities.now.formals) in
    let s = c.args.sight.now in
    passed_on _ _ _ _ c.from_residual-in_err-generate-in-Generate.result c.from_residual-in_err-generate-in-Generate.ensures.1 (λ e p. p)
    (λ n. ap (λ x. steps.kept f s (tree.concurrent_view x)) c.in-Generate.is
    ∙ ap (option_map Some) (generate_gives f s c.in-Generate.written ∙ c.in_err-generate-in-Generate.ensures.given n))

pub generate-returns-in_err-body-clause-given : goal.generate-returns-in_err-body-clause-given
generate-returns-in_err-body-clause-given m c =
    let within = c.enter_generate.new.sight in
    passed_on _ _ _ _ c.from_residual-in_err-body.result c.from_residual-in_err-body.ensures.1 (λ e p. p)
    (λ n. no_body (instance (names_view c.args.entities.now.names) (seens_view c.args.entities.now.formals)) c.args.sight.now (tree.ident_view c.args.written.now.label) c.args.written.now.at (tree.scheme_view c.args.written.now.scheme) (tree.concurrents_view c.args.written.now.statements) (tree.option_ident_view c.args.written.now.end_label) within c.in_ok-enter_generate.ensures.given
    (ap (λ xs. steps.labelled (instance (names_view c.args.entities.now.names) (seens_view c.args.entities.now.formals)) within (map tree.concurrent_view xs)) (sym c.deref.ensures.value) ∙ c.in_err-body.ensures.given n))

pub generate-returns-in_err-ends-clause-given : goal.generate-returns-in_err-ends-clause-given
generate-returns-in_err-ends-clause-given m c =
    passed_on _ _ _ _ c.from_residual-in_err-ends.result c.from_residual-in_err-ends.ensures.1 (λ e p. p)
    (λ n. no_end (instance (names_view c.args.entities.now.names) (seens_view c.args.entities.now.formals)) c.args.sight.now (tree.ident_view c.args.written.now.label) c.args.written.now.at (tree.scheme_view c.args.written.now.scheme) (tree.concurrents_view c.args.written.now.statements) (tree.option_ident_view c.args.written.now.end_label) (c.in_err-ends.ensures.given n))

pub generate-returns-in_err-enter_generate-clause-given : goal.generate-returns-in_err-enter_generate-clause-given
generate-returns-in_err-enter_generate-clause-given m c =
    passed_on _ _ c.in_err-enter_generate.field-0.0 _ c.from_residual-in_err-enter_generate.result c.from_residual-in_err-enter_generate.ensures.1 (λ e p. p)
    (λ n. absurd (some_none _ (c.in_err-enter_generate.ensures.given n)))

pub generate-returns-in_err-enter_generate-clause-told : goal.generate-returns-in_err-enter_generate-clause-told
generate-returns-in_err-enter_generate-clause-told m c = λ es are.
    told_by _ c.in_err-enter_generate.field-0.0 _ c.from_residual-in_err-enter_generate.result c.from_residual-in_err-enter_generate.ensures.1 (λ e p. p)
    (told_nothing _ c.in_err-enter_generate.field-0.0 c.in_err-enter_generate.ensures.told)

pub generate-returns-in_err-label-clause-given : goal.generate-returns-in_err-label-clause-given
generate-returns-in_err-label-clause-given m c = memory_gives _ _ _ c.from_residual-in_err-label.result c.from_residual-in_err-label.ensures.1 (λ e p. p)

pub generate-returns-in_err-label-clause-told : goal.generate-returns-in_err-label-clause-told
generate-returns-in_err-label-clause-told m c = λ es are. memory_told _ _ c.from_residual-in_err-label.result c.from_residual-in_err-label.ensures.1 (λ e p. p)

pub statement-returns-in_err-assignment-in-Assignment-clause-given : goal.statement-returns-in_err-assignment-in-Assignment-clause-given
statement-returns-in_err-assignment-in-Assignment-clause-given m c =
    passed_on _ _ _ _ c.from_residual.result c.from_residual.ensures.1 (λ e p. p)
    (λ n. ap (λ x. steps.kept (instance (names_view c.args.entities.now.names) (seens_view c.args.entities.now.formals)) c.args.sight.now (tree.concurrent_view x)) c.in-Assignment.is ∙ ap (option_map Some) (c.in_err-assignment-in-Assignment.ensures.given n))

pub statement-returns-in_err-selected-in-Selected-clause-given : goal.statement-returns-in_err-selected-in-Selected-clause-given
statement-returns-in_err-selected-in-Selected-clause-given m c =
    passed_on _ _ _ _ c.from_residual-in_err-selected-in-Selected.result c.from_residual-in_err-selected-in-Selected.ensures.1 (λ e p. p)
    (λ n. ap (λ x. steps.kept (instance (names_view c.args.entities.now.names) (seens_view c.args.entities.now.formals)) c.args.sight.now (tree.concurrent_view x)) c.in-Selected.is ∙ ap (option_map Some) (c.in_err-selected-in-Selected.ensures.given n))

pub statement-returns-in_err-process-in-Process-clause-given : goal.statement-returns-in_err-process-in-Process-clause-given
statement-returns-in_err-process-in-Process-clause-given m c =
    passed_on _ _ _ _ c.from_residual-in_err-process-in-Process.result c.from_residual-in_err-process-in-Process.ensures.1 (λ e p. p)
    (λ n. ap (λ x. steps.kept (instance (names_view c.args.entities.now.names) (seens_view c.args.entities.now.formals)) c.args.sight.now (tree.concurrent_view x)) c.in-Process.is ∙ ap (λ o. option_map Some (option_map u.process o)) (c.in_err-process-in-Process.ensures.given n))

pub statement-returns-in_err-instance_in_turn-in-Instance-clause-given : goal.statement-returns-in_err-instance_in_turn-in-Instance-clause-given
statement-returns-in_err-instance_in_turn-in-Instance-clause-given m c =
    passed_on _ _ _ _ c.from_residual-in_err-instance_in_turn-in-Instance.result c.from_residual-in_err-instance_in_turn-in-Instance.ensures.1 (λ e p. p)
    (λ n. ap (λ x. steps.kept (instance (names_view c.args.entities.now.names) (seens_view c.args.entities.now.formals)) c.args.sight.now (tree.concurrent_view x)) c.in-Instance.is ∙ ap (λ o. option_map Some (option_map u.instance o)) (c.in_err-instance_in_turn-in-Instance.ensures.given n))

-- ---- what is told

pub statements-returns-in_err-next-clause-told : goal.statements-returns-in_err-next-clause-told
statements-returns-in_err-next-clause-told m c = λ es are.
    let s = c.args.sight.now in
    let b = broken.concurrent es s in
    let xs = c.args.list.now in
    let i = c.loop-item.item-index in
    let x = c.item-item.result in
    let f = c.in_err-next.field-0.0 in
    let lt : c.loop-item.item-index < length c.args.list.now = omega arith in
    let h : Tells (broken.concurrents es s (t.concurrents_of (map tree.concurrent_view c.args.list.now))) c.in_err-next.field-0.0 =
    told_same _ _ f (by.concurrents_any es s (map tree.concurrent_view xs))
    (next_told tree.concurrent_view xs i x lt c.item-item.is b f (c.loop-item.invariant.1.1 es are)
    (told_same _ _ f (ap (λ s. broken.concurrent es s (tree.concurrent_view x)) c.loop-item.invariant.0) (c.in_err-next.ensures.told es are))) in
    told_by _ c.in_err-next.field-0.0 _ c.from_residual.result c.from_residual.ensures.1 (λ e p. p) h

pub statements-returns-in_err-next-clause-given : goal.statements-returns-in_err-next-clause-given
statements-returns-in_err-next-clause-given m c =
    let s = c.args.sight.now in
    let e = c.args.entities.now in
    let g = instance (names_view e.names) (seens_view e.formals) in
    let xs = c.args.list.now in
    let x = c.item-item.result in
    let lt : c.loop-item.item-index < length c.args.list.now = omega arith in
    passed_on _ _ c.in_err-next.field-0.0 _ c.from_residual.result c.from_residual.ensures.1 (λ e p. p)
    (λ n. one_fails g s xs c.loop-item.item-index x lt c.item-item.is _ (views.concurrents_view c.loop-item.all) c.loop-item.invariant.1.0
    (ap (λ s. steps.kept g s (tree.concurrent_view x)) (sym c.loop-item.invariant.0) ∙ c.in_err-next.ensures.given n))

pub statements-returns-in_err-push-clause-given : goal.statements-returns-in_err-push-clause-given
statements-returns-in_err-push-clause-given m c = memory_gives _ _ _ c.from_residual-in_err-push.result c.from_residual-in_err-push.ensures.1 (λ e p. p)

pub statements-returns-in_err-push-clause-told : goal.statements-returns-in_err-push-clause-told
statements-returns-in_err-push-clause-told m c = λ es are. memory_told _ _ c.from_residual-in_err-push.result c.from_residual-in_err-push.ensures.1 (λ e p. p)

pub statements-loop-item-init : goal.statements-loop-item-init
statements-loop-item-init m c =
    let e = c.args.entities.now in
    let g = instance (names_view e.names) (seens_view e.formals) in
    (refl, (none_behind (steps.all g c.args.sight.now (map tree.concurrent_view c.args.list.now)) ∙ ap (λ done. behind done (steps.all g c.args.sight.now (map tree.concurrent_view c.args.list.now))) (sym (ap (map views.concurrent_view) c.new-all.ensures.items)), λ es are. refl))

pub statements-returns-clause-given : goal.statements-returns-clause-given
statements-returns-clause-given m c =
    let e = c.args.entities.now in
    let g = instance (names_view e.names) (seens_view e.formals) in
    none_left g c.args.sight.now c.args.list.now c.loop-item.item-index (omega arith) _ _ c.loop-item.invariant.1.0

pub statements-loop-item-preserved : goal.statements-loop-item-preserved
statements-loop-item-preserved m c =
    let s = c.args.sight.now in
    let e = c.args.entities.now in
    let g = instance (names_view e.names) (seens_view e.formals) in
    let xs = c.args.list.now in
    let i = c.loop-item.item-index in
    let x = c.item-item.result in
    let lt : c.loop-item.item-index < length c.args.list.now = omega arith in
    let given = sym (ap (λ s. steps.kept g s (tree.concurrent_view x)) c.loop-item.invariant.0) ∙ c.in_ok-next.ensures.given ∙ ap (λ o. Some (option_map views.concurrent_view o)) c.in-Some.is in (
      c.in_ok-next.ensures.kept ∙ c.loop-item.invariant.0,
      (
        one_goes g s xs i x lt c.item-item.is _ (views.concurrents_view c.loop-item.all) c.loop-item.invariant.1.0 (Some (views.concurrent_view c.in-Some.next)) given _
            (ap (map views.concurrent_view) c.in_ok-push.ensures.items ∙ map-append views.concurrent_view c.loop-item.all.items (c.in-Some.next ∷ [])),
        λ es are.
            next_left tree.concurrent_view xs i x lt c.item-item.is (broken.concurrent es s) (c.loop-item.invariant.1.1 es are)
            (by.statement_kept es s g (instance_gives e es are) c.requires.outside (tree.concurrent_view x) _ given),
      ),
    )

pub statements-loop-item-preserved-in_default : goal.statements-loop-item-preserved-in_default
statements-loop-item-preserved-in_default m c =
    let s = c.args.sight.now in
    let e = c.args.entities.now in
    let g = instance (names_view e.names) (seens_view e.formals) in
    let xs = c.args.list.now in
    let i = c.loop-item.item-index in
    let x = c.item-item.result in
    let lt : c.loop-item.item-index < length c.args.list.now = omega arith in
    let given = sym (ap (λ s. steps.kept g s (tree.concurrent_view x)) c.loop-item.invariant.0) ∙ c.in_ok-next.ensures.given ∙ ap Some (no_view views.concurrent_view _ c.in_default.not-Some) in (
      c.in_ok-next.ensures.kept ∙ c.loop-item.invariant.0,
      (
        one_goes g s xs i x lt c.item-item.is _ (views.concurrents_view c.loop-item.all) c.loop-item.invariant.1.0 None given _ (sym (append-nil (views.concurrents_view c.loop-item.all))),
        λ es are.
            next_left tree.concurrent_view xs i x lt c.item-item.is (broken.concurrent es s) (c.loop-item.invariant.1.1 es are)
            (by.statement_kept es s g (instance_gives e es are) c.requires.outside (tree.concurrent_view x) _ given),
      ),
    )

pub statement-returns-in_err-generate-in-Generate-clause-told : goal.statement-returns-in_err-generate-in-Generate-clause-told
statement-returns-in_err-generate-in-Generate-clause-told m c = λ es are.
    let s = c.args.sight.now in
    told_by _ _ _ c.from_residual-in_err-generate-in-Generate.result c.from_residual-in_err-generate-in-Generate.ensures.1 (λ e p. p)
    (told_same _ _ _ (sym (ap (λ x. broken.concurrent es s (tree.concurrent_view x)) c.in-Generate.is ∙ by.generate_told es s c.in-Generate.written)) (c.in_err-generate-in-Generate.ensures.told es are))

pub labelled-returns-in-Ok-clause-told : goal.labelled-returns-in-Ok-clause-told
labelled-returns-in-Ok-clause-told m c = λ es are.
    let s = c.args.sight.now in
    let cs = map tree.concurrent_view c.args.list.now in
    let a = twice [] (labels_of (t.concurrents_of cs)) in
    let b = broken.concurrents es s (t.concurrents_of cs) in
    let k = labels_kept (t.concurrents_of cs) (by.met_holds (are_distinct (concurrent_labels (t.concurrents_of cs))) c.in-Ok.ensures.given) in
    told_on b (told.labelled es s cs) _ (λ f. told_same b (told.labelled es s cs) f (sym (among_second a b k))) (c.statements-all.ensures.told es are)

pub labelled-returns-in-Err-clause-told : goal.labelled-returns-in-Err-clause-told
labelled-returns-in-Err-clause-told m c = λ es are.
    let s = c.args.sight.now in
    let e = c.args.entities.now in
    let cs = map tree.concurrent_view c.args.list.now in
    let a = twice [] (labels_of (t.concurrents_of cs)) in
    let b = broken.concurrents es s (t.concurrents_of cs) in
    let g = instance (names_view e.names) (seens_view e.formals) in
    c.earlier_in.ensures.told a b c.in-Err.ensures.told (c.statements-all.ensures.told es are)
    (by.ok_kept views.concurrents_view (steps.all g s cs) b _ (by.all_kept es s g (instance_gives e es are) c.requires.outside cs) c.statements-all.ensures.given)

pub generate-returns-in_err-by-clause-told : goal.generate-returns-in_err-by-clause-told
generate-returns-in_err-by-clause-told m c = λ es are.
    told_by _ _ _ c.from_residual.result c.from_residual.ensures.1 (λ e p. p) (by.generate_by es c.args.sight.now (tree.ident_view c.args.written.now.label) (tree.scheme_view c.args.written.now.scheme) (tree.concurrents_view c.args.written.now.statements) (tree.option_ident_view c.args.written.now.end_label) _ c.in_err-by.ensures.told)

pub generate-returns-in_err-body-clause-told : goal.generate-returns-in_err-body-clause-told
generate-returns-in_err-body-clause-told m c = λ es are.
    told_by _ _ _ c.from_residual-in_err-body.result c.from_residual-in_err-body.ensures.1 (λ e p. p)
    (by.generate_inside es c.args.sight.now (tree.ident_view c.args.written.now.label) (tree.scheme_view c.args.written.now.scheme) (tree.concurrents_view c.args.written.now.statements) (tree.option_ident_view c.args.written.now.end_label) _ _ (c.in_ok-by.ensures.given [] 0 u.no_concurrents) c.enter_generate.new.sight c.in_ok-enter_generate.ensures.given
    (told_same _ _ _ (ap (λ xs. told.labelled es c.enter_generate.new.sight (map tree.concurrent_view xs)) c.deref.ensures.value) (c.in_err-body.ensures.told es are)))

pub generate-returns-in_err-ends-clause-told : goal.generate-returns-in_err-ends-clause-told
generate-returns-in_err-ends-clause-told m c = λ es are.
    let s = c.args.sight.now in
    let within = c.enter_generate.new.sight in
    let k = tree.scheme_view c.args.written.now.scheme in
    let g = instance (names_view c.args.entities.now.names) (seens_view c.args.entities.now.formals) in
    told_by _ _ _ c.from_residual-in_err-ends.result c.from_residual-in_err-ends.ensures.1 (λ e p. p)
    (by.generate_ends es c.args.sight.now (tree.ident_view c.args.written.now.label) (tree.scheme_view c.args.written.now.scheme) (tree.concurrents_view c.args.written.now.statements) (tree.option_ident_view c.args.written.now.end_label) _ _ (c.in_ok-by.ensures.given [] 0 u.no_concurrents) within c.in_ok-enter_generate.ensures.given
    (by.labelled_kept es within g (instance_gives c.args.entities.now es are) (by.within_is s within k c.requires.outside c.in_ok-enter_generate.ensures.given)
    (tree.concurrents_view c.args.written.now.statements) _
    (ap (λ xs. steps.labelled g within (map tree.concurrent_view xs)) (sym c.deref.ensures.value) ∙ c.in_ok-body.ensures.given))
    c.in_err-ends.ensures.told)

pub statement-returns-in_err-selected-in-Selected-clause-told : goal.statement-returns-in_err-selected-in-Selected-clause-told
statement-returns-in_err-selected-in-Selected-clause-told m c = λ es are.
    told_by _ _ _ c.from_residual-in_err-selected-in-Selected.result c.from_residual-in_err-selected-in-Selected.ensures.1 (λ e p. p)
    (told_same _ _ _ (sym (ap (λ x. broken.concurrent es c.args.sight.now (tree.concurrent_view x)) c.in-Selected.is ∙ by.selected_is es c.args.sight.now (tree.option_ident_view c.in-Selected.label) (tree.selected_assignment_view c.in-Selected.written))) c.in_err-selected-in-Selected.ensures.told)

pub statement-returns-in_err-process-in-Process-clause-told : goal.statement-returns-in_err-process-in-Process-clause-told
statement-returns-in_err-process-in-Process-clause-told m c = λ es are.
    told_by _ _ _ c.from_residual-in_err-process-in-Process.result c.from_residual-in_err-process-in-Process.ensures.1 (λ e p. p)
    (told_same _ _ _ (sym (ap (λ x. broken.concurrent es c.args.sight.now (tree.concurrent_view x)) c.in-Process.is ∙ by.process_is es c.args.sight.now (tree.option_ident_view c.in-Process.label) (tree.process_view c.in-Process.written))) c.in_err-process-in-Process.ensures.told)
