use Rattle.std.proofs.Common.{◌≡◌, map, None, Some, ap, sym, ◌∙◌}
use Rattle.vhdl_tree.specs.View as tree
use Rattle.vhdl_names_rules.specs.Rules.{each}
use Rattle.vhdl_names_rules.proofs.Along.{gives_along}
use Rattle.vhdl_names_units.specs.views.Sequential as views
use Rattle.vhdl_names_rules.specs.problems.Broken.{nothing, any_of}
use Rattle.vhdl_names_rules.specs.problems.Covered.{covered}
use Rattle.vhdl_names_rules.specs.problems.Concurrent as problems
use Rattle.vhdl_names_rules.proofs.Telling.{told_same, told_on}
use Rattle.vhdl_names_statements.specs.steps.Cases as cases
use Rattle.vhdl_names_statements.specs.steps.Concurrent as steps
use Rattle.vhdl_names_statements.proofs.steps.Told.{on_along}
use Rattle.vhdl_names_statements.proofs.steps.Assigning.{waveforms_kept}
use Rattle.vhdl_names_statements.proofs.steps.Covering.{on_given, are_read, selected_by, selected_cover, selected_none}
use Rattle.vhdl_names_rules.proofs.Passing.{passed_on, told_by, told_first}
use Rattle.vhdl_names_statements.proofs.assignments.selected_parts.Goals as goal

pub returns-in_err-target-clause-told : goal.returns-in_err-target-clause-told
returns-in_err-target-clause-told c = told_first _ _ _ _ c.from_residual.result c.from_residual.ensures.1 (λ e p. p) c.in_err-target.ensures.told

pub returns-in_err-all : goal.returns-in_err-all
returns-in_err-all c =
    let a = tree.selected_assignment_view c.args.assignment.now in
    let read = are_read c.args.sight.now c.args.by a _ c.in_ok-target.ensures.given (cases.all_lists c.deref-3.result.now) c.all_chosen-all.result
    (ap cases.all_lists c.deref-3.ensures.value ∙ c.in_ok-lists.ensures ∙ ap (λ ws. steps.choice_lists (map tree.waveform_view ws)) c.deref.ensures.value)
    (gives_along views.alternatives_view _ _ _ (ap (λ ws. each (steps.chosen c.args.sight.now c.args.by a.target) (map tree.waveform_view ws)) (sym c.deref-2.ensures.value)) c.all_chosen-all.ensures.given) in
    let s = c.args.sight.now in
    let k = c.args.by in
    let b = any_of (problems.waveform s k a.target) a.waveforms in
    let found = each (steps.chosen s k a.target) a.waveforms in
    record {
      given =
          passed_on _ _ _ _ c.from_residual-in_err-all.result c.from_residual-in_err-all.ensures.1 (λ e p. p)
          (λ n. selected_by s k a _ c.in_ok-target.ensures.given None (ap (λ l. cases.covering k l found) (sym read.0) ∙ c.in_err-all.ensures.given found read.1 read.2 n));
      told =
          told_by _ c.in_err-all.field-0.0 _ c.from_residual-in_err-all.result c.from_residual-in_err-all.ensures.1 (λ e p. p)
          (selected_cover s k a _ c.in_ok-target.ensures.given c.in_err-all.field-0.0
          (told_same _ _ c.in_err-all.field-0.0 (ap (λ l. covered s k a.at l b) read.0)
          (c.in_err-all.ensures.told b
          (on_along _ b _ (ap (λ ws. any_of (problems.waveform s k a.target) (map tree.waveform_view ws)) c.deref-2.ensures.value) c.all_chosen-all.ensures.told)
          (on_given views.alternatives_view (λ _. b ≡ nothing) found _ read.1 (λ x e. waveforms_kept s k a.target a.waveforms (views.alternatives_view x) e)) read.2)));
    }

pub returns : goal.returns
returns c =
    let a = tree.selected_assignment_view c.args.assignment.now in
    let read = are_read c.args.sight.now c.args.by a _ c.in_ok-target.ensures.given (cases.all_lists c.deref-3.result.now) c.all_chosen-all.result
    (ap cases.all_lists c.deref-3.ensures.value ∙ c.in_ok-lists.ensures ∙ ap (λ ws. steps.choice_lists (map tree.waveform_view ws)) c.deref.ensures.value)
    (gives_along views.alternatives_view _ _ _ (ap (λ ws. each (steps.chosen c.args.sight.now c.args.by a.target) (map tree.waveform_view ws)) (sym c.deref-2.ensures.value)) c.all_chosen-all.ensures.given) in
    let covers = ap (λ l. cases.covering c.args.by l (each (steps.chosen c.args.sight.now c.args.by a.target) a.waveforms)) (sym read.0) ∙ c.in_ok-all.ensures.given (each (steps.chosen c.args.sight.now c.args.by a.target) a.waveforms) read.1 read.2 in
    record {
      given =
          gives_along _ _ _ _ (selected_by c.args.sight.now c.args.by a _ c.in_ok-target.ensures.given (Some (views.alternatives_view c.in_ok-all.all)) covers) c.arranged.ensures.given;
      told =
          told_on _ (problems.waveforms c.args.sight.now c.args.by a) _
          (λ f h. selected_none c.args.sight.now c.args.by a _ c.in_ok-target.ensures.given f (views.alternatives_view c.in_ok-all.all) covers h) c.arranged.ensures.told;
    }
