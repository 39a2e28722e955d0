use Rattle.std.proofs.Common.{◌≡◌, ◌≢◌, [], map, None, ap, ◌∙◌, sym, subst}
use Rattle.vhdl_names_rules.specs.declared.fault.NameFault.TheVariants.{NoMemory}
use Rattle.vhdl_names_rules.specs.Rules.{met}
use Rattle.vhdl_names_rules.specs.Files.{labelled}
use Rattle.vhdl_names_rules.specs.Visibility.{are_distinct}
use Rattle.vhdl_names_sight.specs.Views.{entry_view}
use Rattle.vhdl_names_declarations.specs.Entered.{more}
use Rattle.vhdl_names_rules.specs.problems.Broken.{Tells}
use Rattle.vhdl_names_rules.specs.problems.Twice.{twice}
use Rattle.vhdl_names_rules.specs.problems.Declarations.{standing_twice}
use Rattle.vhdl_names_declarations.proofs.Labelling.{label_names_of, labels_in, distinct_none, distinct_some}
use Rattle.vhdl_names_rules.proofs.Passing.{passed_on, told_by}
use Rattle.vhdl_names_declarations.proofs.labels.labels_are_distinct.Goals as goal

pub returns-in_err-declare_labels-clause-given : goal.returns-in_err-declare_labels-clause-given
returns-in_err-declare_labels-clause-given c =
    let ns = label_names_of c.args.statements.now in
    let f : c.in_err-declare_labels.field-0.0 ≢ NoMemory → met (are_distinct (label_names_of c.args.statements.now)) ≡ None =
    λ n. distinct_none ns (ap (λ es. more (map entry_view es) (labelled ns)) (sym c.new-region.ensures.empty) ∙ c.in_err-declare_labels.ensures.given n) in
    passed_on _ _ c.in_err-declare_labels.field-0.0 _ c.from_residual.result c.from_residual.ensures.1 (λ e p. p) f

pub returns-clause-given : goal.returns-clause-given
returns-clause-given c =
    let ns = label_names_of c.args.statements.now in
    distinct_some ns _ (ap (λ es. more (map entry_view es) (labelled ns)) (sym c.new-region.ensures.empty) ∙ c.in_ok-declare_labels.ensures.given)

pub returns-in_err-declare_labels-clause-told : goal.returns-in_err-declare_labels-clause-told
returns-in_err-declare_labels-clause-told c =
    let ls = labels_in c.args.statements.now in
    let f : Tells (twice [] (labels_in c.args.statements.now)) c.in_err-declare_labels.field-0.0 =
    subst (λ es. Tells (standing_twice (map entry_view es) ls) c.in_err-declare_labels.field-0.0) c.new-region.ensures.empty c.in_err-declare_labels.ensures.told in
    told_by _ c.in_err-declare_labels.field-0.0 _ c.from_residual.result c.from_residual.ensures.1 (λ e p. p) f
