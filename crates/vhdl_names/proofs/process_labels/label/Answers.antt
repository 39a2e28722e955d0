use Rattle.std.proofs.Common.{not, ap, sym, ◌∙◌}
use Rattle.vhdl_names_rules.specs.declared.fault.NameProblem.TheVariants.{Twice}
use Rattle.vhdl_names_rules.specs.Visibility.{is_among}
use Rattle.vhdl_names_rules.specs.problems.Broken.{unless}
use Rattle.vhdl_names_rules.specs.problems.Labels.{label_if_any}
use Rattle.vhdl_names_rules.specs.problems.Twice.{twice}
use Rattle.vhdl_tree.specs.View as tree
use Rattle.vhdl_names_rules.proofs.Telling.{told_on, told_same}
use Rattle.vhdl_names_units.specs.Once.{names_view}
use Rattle.vhdl_names.proofs.StandingTwice.{label_told}
use Rattle.vhdl_names.proofs.process_labels.label.Goals as goal

pub returns-in-Some-clause-told : goal.returns-in-Some-clause-told
returns-in-Some-clause-told c =
    told_on _ _ c.add_name.result (λ f. told_same _ _ f
    (ap (λ n. unless Twice c.in-Some.label.at (not (is_among n (names_view c.args.taken.now)))) c.deref.ensures.value
    ∙ label_told (names_view c.args.taken.now) (tree.ident_view c.in-Some.label)
    ∙ sym (ap (λ l. twice (names_view c.args.taken.now) (label_if_any (tree.option_ident_view l))) c.in-Some.is))) c.add_name.ensures.told
