use Rattle.std.proofs.Common.{option_map, sym, ◌∙◌}
use Rattle.vhdl_tree.specs.Tree as t
use Rattle.vhdl_tree.specs.View.{ident_view, suffix_view, attribute_view}
use Rattle.vhdl_names_rules.specs.declared.fault.NameFault.TheVariants.{At}
use Rattle.vhdl_names_rules.specs.declared.fault.NameProblem.TheVariants.{LeftOut}
use Rattle.vhdl_names_units.specs.views.Answers.{choice_view}
use Rattle.vhdl_names_sight.specs.Views.{meaning_view}
use Rattle.vhdl_names_rules.specs.problems.Broken.{Tells}
use Rattle.vhdl_names_rules.specs.problems.Choices as broken
use Rattle.vhdl_names_expressions.proofs.Breaking.{told_fault}
use Rattle.vhdl_names_values.proofs.BreakingChoices.{chosen_meaning, chosen_behind, chosen_bare}
use Rattle.vhdl_names_rules.proofs.Passing.{told_by}
use Rattle.vhdl_names_values.proofs.alternatives.chosen_name.Goals as goal

pub returns-in_err-meaning-clause-told : goal.returns-in_err-meaning-clause-told
returns-in_err-meaning-clause-told c =
    let s = c.args.sight.now in
    let n = c.args.name.now in
    let f : Tells (broken.chosen s c.args.object_type (t.named (ident_view n.identifier) (suffix_view n.suffix) (option_map attribute_view n.attribute))) c.in_err-meaning.field-0.0 =
    chosen_meaning s c.args.object_type (ident_view n.identifier) (suffix_view n.suffix) (option_map attribute_view n.attribute) c.in_err-meaning.field-0.0 c.in_err-meaning.ensures.told in
    told_by _ c.in_err-meaning.field-0.0 _ c.from_residual.result c.from_residual.ensures.1 (λ e p. p) f

pub returns-then-not-is_bare_name-clause-told : goal.returns-then-not-is_bare_name-clause-told
returns-then-not-is_bare_name-clause-told c =
    let s = c.args.sight.now in
    let n = c.args.name.now in
    told_fault (broken.chosen s c.args.object_type (t.named (ident_view n.identifier) (suffix_view n.suffix) (option_map attribute_view n.attribute))) (At LeftOut n.identifier.at) c.at.result c.at.ensures
    (chosen_behind s c.args.object_type (ident_view n.identifier) (suffix_view n.suffix) (option_map attribute_view n.attribute) (meaning_view c.in_ok-meaning.meaning.now) c.in_ok-meaning.ensures.meant (sym c.is_bare_name.ensures ∙ c.if-not-is_bare_name.true))

pub returns-clause-told : goal.returns-clause-told
returns-clause-told c =
    let n = c.args.name.now in
    chosen_bare c.args.sight.now c.args.object_type (ident_view n.identifier) (suffix_view n.suffix) (option_map attribute_view n.attribute) choice_view (meaning_view c.in_ok-meaning.meaning.now) _
    (sym c.is_bare_name.ensures ∙ c.if-not-is_bare_name.false) c.in_ok-meaning.ensures.meant c.named_choice.ensures.given c.named_choice.ensures.told
