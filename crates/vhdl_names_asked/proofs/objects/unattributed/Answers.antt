use Rattle.std.proofs.Common.{option_map, ap, sym, ◌∙◌}
use Rattle.vhdl_tree.specs.View.{name_view, ident_view, attribute_view}
use Rattle.vhdl_names_rules.specs.declared.fault.NameFault.TheVariants.{At}
use Rattle.vhdl_names_rules.specs.declared.fault.NameProblem.TheVariants.{LeftOut}
use Rattle.vhdl_names_rules.specs.problems.Broken.{◌▸◌, refused}
use Rattle.vhdl_names_rules.specs.problems.Expressions.{meaning, typed_suffix, no_attribute}
use Rattle.vhdl_names_sight.specs.Views.{entry_of}
use Rattle.vhdl_names_trees.specs.views.Expressions.{typed_suffix_view}
use Rattle.vhdl_names_rules.proofs.Telling.{told_left, told_right}
use Rattle.vhdl_names_rules.proofs.kept.Expressions.{declared_kept, typed_suffix_kept}
use Rattle.vhdl_names_rules.proofs.Passing.{told_first, told_second}
use Rattle.vhdl_names_expressions.proofs.Breaking.{told_fault}
use Rattle.vhdl_names_asked.proofs.objects.unattributed.Goals as goal

pub returns-in_err-entry-clause-told : goal.returns-in_err-entry-clause-told
returns-in_err-entry-clause-told c = told_first _ _ _ _ c.from_residual.result c.from_residual.ensures.1 (λ e p. p) c.in_err-entry.ensures.told

pub returns-in_err-suffix-clause-told : goal.returns-in_err-suffix-clause-told
returns-in_err-suffix-clause-told c =
    told_second _ _ _ _ c.from_residual-in_err-suffix.result c.from_residual-in_err-suffix.ensures.1 (λ e p. p)
    (declared_kept c.args.sight.now (ident_view c.args.name.now.identifier) (entry_of c.args.name.now.identifier.text.items c.in_ok-entry.entry.now) c.in_ok-entry.ensures.declared)
    (told_left _ _ _ c.in_err-suffix.ensures.told)

pub returns-in-Some-clause-told : goal.returns-in-Some-clause-told
returns-in-Some-clause-told c =
    let s = c.args.sight.now in
    let n = name_view c.args.name.now in
    told_right (meaning s n.identifier) (typed_suffix s n.suffix ▸ no_attribute n.attribute) c.at.result
    (declared_kept s n.identifier (entry_of n.identifier.text c.in_ok-entry.entry.now) c.in_ok-entry.ensures.declared)
    (told_right (typed_suffix s n.suffix) (no_attribute n.attribute) c.at.result
    (typed_suffix_kept n.suffix s (typed_suffix_view c.in_ok-suffix.suffix) c.in_ok-suffix.ensures.given)
    (told_fault (no_attribute n.attribute) (At LeftOut c.attribute_start.result) c.at.result c.at.ensures
    (ap (λ a. no_attribute (option_map attribute_view a)) c.in-Some.is ∙ ap (λ p. refused LeftOut p) (sym c.attribute_start.ensures))))
