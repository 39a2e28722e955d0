use Rattle.std.proofs.Common.{sym, ap, ◌∙◌}
use Rattle.std.specs.Prelude.{option_map}
use Rattle.vhdl_tree.specs.View as tree
use Rattle.vhdl_names_rules.specs.Rules.{◌>>=◌}
use Rattle.vhdl_names_rules.specs.Subtypes as subtypes
use Rattle.vhdl_names_rules.specs.Subtypes.{class_of, integers_of}
use Rattle.vhdl_names_rules.specs.Visibility.{declaration}
use Rattle.vhdl_names_rules.specs.views.Ranges.{base_view}
use Rattle.vhdl_names_rules.specs.problems.Subtypes as broken
use Rattle.vhdl_names_rules.proofs.Along.{gives_along}
use Rattle.vhdl_names_rules.proofs.Passing.{passed_on, told_first}
use Rattle.vhdl_names_units.specs.views.Answers.{subtype_view}
use Rattle.vhdl_names_sight.specs.Views.{entry_of}
use Rattle.vhdl_names_expressions.proofs.Breaking.{told_as}
use Rattle.vhdl_names_values.specs.Marking.{integer_object, object_by_class}
use Rattle.vhdl_names_values.proofs.Classed.{of_integers_class, of_others_class, given_by_class, given_integers, told_by_meaning}
use Rattle.vhdl_names_values.proofs.Indicated.{object_wide, wide_breaks}
use Rattle.vhdl_names_values.proofs.objects.wide_subtype.Goals as goal

pub returns-in_err-mark : goal.returns-in_err-mark
returns-in_err-mark c =
    let s = c.args.sight.now in
    let i = tree.subtype_view c.args.indication.now in
    record {
      given =
          passed_on subtype_view _ c.in_err-mark.field-0.0 _ c.from_residual.result c.from_residual.ensures.1 (λ e p. p)
          (λ n. object_wide s i c.requires ∙ ap (λ o. o >>= λ d. object_by_class s i d (class_of d.meaning)) (c.in_err-mark.ensures.declared n));
      told =
          told_as _ _ _ (wide_breaks s i c.requires)
          (told_first _ _ _ _ c.from_residual.result c.from_residual.ensures.1 (λ e p. p) c.in_err-mark.ensures.told);
    }

pub returns-in-Some : goal.returns-in-Some
returns-in-Some c =
    let s = c.args.sight.now in
    let i = tree.subtype_view c.args.indication.now in
    let m = entry_of i.mark.text c.in_ok-mark.mark.now in
    let base = base_view c.in-Some.base in
    let found = sym (c.integers_of.ensures i.mark.text) ∙ ap (option_map base_view) c.in-Some.is in
    record {
      given =
          gives_along subtype_view _ _ _ (object_wide s i c.requires)
          (given_by_class subtype_view c.integer_object.result (object_by_class s i) (declaration s i.mark.text) m subtypes.integers c.in_ok-mark.ensures.declared (of_integers_class m base found)
          (given_integers subtype_view c.integer_object.result (λ base. integer_object s base i) (integers_of m) base found c.integer_object.ensures.given));
      told =
          told_as _ _ _ (wide_breaks s i c.requires)
          (told_by_meaning s i.mark m subtypes.integers c.integer_object.result c.in_ok-mark.ensures.declared (of_integers_class m base found) (λ m k. broken.object_by s i k) c.integer_object.ensures.told);
    }

pub returns-in-Booleans : goal.returns-in-Booleans
returns-in-Booleans c =
    let s = c.args.sight.now in
    let i = tree.subtype_view c.args.indication.now in
    let m = entry_of i.mark.text c.in_ok-mark.mark.now in
    record {
      given =
          gives_along subtype_view _ _ _ (object_wide s i c.requires)
          (given_by_class subtype_view c.boolean_object.result (object_by_class s i) (declaration s i.mark.text) m subtypes.booleans c.in_ok-mark.ensures.declared (rw c.in-Booleans.is at c.class_of.ensures) c.boolean_object.ensures.given);
      told =
          told_as _ _ _ (wide_breaks s i c.requires)
          (told_by_meaning s i.mark m subtypes.booleans c.boolean_object.result c.in_ok-mark.ensures.declared (rw c.in-Booleans.is at c.class_of.ensures) (λ m k. broken.object_by s i k) c.boolean_object.ensures.told);
    }

pub returns-in_default-class_of : goal.returns-in_default-class_of
returns-in_default-class_of c =
    let s = c.args.sight.now in
    let i = tree.subtype_view c.args.indication.now in
    let m = entry_of i.mark.text c.in_ok-mark.mark.now in
    let none = sym (c.integers_of.ensures i.mark.text) ∙ ap (option_map base_view) c.in_default.is in
    let class = of_others_class m c.class_of.result c.class_of.ensures c.in_default-class_of.not-Booleans none in
    record {
      given =
          gives_along subtype_view _ _ _ (object_wide s i c.requires)
          (given_by_class subtype_view c.subtype.result (object_by_class s i) (declaration s i.mark.text) m subtypes.others c.in_ok-mark.ensures.declared class c.subtype.ensures.given);
      told =
          told_as _ _ _ (wide_breaks s i c.requires)
          (told_by_meaning s i.mark m subtypes.others c.subtype.result c.in_ok-mark.ensures.declared class (λ m k. broken.object_by s i k) c.subtype.ensures.told);
    }
