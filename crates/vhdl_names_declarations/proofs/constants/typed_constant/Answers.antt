use Rattle.std.proofs.Common.{sym, ap, ◌∙◌}
use Rattle.std.specs.Prelude.{option_map}
use Rattle.vhdl_tree.specs.View as tree
use Rattle.vhdl_names_rules.specs.Subtypes as subtypes
use Rattle.vhdl_names_rules.specs.Subtypes.{integers_of}
use Rattle.vhdl_names_rules.specs.Visibility.{declaration}
use Rattle.vhdl_names_rules.specs.views.Ranges.{base_view}
use Rattle.vhdl_names_rules.specs.problems.Declarations as broken
use Rattle.vhdl_names_rules.proofs.Passing.{told_first}
use Rattle.vhdl_names_sight.specs.Views.{entry_of}
use Rattle.vhdl_names_declarations.specs.Constants as typed
use Rattle.vhdl_names_values.proofs.Classed.{of_integers_class, of_others_class, given_by_class, given_integers, told_by_meaning}
use Rattle.vhdl_names_declarations.proofs.constants.typed_constant.Goals as goal

pub returns-in_err-mark-clause-told : goal.returns-in_err-mark-clause-told
returns-in_err-mark-clause-told c = told_first _ _ _ _ c.from_residual.result c.from_residual.ensures.1 (λ e p. p) c.in_err-mark.ensures.told

pub returns-in-Some-clause-given : goal.returns-in-Some-clause-given
returns-in-Some-clause-given c =
    let s = c.args.sight.now in
    let d = tree.constants_view c.args.declaration.now in
    let m = entry_of d.subtype.mark.text c.in_ok-mark.mark.now in
    let base = base_view c.in-Some.base in
    let found = sym (c.integers_of.ensures d.subtype.mark.text) ∙ ap (option_map base_view) c.in-Some.is in
    given_by_class typed.constant_view c.integer.result (typed.by_class s d) (declaration s d.subtype.mark.text) m subtypes.integers c.in_ok-mark.ensures.declared (of_integers_class m base found)
    (given_integers typed.constant_view c.integer.result (λ base. typed.integer s base d) (integers_of m) base found c.integer.ensures.given)

pub returns-in-Some-clause-told : goal.returns-in-Some-clause-told
returns-in-Some-clause-told c =
    let s = c.args.sight.now in
    let d = tree.constants_view c.args.declaration.now in
    let m = entry_of d.subtype.mark.text c.in_ok-mark.mark.now in
    let base = base_view c.in-Some.base in
    let found = sym (c.integers_of.ensures d.subtype.mark.text) ∙ ap (option_map base_view) c.in-Some.is in
    told_by_meaning s d.subtype.mark m subtypes.integers c.integer.result c.in_ok-mark.ensures.declared (of_integers_class m base found) (λ m k. broken.constants_by s d k) c.integer.ensures.told

pub returns-in-Booleans-clause-given : goal.returns-in-Booleans-clause-given
returns-in-Booleans-clause-given c =
    let s = c.args.sight.now in
    let d = tree.constants_view c.args.declaration.now in
    let m = entry_of d.subtype.mark.text c.in_ok-mark.mark.now in
    given_by_class typed.constant_view c.boolean.result (typed.by_class s d) (declaration s d.subtype.mark.text) m subtypes.booleans c.in_ok-mark.ensures.declared (rw c.in-Booleans.is at c.class_of.ensures) c.boolean.ensures.given

pub returns-in-Booleans-clause-told : goal.returns-in-Booleans-clause-told
returns-in-Booleans-clause-told c =
    let s = c.args.sight.now in
    let d = tree.constants_view c.args.declaration.now in
    let m = entry_of d.subtype.mark.text c.in_ok-mark.mark.now in
    told_by_meaning s d.subtype.mark m subtypes.booleans c.boolean.result c.in_ok-mark.ensures.declared (rw c.in-Booleans.is at c.class_of.ensures) (λ m k. broken.constants_by s d k) c.boolean.ensures.told

pub returns-in_default-class_of-clause-given : goal.returns-in_default-class_of-clause-given
returns-in_default-class_of-clause-given c =
    let s = c.args.sight.now in
    let d = tree.constants_view c.args.declaration.now in
    let m = entry_of d.subtype.mark.text c.in_ok-mark.mark.now in
    let none = sym (c.integers_of.ensures d.subtype.mark.text) ∙ ap (option_map base_view) c.in_default.is in
    given_by_class typed.constant_view c.other.result (typed.by_class s d) (declaration s d.subtype.mark.text) m subtypes.others c.in_ok-mark.ensures.declared
    (of_others_class m c.class_of.result c.class_of.ensures c.in_default-class_of.not-Booleans none) c.other.ensures.given

pub returns-in_default-class_of-clause-told : goal.returns-in_default-class_of-clause-told
returns-in_default-class_of-clause-told c =
    let s = c.args.sight.now in
    let d = tree.constants_view c.args.declaration.now in
    let m = entry_of d.subtype.mark.text c.in_ok-mark.mark.now in
    let none = sym (c.integers_of.ensures d.subtype.mark.text) ∙ ap (option_map base_view) c.in_default.is in
    told_by_meaning s d.subtype.mark m subtypes.others c.other.result c.in_ok-mark.ensures.declared
    (of_others_class m c.class_of.result c.class_of.ensures c.in_default-class_of.not-Booleans none) (λ m k. broken.constants_by s d k) c.other.ensures.told
