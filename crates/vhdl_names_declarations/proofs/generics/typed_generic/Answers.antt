use Rattle.std.proofs.Common.{◌≡◌, Result, Err, refl, sym, ap, subst, ◌∙◌}
use Rattle.std.specs.Prelude.{option_map}
use Rattle.vhdl_lexer.specs.declared.language.Language.TheVariants.{Profile, Wide}
use Rattle.vhdl_tree.specs.View as tree
use Rattle.vhdl_names_rules.specs.Rules.{is_wide}
use Rattle.vhdl_names_rules.specs.declared.fault.NameFault.{NameFault}
use Rattle.vhdl_names_rules.specs.declared.fault.NameFault.TheVariants.{At}
use Rattle.vhdl_names_rules.specs.problems.Broken.{Tells}
use Rattle.vhdl_names_rules.specs.Subtypes as subtypes
use Rattle.vhdl_names_rules.specs.Subtypes.{class_of, integers_of}
use Rattle.vhdl_names_rules.specs.Visibility.{declaration}
use Rattle.vhdl_names_rules.specs.views.Ranges.{base_view}
use Rattle.vhdl_names_rules.specs.problems.Declarations as broken
use Rattle.vhdl_names_rules.proofs.Passing.{told_first}
use Rattle.vhdl_names_sight.specs.Views.{entry_of}
use Rattle.vhdl_names_declarations.specs.declared.generics.TypedGeneric.{TypedGeneric}
use Rattle.vhdl_names_declarations.specs.Typed as typed
use Rattle.vhdl_names_declarations.proofs.Generality.{narrow_alone, narrow_told, where_wide, told_where_wide}
use Rattle.vhdl_names_values.proofs.Classed.{of_integers_class, of_others_class, given_by_class, given_integers, told_by_meaning}
use Rattle.vhdl_names_declarations.proofs.generics.typed_generic.Goals as goal

pub returns-in_err-mark-clause-told : goal.returns-in_err-mark-clause-told
returns-in_err-mark-clause-told c = told_first _ _ _ _ c.from_residual.result c.from_residual.ensures.1 (λ e p. p) c.in_err-mark.ensures.told

pub returns-in-Some-clause-given : goal.returns-in-Some-clause-given
returns-in-Some-clause-given c =
    let s = c.args.sight.now in
    let g = tree.generic_view c.args.generic.now in
    let m = entry_of g.subtype.mark.text c.in_ok-mark.mark.now in
    let base = base_view c.in-Some.base in
    let found = sym (c.integers_of.ensures g.subtype.mark.text) ∙ ap (option_map base_view) c.in-Some.is in
    given_by_class typed.generic_view c.integers.result (typed.by_class s g) (declaration s g.subtype.mark.text) m subtypes.integers c.in_ok-mark.ensures.declared (of_integers_class m base found)
    (given_integers typed.generic_view c.integers.result (λ base. typed.integers s base g) (integers_of m) base found c.integers.ensures.given)

pub returns-in-Some-clause-told : goal.returns-in-Some-clause-told
returns-in-Some-clause-told c =
    let s = c.args.sight.now in
    let g = tree.generic_view c.args.generic.now in
    let m = entry_of g.subtype.mark.text c.in_ok-mark.mark.now in
    let base = base_view c.in-Some.base in
    let found = sym (c.integers_of.ensures g.subtype.mark.text) ∙ ap (option_map base_view) c.in-Some.is in
    told_by_meaning s g.subtype.mark m subtypes.integers c.integers.result c.in_ok-mark.ensures.declared (of_integers_class m base found) (broken.generic_by s g) c.integers.ensures.told

pub returns-in-Profile-clause-given : goal.returns-in-Profile-clause-given
returns-in-Profile-clause-given c =
    let s = c.args.sight.now in
    let narrow : s.language ≡ Profile = rw (← c.sight.view_is) c.in-Profile.is in
    let g = tree.generic_view c.args.generic.now in
    let m = entry_of g.subtype.mark.text c.in_ok-mark.mark.now in
    let none = sym (c.integers_of.ensures g.subtype.mark.text) ∙ ap (option_map base_view) c.in_default.is in
    λ n. narrow_alone s g m narrow c.in_ok-mark.ensures.declared none

pub returns-in-Profile-clause-told : goal.returns-in-Profile-clause-told
returns-in-Profile-clause-told c =
    let s = c.args.sight.now in
    let narrow : s.language ≡ Profile = rw (← c.sight.view_is) c.in-Profile.is in
    let g = tree.generic_view c.args.generic.now in
    let m = entry_of g.subtype.mark.text c.in_ok-mark.mark.now in
    let none = sym (c.integers_of.ensures g.subtype.mark.text) ∙ ap (option_map base_view) c.in_default.is in
    let r : Result TypedGeneric NameFault = Err c.at.result in
    told_by_meaning s g.subtype.mark m (class_of m.meaning) r c.in_ok-mark.ensures.declared refl (broken.generic_by s g)
    (subst (Tells (broken.generic_by s g m.meaning (class_of m.meaning))) (sym (c.at.ensures ∙ ap (λ p. At p g.subtype.mark.at) c.generic_problem-problem.ensures)) (narrow_told s g m narrow none))

pub returns-in-Booleans-clause-given : goal.returns-in-Booleans-clause-given
returns-in-Booleans-clause-given c =
    let s = c.args.sight.now in
    let wide : s.language ≡ Wide = rw (← c.sight.view_is) c.in-Wide.is in
    let g = tree.generic_view c.args.generic.now in
    let m = entry_of g.subtype.mark.text c.in_ok-mark.mark.now in
    given_by_class typed.generic_view c.booleans.result (typed.by_class s g) (declaration s g.subtype.mark.text) m subtypes.booleans c.in_ok-mark.ensures.declared (rw c.in-Booleans.is at c.class_of.ensures)
    (where_wide typed.generic_view c.booleans.result s.language (typed.booleans s g) (ap is_wide wide) c.booleans.ensures.given)

pub returns-in-Booleans-clause-told : goal.returns-in-Booleans-clause-told
returns-in-Booleans-clause-told c =
    let s = c.args.sight.now in
    let wide : s.language ≡ Wide = rw (← c.sight.view_is) c.in-Wide.is in
    let g = tree.generic_view c.args.generic.now in
    let m = entry_of g.subtype.mark.text c.in_ok-mark.mark.now in
    told_by_meaning s g.subtype.mark m subtypes.booleans c.booleans.result c.in_ok-mark.ensures.declared (rw c.in-Booleans.is at c.class_of.ensures) (broken.generic_by s g)
    (told_where_wide c.booleans.result s.language (broken.generic_problem m.meaning) g.subtype.mark.at (typed.booleans_break s g) (ap is_wide wide) c.booleans.ensures.told)

pub returns-in_default-class_of-clause-given : goal.returns-in_default-class_of-clause-given
returns-in_default-class_of-clause-given c =
    let s = c.args.sight.now in
    let wide : s.language ≡ Wide = rw (← c.sight.view_is) c.in-Wide.is in
    let g = tree.generic_view c.args.generic.now in
    let m = entry_of g.subtype.mark.text c.in_ok-mark.mark.now in
    let none = sym (c.integers_of.ensures g.subtype.mark.text) ∙ ap (option_map base_view) c.in_default.is in
    given_by_class typed.generic_view c.others.result (typed.by_class s g) (declaration s g.subtype.mark.text) m subtypes.others c.in_ok-mark.ensures.declared
    (of_others_class m c.class_of.result c.class_of.ensures c.in_default-class_of.not-Booleans none)
    (where_wide typed.generic_view c.others.result s.language (typed.others s g) (ap is_wide wide) c.others.ensures.given)

pub returns-in_default-class_of-clause-told : goal.returns-in_default-class_of-clause-told
returns-in_default-class_of-clause-told c =
    let s = c.args.sight.now in
    let wide : s.language ≡ Wide = rw (← c.sight.view_is) c.in-Wide.is in
    let g = tree.generic_view c.args.generic.now in
    let m = entry_of g.subtype.mark.text c.in_ok-mark.mark.now in
    let none = sym (c.integers_of.ensures g.subtype.mark.text) ∙ ap (option_map base_view) c.in_default.is in
    told_by_meaning s g.subtype.mark m subtypes.others c.others.result c.in_ok-mark.ensures.declared
    (of_others_class m c.class_of.result c.class_of.ensures c.in_default-class_of.not-Booleans none) (broken.generic_by s g)
    (told_where_wide c.others.result s.language (broken.generic_problem m.meaning) g.subtype.mark.at (typed.others_break s g) (ap is_wide wide) c.others.ensures.told)
