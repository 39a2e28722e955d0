use Rattle.std.proofs.Common.{Option, refl, ap, ◌∙◌}
use Rattle.vhdl_tree.specs.View.{name_view}
use Rattle.vhdl_names_rules.specs.Rules.{◌>>=◌}
use Rattle.vhdl_names_rules.specs.Visibility.{Declared}
use Rattle.vhdl_names_rules.specs.Names.{Suffix}
use Rattle.vhdl_names_rules.specs.problems.Broken.{lacking}
use Rattle.vhdl_names_rules.specs.problems.Subtypes.{suffixed_problem, value_of}
use Rattle.vhdl_names_sight.specs.Views.{entry_of}
use Rattle.vhdl_names_trees.specs.views.Expressions.{typed_suffix_view}
use Rattle.vhdl_names_units.specs.views.Answers.{fixed_view}
use Rattle.vhdl_names_rules.proofs.Passing.{passed_on, told_first}
use Rattle.vhdl_names_values.specs.Fixing.{suffixed_value}
use Rattle.vhdl_names_rules.proofs.Along.{gives_along}
use Rattle.vhdl_names_values.proofs.Fixing.{name_fixed}
use Rattle.vhdl_names_expressions.proofs.Breaking.{told_as, refused_told}
use Rattle.vhdl_names_asked.proofs.ObjectNames.{name_told}
use Rattle.vhdl_names_values.proofs.BreakingValues.{fixed_as, value_is}
use Rattle.vhdl_names_values.proofs.fixed.fixed_name.Goals as goal

pub returns-in_err-entry-clause-given : goal.returns-in_err-entry-clause-given
returns-in_err-entry-clause-given c =
    let type = c.args.object_type in
    passed_on fixed_view _ _ _ c.from_residual.result c.from_residual.ensures.1 (λ e p. p)
    (λ n. name_fixed c.args.sight.now type (name_view c.args.name.now) ∙ ap (λ (o : Option (Declared × Suffix)). o >>= λ m. suffixed_value type m.0.meaning m.1) (c.in_err-entry.ensures.given n))

pub returns-clause-given : goal.returns-clause-given
returns-clause-given c =
    let type = c.args.object_type in
    gives_along fixed_view _ _ _
    (name_fixed c.args.sight.now type (name_view c.args.name.now) ∙ ap (λ (o : Option (Declared × Suffix)). o >>= λ m. suffixed_value type m.0.meaning m.1) c.in_ok-entry.ensures.given)
    c.suffixed.ensures.given

pub returns-in_err-entry-clause-told : goal.returns-in_err-entry-clause-told
returns-in_err-entry-clause-told c = told_as _ _ _ (fixed_as c.args.sight.now c.args.object_type (name_view c.args.name.now)) (told_first _ _ _ _ c.from_residual.result c.from_residual.ensures.1 (λ e p. p) c.in_err-entry.ensures.told)

pub returns-clause-told : goal.returns-clause-told
returns-clause-told c =
    let n = name_view c.args.name.now in
    let type = c.args.object_type in
    let d = entry_of n.identifier.text c.in_ok-entry.entry.now in
    let x = typed_suffix_view c.in_ok-entry.suffix in
    told_as _ _ _ (fixed_as c.args.sight.now type n)
    (name_told c.args.sight.now n (λ d x. lacking (suffixed_problem type d.meaning x) n.identifier.at (value_of type d.meaning x)) (d, x) _ c.in_ok-entry.ensures.given
    (told_as _ _ _ (ap (lacking (suffixed_problem type d.meaning x) n.identifier.at) (value_is type d.meaning x))
    (refused_told fixed_view (suffixed_problem type d.meaning x) n.identifier.at n.identifier.at (suffixed_value type d.meaning x) _ refl c.suffixed.ensures.given c.suffixed.ensures.told)))
