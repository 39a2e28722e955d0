use Rattle.std.proofs.Common.{sym, ap, ◌∙◌}
use Rattle.vhdl_names_units.specs.declared.answers.Fixed.{Fixed}
use Rattle.vhdl_names_units.specs.views.Answers.{fixed_view}
use Rattle.vhdl_expand_rules.specs.declared.fault.ElabProblem.TheVariants.{Index}
use Rattle.vhdl_expand_rules.specs.Declarations.{as_long_as, elements_of_value, fixed_values}
use Rattle.vhdl_expand_rules.specs.Elab.{◌>>=◌, item_or}
use Rattle.vhdl_expand_operands.proofs.Passing.{passed_on, on}
use Rattle.vhdl_expand_bodies.specs.Sites.{site_view}
use Rattle.vhdl_expand_processes.proofs.Fixing.{expands_computed}
use Rattle.vhdl_expand_processes.proofs.fixed_values.fixed.Goals as goal

pub returns-in-Literal-clause-given : goal.returns-in-Literal-clause-given
unfolding fixed_values
returns-in-Literal-clause-given c =
    expands_computed _ _ _ (ap (λ (f : Fixed). fixed_values (site_view c.args.site.now) c.args.at c.args.width.len (fixed_view f)) c.in-Literal.is)
    (rw c.deref.ensures.value at c.literal.ensures.given)

pub returns-in-Some-clause-given : goal.returns-in-Some-clause-given
unfolding fixed_values
returns-in-Some-clause-given c =
    expands_computed _ _ _
    (ap (λ (f : Fixed). fixed_values (site_view c.args.site.now) c.args.at c.args.width.len (fixed_view f)) c.in-Constant.is
    ∙ ap (λ o. item_or Index c.args.at o >>= λ d. as_long_as c.args.at c.args.width.len d.values) (sym c.in-Some.ensures)) c.as_long.ensures.given

pub returns-in-Encoded-clause-given : goal.returns-in-Encoded-clause-given
unfolding fixed_values
returns-in-Encoded-clause-given c =
    expands_computed _ _ _ (ap (λ (f : Fixed). fixed_values (site_view c.args.site.now) c.args.at c.args.width.len (fixed_view f)) c.in-Encoded.is) c.encoded.ensures.given

pub returns-in_err-selected-in-Given-clause-given : goal.returns-in_err-selected-in-Given-clause-given
unfolding fixed_values
returns-in_err-selected-in-Given-clause-given c =
    passed_on _ _ c.in_err-selected-in-Given.field-0.0 _ c.from_residual.result c.from_residual.ensures.1 (λ e p. p)
    (λ n. ap (λ (f : Fixed). fixed_values (site_view c.args.site.now) c.args.at c.args.width.len (fixed_view f)) c.in-Given.is
    ∙ on (λ v. elements_of_value c.args.at c.args.width.len v) _ _ (c.in_err-selected-in-Given.ensures n))

pub returns-in_ok-selected-in-Given-clause-given : goal.returns-in_ok-selected-in-Given-clause-given
unfolding fixed_values
returns-in_ok-selected-in-Given-clause-given c =
    expands_computed _ _ _
    (ap (λ (f : Fixed). fixed_values (site_view c.args.site.now) c.args.at c.args.width.len (fixed_view f)) c.in-Given.is
    ∙ on (λ v. elements_of_value c.args.at c.args.width.len v) _ _ c.in_ok-selected-in-Given.ensures) c.elements_of.ensures.given
