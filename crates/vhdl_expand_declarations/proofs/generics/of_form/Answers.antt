use Rattle.vhdl_names_units.specs.views.Answers.{fixed_view, form_view}
use Rattle.vhdl_expand_rules.specs.views.Kinds.{kind_view}
use Rattle.vhdl_expand_operands.proofs.Passing.{passed_on}
use Rattle.vhdl_expand_bodies.specs.Sites.{site_view}
use Rattle.vhdl_expand_declarations.proofs.Valued.{other_valued, other_refused}
use Rattle.vhdl_expand_declarations.proofs.generics.of_form.Goals as goal

pub returns : goal.returns
returns c =
    other_valued (site_view c.args.from.now) (site_view c.args.own.now) c.args.at (form_view c.args.form.now) (fixed_view c.args.value.now) (kind_view c.in_ok-kind.kind) c.in_ok-kind.ensures.given _ c.in_ok-values.ensures.given

pub returns-in_err-values : goal.returns-in_err-values
returns-in_err-values c =
    passed_on _ _ c.in_err-values.field-0.0 _ c.from_residual-in_err-values.result c.from_residual-in_err-values.ensures.1 (λ e p. p)
    (λ n. other_refused (site_view c.args.from.now) (site_view c.args.own.now) c.args.at (form_view c.args.form.now) (fixed_view c.args.value.now) (kind_view c.in_ok-kind.kind) c.in_ok-kind.ensures.given (c.in_err-values.ensures.given n))
