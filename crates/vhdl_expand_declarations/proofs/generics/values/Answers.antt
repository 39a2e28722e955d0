use Rattle.std.proofs.Common.{ap, sym, ◌∙◌}
use Rattle.vhdl_names_units.specs.views.Answers.{fixed_view}
use Rattle.vhdl_expand_rules.specs.Declarations as definition
use Rattle.vhdl_expand_rules.specs.views.Kinds.{kind_view}
use Rattle.vhdl_expand_operands.proofs.Passing.{expands_along}
use Rattle.vhdl_expand_bodies.specs.Sites.{site_view}
use Rattle.vhdl_expand_declarations.proofs.Valued.{plain_values}
use Rattle.vhdl_expand_declarations.proofs.generics.values.Goals as goal

pub returns-in_default-clause-given : goal.returns-in_default-clause-given
returns-in_default-clause-given c =
    let from = site_view c.args.from.now in
    expands_along _ _ _ _
    (plain_values from from c.args.at (kind_view c.args.kind) c.args.value.now c.in_default.not-Aggregate
    ∙ ap (λ n. definition.fixed_values from c.args.at n (fixed_view c.args.value.now)) (sym c.size.ensures))
    c.fixed.ensures.given
