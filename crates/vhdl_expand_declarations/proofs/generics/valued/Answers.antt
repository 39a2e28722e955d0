use Rattle.std.proofs.Common.{ap}
use Rattle.vhdl_names_units.specs.views.Answers.{fixed_view}
use Rattle.vhdl_names_units.specs.views.Declarations.{generic_type_view}
use Rattle.vhdl_expand_rules.specs.Declarations as definition
use Rattle.vhdl_expand_operands.proofs.Passing.{expands_along}
use Rattle.vhdl_expand_bodies.specs.Sites.{site_view}
use Rattle.vhdl_expand_declarations.proofs.generics.valued.Goals as goal

pub returns-in-Truths : goal.returns-in-Truths
returns-in-Truths c =
    let from = site_view c.args.from.now in
    let own = site_view c.args.own.now in
    expands_along _ _ _ _ (ap (λ t. definition.valued_generic from own c.args.at (generic_type_view t) (fixed_view c.args.value.now)) c.in-Truths.is) (c.truth.ensures own)
