use Rattle.std.proofs.Common.{sym, ap, ◌∙◌}
use Rattle.std.specs.Borrow.{Bor}
use Rattle.std.specs.Prelude.{Some, option_map}
use Rattle.vhdl_expand_rules.specs.declared.fault.ElabProblem.TheVariants.{Index}
use Rattle.vhdl_expand_rules.specs.Elab.{◌>>=◌, item_or}
use Rattle.vhdl_expand_rules.specs.Site as definition
use Rattle.vhdl_expand_rules.specs.views.Kinds.{bounds_view}
use Rattle.vhdl_expand_operands.proofs.Passing.{expands_along}
use Rattle.vhdl_expand_bodies.specs.declared.constant.Constant.{Constant}
use Rattle.vhdl_expand_bodies.specs.Sites.{constant_view}
use Rattle.vhdl_expand_bodies.proofs.site.Site.constant_bounds.Goals as goal

pub returns-in-Some-clause-given : goal.returns-in-Some-clause-given
returns-in-Some-clause-given c =
    expands_along bounds_view _ _ _
    (ap (λ o. item_or Index c.args.at o >>= λ k. definition.bounds_of c.args.at (Some k.kind)) (sym c.constant.ensures ∙ ap (option_map (λ (b : Bor Constant). constant_view b.now)) c.in-Some.is))
    c.vector_bounds.ensures.given
