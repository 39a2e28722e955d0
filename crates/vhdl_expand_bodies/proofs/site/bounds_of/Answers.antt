use Rattle.std.proofs.Common.{sym, ap, ◌∙◌}
use Rattle.std.specs.Borrow.{Bor}
use Rattle.std.specs.Prelude.{option_map}
use Rattle.vhdl_expand_rules.specs.Site as definition
use Rattle.vhdl_expand_rules.specs.views.Kinds.{bounds_view}
use Rattle.vhdl_expand_operands.proofs.Passing.{expands_along}
use Rattle.vhdl_expand_bodies.specs.declared.site.Placed.{Placed}
use Rattle.vhdl_expand_bodies.specs.Sites.{placed_kind}
use Rattle.vhdl_expand_bodies.proofs.Places.{seen_item, item_there}
use Rattle.vhdl_expand_bodies.proofs.site.bounds_of.Goals as goal

pub vector_bounds-requires : goal.vector_bounds-requires
vector_bounds-requires c =
    (c.requires c.args.number c.in-Some.thing.now (item_there c.args.things.now c.args.number c.get.result c.in-Some.thing c.get.ensures.lookup c.in-Some.is)).width

pub returns-in-Some-clause-given : goal.returns-in-Some-clause-given
returns-in-Some-clause-given c =
    expands_along bounds_view _ _ _
    (ap (definition.bounds_of c.args.at) (sym (seen_item placed_kind c.args.things.now c.args.number c.get.result c.get.ensures.lookup) ∙ ap (option_map (λ (b : Bor Placed). placed_kind b.now)) c.in-Some.is))
    c.vector_bounds.ensures.given
