use Rattle.std.proofs.Common.{sym, ap, ◌∙◌}
use Rattle.std.specs.Borrow.{Bor}
use Rattle.std.specs.Prelude.{option_map}
use Rattle.vhdl_expand_bodies.specs.declared.site.Placed.{Placed}
use Rattle.vhdl_expand_bodies.specs.Sites.{placed_kind}
use Rattle.vhdl_expand_bodies.proofs.Places.{seen_item}
use Rattle.vhdl_expand_bodies.proofs.site.kind_of.Goals as goal

pub returns-in-Some : goal.returns-in-Some
returns-in-Some c =
    ap (option_map (λ (b : Bor Placed). placed_kind b.now)) (sym c.in-Some.is) ∙ seen_item placed_kind c.args.things.now c.args.number c.get.result c.get.ensures.lookup

pub returns-in-None : goal.returns-in-None
returns-in-None c =
    ap (option_map (λ (b : Bor Placed). placed_kind b.now)) (sym c.in-None.is) ∙ seen_item placed_kind c.args.things.now c.args.number c.get.result c.get.ensures.lookup
