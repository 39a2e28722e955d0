use Rattle.std.proofs.Common.{length, map, sym, ◌∙◌}
use Rattle.std.proofs.lemmas.List.{length-map}
use Rattle.vhdl_expand_rules.proofs.Behind.{found-front, found-behind}
use Rattle.vhdl_expand_bodies.specs.Sites.{constant_view}
use Rattle.vhdl_expand_bodies.proofs.Places.{seen_item}
use Rattle.vhdl_expand_bodies.proofs.site.Site.constant.Goals as goal

pub returns-in-None : goal.returns-in-None
returns-in-None c =
    let self = c.args.self.now in
    seen_item constant_view self.constants.now c.args.number c.get.result c.get.ensures.lookup
    ∙ sym (found-front (map constant_view self.constants.now) (map constant_view self.own_constants.now) c.args.number (length self.constants.now) c.checked_sub.result
    (sym (length-map self.constants.now constant_view)) c.checked_sub.ensures c.in-None.is)

pub returns-in-Some : goal.returns-in-Some
returns-in-Some c =
    let self = c.args.self.now in
    seen_item constant_view self.own_constants.now c.in-Some.number c.get-in-Some.result c.get-in-Some.ensures.lookup
    ∙ sym (found-behind (map constant_view self.constants.now) (map constant_view self.own_constants.now) c.args.number (length self.constants.now) c.checked_sub.result
    (sym (length-map self.constants.now constant_view)) c.checked_sub.ensures c.in-Some.number c.in-Some.is)
