use Rattle.std.proofs.Common.{◌≡◌, List, map, subst, sym, arith}
use Rattle.vhdl_expand_rules.specs.Site.{elements_count}
use Rattle.vhdl_expand_bodies.specs.declared.site.Placed.{Placed}
use Rattle.vhdl_expand_bodies.specs.Sites.{ArePlaced, placed_kind}
use Rattle.vhdl_expand_bodies.proofs.Placing.{placed_more, counted_more}
use Rattle.vhdl_expand_bodies.proofs.layout.Layout.add.Goals as goal

pub invariant_of-self : goal.invariant_of-self
invariant_of-self c =
    let s = c.args.self.now in
    let e = c.in_err-push.ensures.items in
    record {
      are_placed = subst (λ (ps : List Placed). ArePlaced ps) (sym e) s.are_placed;
      all_counted = subst (λ (ps : List Placed). s.elements ≡ elements_count (map placed_kind ps)) (sym e) s.all_counted;
    }

pub invariant_of-self-2 : goal.invariant_of-self-2
invariant_of-self-2 c =
    let s = c.args.self.now in
    let p : Placed = record { kind = c.args.kind; first = s.elements } in
    let e = c.in_ok-push.ensures.items in
    let h = counted_more s.things.items c.push.new.self.items p e in
    let k = s.all_counted in
    record {
      are_placed = placed_more s.things.items c.push.new.self.items p e s.are_placed (record { first = s.all_counted; width = c.requires.width });
      all_counted = omega (arith, h, k, c.size.ensures);
    }
