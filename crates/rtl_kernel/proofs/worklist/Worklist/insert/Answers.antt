use Rattle.std.proofs.Common.{Bool, false, true, refl, sym, ◌∙◌, arith}
use Rattle.std.proofs.lemmas.List.{get_or_default, length-set}
use Rattle.rtl_drives.proofs.Listing.{room_left, listed_more}
use Rattle.rtl_kernel.specs.worklists.Marked.{numbers_of}
use Rattle.rtl_kernel.proofs.Marks.{with_pushed, with_member}
use Rattle.rtl_kernel.proofs.worklist.Worklist.insert.Goals as goal

pub push_reserved-requires : goal.push_reserved-requires
push_reserved-requires c =
    let marks = c.self.inside.marks.items in
    let within = rw (← c.self.view_is) at c.requires in
    let none = get_or_default marks c.args.number false c.index.result.now within ∙ sym c.index.ensures ∙ c.if-index.false in
    let l = room_left (λ (b : Bool). b) false marks c.self.inside.members.items c.self.invariant.marked c.args.number true within refl none in
    omega (arith, l, c.self.invariant.reserved)

pub invariant_of-self : goal.invariant_of-self
invariant_of-self c =
    let marks = c.self.inside.marks.items in
    let within = rw (← c.self.view_is) at c.requires in
    let none = get_or_default marks c.args.number false c.index.result.now within ∙ sym c.index.ensures ∙ c.if-index.false in
    record {
      marked = rw (c.push_reserved.ensures.items) (listed_more (λ (b : Bool). b) false marks c.self.inside.members.items c.self.invariant.marked c.args.number true within refl none);
      reserved = omega (arith, c.self.invariant.reserved, c.push_reserved.ensures.capacity, length-set marks c.args.number true);
    }

pub returns-clause-with : goal.returns-clause-with
returns-clause-with c =
    rw (← c.self.view_is)
    (with_pushed _ _ c.args.number (length-set c.self.inside.marks.items c.args.number true) c.push_reserved.ensures.items)

pub returns-then-index-clause-with : goal.returns-then-index-clause-with
returns-then-index-clause-with c =
    let marks = c.self.inside.marks.items in
    let within = rw (← c.self.view_is) at c.requires in
    let held = get_or_default marks c.args.number false c.index.result.now within ∙ sym c.index.ensures ∙ c.if-index.true in
    rw (← c.self.view_is) (with_member (numbers_of c.self.inside) c.args.number (c.self.invariant.marked.are_all c.args.number held))
