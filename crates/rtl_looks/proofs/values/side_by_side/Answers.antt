use Rattle.std.proofs.Common.{◌+◌, List, length, Option, sym, subst, ◌∙◌, arith}
use Rattle.rtl_looks.specs.declared.hubs.Look.{Look}
use Rattle.rtl_looks.proofs.Elements.{Besides, besides_none, besides_more, besides_all}
use Rattle.rtl_looks.proofs.Shifting.{least}
use Rattle.rtl_looks.proofs.values.side_by_side.Goals as goal

pub loop-place-init : goal.loop-place-init
loop-place-init c =
    let hs = c.args.hubs.now.hubs.items in
    subst (λ (xs : List (Option Look)). Besides hs hs c.args.left.now c.args.right.now 0 xs) (sym c.in_ok-both.ensures.items) (besides_none hs c.args.left.now c.args.right.now)

pub loop-place-preserved : goal.loop-place-preserved
loop-place-preserved c =
    let fewest = c.min-fewest.ensures ∙ least (length c.args.left.now) (length c.args.right.now) in
    subst (λ (xs : List (Option Look)). Besides c.args.hubs.now.hubs.items c.join.new.self.hubs.items c.args.left.now c.args.right.now (c.loop-place.place + 1) xs) (sym c.in_ok-push.ensures.items)
    (besides_more c.at.result c.at-in-loop-place.result (omega arith) (omega arith) c.at.ensures c.at-in-loop-place.ensures c.loop-place.invariant c.in_ok-look.ensures)

pub returns : goal.returns
returns c =
    let fewest = c.min-fewest.ensures ∙ least (length c.args.left.now) (length c.args.right.now) in
    besides_all (omega arith) c.loop-place.invariant
