use Rattle.std.proofs.Common.{get_or, refl, arith}
use Rattle.rtl_net_groups.specs.declared.cuts.Cut.{Cut}
use Rattle.rtl_net_groups.proofs.Cutting.{no_cuts, cut_is, cuts_more, cuts_all}
use Rattle.rtl_net_groups.proofs.cuts.CutRow.new.Goals as goal

pub loop-place-init : goal.loop-place-init
loop-place-init c = rw (c.new.ensures.items, c.in_ok-with_capacity.ensures.items) (no_cuts c.args.of_net.now c.args.targets.now)

pub loop-place-preserved : goal.loop-place-preserved
loop-place-preserved c =
    let of_net = c.args.of_net.now in
    let targets = c.args.targets.now in
    let place = c.loop-place.place in
    let net = get_or targets place 0 in
    let cut : Cut = record { place = place; net = net; len = c.run_from-len.result; group = get_or of_net net 0 } in
    rw (c.in_ok-push.ensures.cuts, c.in_ok-push.ensures.numbers)
    (cuts_more of_net targets place c.loop-place.row.cuts.items c.loop-place.row.numbers.items c.loop-place.invariant cut
    (cut_is of_net targets place net _ _ refl refl c.run_from-len.ensures) refl)

pub returns : goal.returns
returns c =
    cuts_all c.args.of_net.now c.args.targets.now c.loop-place.place c.loop-place.row.cuts.items c.loop-place.row.numbers.items
    (omega (arith, c.loop-place-test.false)) c.loop-place.invariant
