use Rattle.std.proofs.Common.{◌≡◌, ◌<◌, length, min, add-one, ◌∙◌, arith}
use Rattle.std.proofs.lemmas.Grind.{common_steps}
use Rattle.rtl_expect.proofs.Wholes.{one_more, as_many}
use Rattle.rtl_expect.proofs.numbers.values_wanted.Goals as goal

pub loop-place-preserved : goal.loop-place-preserved
loop-place-preserved c =
    let place = c.loop-place.place in
    let there : place < length c.args.nets.now = omega (arith, c.min-count.ensures) in
    let more = one_more c.args.nets.now c.args.values.now place c.get.result there c.get.ensures in
    rw add-one (first_of (cc, grind (arith, common_steps)))

pub returns : goal.returns
returns c =
    let place = c.loop-place.place in
    let all : place ≡ min (length c.args.nets.now) (length c.args.values.now) = omega (arith, c.min-count.ensures) in
    c.loop-place.invariant ∙ as_many c.args.nets.now c.args.values.now place all
