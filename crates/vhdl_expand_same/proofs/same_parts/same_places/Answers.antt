use Rattle.std.proofs.Common.{◌≡◌, length, sym, arith}
use Rattle.rtl_net.specs.Indices.{numbers}
use Rattle.vhdl_expand_same.proofs.Comparing.{alike}
use Rattle.vhdl_expand_same.proofs.same_parts.same_places.Goals as goal

pub returns : goal.returns
returns c =
    let left = numbers c.args.left.now in
    let right = numbers c.args.right.now in
    let same : length left ≡ length right = omega (arith, c.len.ensures, c.len-2.ensures) in
    sym (alike left right same (λ k below. c.loop-place.invariant k (omega (arith, below, c.len-place-end.ensures))))
