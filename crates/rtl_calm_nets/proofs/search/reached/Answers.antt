use Rattle.std.proofs.Common.{◌≡◌, length, arith}
use Rattle.rtl_calm_nets.proofs.Calming.{all_reached}
use Rattle.rtl_calm_nets.proofs.search.reached.Goals as goal

pub returns : goal.returns
returns c =
    let l = c.loop-place in
    let all : l.place ≡ length c.args.steps.now = (let h = l.auto.place-end in let g = c.loop-place-test.false in omega arith) in
    all_reached c.args.steps.now l.reached.items l.place l.invariant.so_many all l.invariant.so_far
