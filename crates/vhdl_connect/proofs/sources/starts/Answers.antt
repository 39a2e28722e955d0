use Rattle.std.proofs.Common.{◌<◌, length, arith, ap, ◌∙◌}
use Rattle.vhdl_connect.proofs.Resolving.{starts_next}
use Rattle.vhdl_connect.proofs.sources.starts.Goals as goal

pub loop-net-preserved : goal.loop-net-preserved
loop-net-preserved c =
    let l : c.loop-net.net < length c.args.held.now = omega (arith, c.loop-net-test.true, c.requires) in
    c.in_ok-push.ensures.items
    ∙ starts_next c.args.defaults.now c.args.held.now c.loop-net.net c.index-held-net.result c.as_slice.result.now c.in_ok-start.start c.loop-net.starts.items l
    (c.as_slice.ensures ∙ ap (λ v. v.items) c.index-held-net.is)
    c.in_ok-start.ensures c.loop-net.invariant
