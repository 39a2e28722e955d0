use Rattle.rtl_latches.proofs.Telling.{touched-chain}
use Rattle.rtl_latches.proofs.parts.push_touched.Goals as goal

pub returns : goal.returns
returns c =
    λ n. touched-chain n c.args.nets.now.items _ _ _ _ c.args.part.now c.in_ok-extend_from_slice.ensures.items c.deref.ensures.value (c.in_ok-push_left.ensures n) c.deref-2.ensures.value
