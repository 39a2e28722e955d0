use Rattle.std.proofs.Common.{◌+◌, ◌++◌, ◌∷◌, [], length, map, take, take-add, drop, refl, arith, subst, sym}
use Rattle.std.proofs.lemmas.List.{length-map, length-take, length-drop}
use Rattle.std.proofs.lemmas.Slice.{pushed}
use Rattle.rtl_net.specs.Nets.{signal_view}
use Rattle.rtl_vcd.specs.Blocks.{AreBlocks}
use Rattle.rtl_vcd.proofs.Hulls.{one_block_more}
use Rattle.rtl_vcd.proofs.blocks.blocks_of.Goals as goal

pub loop-next-preserved : goal.loop-next-preserved
loop-next-preserved c =
    let signals = c.args.shown.signals.now in
    let names = map signal_view signals in
    let next = c.loop-next.next in
    let block = c.block_at-block.result in
    let types = length c.args.shown.net.now.types in
    let is = c.block_at-block.ensures.block in
    let items = pushed (block ∷ []) refl c.in_ok-push.was c.push.ensures.items in (
      subst (λ bs. AreBlocks types bs (take (next + block.names) names)) (sym items)
          (subst (AreBlocks types (c.loop-next.blocks.items ++ block ∷ [])) (sym (take-add next block.names names))
          (one_block_more types c.loop-next.blocks.items block (take next names) (take block.names (drop next names)) c.loop-next.invariant.0 is)),
      omega (arith, is.count, length-take block.names (drop next names), length-drop next names, length-map signals signal_view, c.loop-next.invariant.1),
    )
