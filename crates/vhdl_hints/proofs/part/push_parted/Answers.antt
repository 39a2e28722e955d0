use Rattle.std.proofs.Common.{[]}
use Rattle.byte_streams.proofs.Writing.{Goes-next}
use Rattle.vhdl_hints.specs.Sayings.{parted}
use Rattle.vhdl_hints.proofs.part.push_parted.Goals as goal

pub loop-token-preserved : goal.loop-token-preserved
loop-token-preserved g c =
    Goes-next _ _ _ [] (parted c.args.text.now) c.args.tokens.now c.loop-token.token-index _ c.loop-token-test.true c.loop-token.invariant c.push_blank_and.ensures
