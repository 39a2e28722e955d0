use Rattle.std.proofs.Common.{[]}
use Rattle.byte_streams.proofs.Writing.{Goes-next}
use Rattle.rtlsim_refusals.specs.Places.{blank}
use Rattle.rtlsim_refusals.proofs.place.push_blanks.Goals as goal

pub loop-byte-preserved : goal.loop-byte-preserved
loop-byte-preserved g c =
    Goes-next _ _ _ [] blank c.args.bytes.now c.loop-byte.byte-index 0 c.loop-byte-test.true c.loop-byte.invariant c.push_blank.ensures
