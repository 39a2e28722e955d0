use Rattle.std.proofs.Common.{[]}
use Rattle.byte_streams.proofs.Writing.{Goes-next}
use Rattle.vhdl_slips.specs.Words.{read_of}
use Rattle.vhdl_hints.specs.Sayings.{code_text}
use Rattle.vhdl_hints.proofs.part.push_parts.Goals as goal

pub loop-part-preserved : goal.loop-part-preserved
loop-part-preserved g c =
    Goes-next _ _ _ [] (code_text (read_of c.args.words)) c.args.parts.now c.loop-part.part-index _ c.loop-part-test.true c.loop-part.invariant c.push_part.ensures
